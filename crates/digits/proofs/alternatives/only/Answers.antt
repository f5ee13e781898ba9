use Rattle.std.proofs.Common.{◌≡◌, ◌∙◌, false, sym, ap, suc, ◌+◌, Some, arith, zero-add}
use Rattle.std.proofs.lemmas.List.Quantifiers.{position-Some}
use Rattle.digits.proofs.Remaining.{rest_whole, only_nowhere, one_alone, more_than_one}
use Rattle.digits.proofs.alternatives.only.Goals as goal

pub returns-in_default-clause-value : goal.returns-in_default-clause-value
returns-in_default-clause-value c = sym (only_nowhere 0 c.args.remaining.now (sym c.in_default.ensures))

pub returns-then-any_remains-clause-value : goal.returns-then-any_remains-clause-value
returns-then-any_remains-clause-value c =
    let at = position-Some (λ b. b) c.args.remaining.now c.in-Some.place false (sym c.in-Some.ensures) in
    let next : suc c.in-Some.place ≡ c.in-Some.place + 1 = omega arith in
    sym (more_than_one 0 c.args.remaining.now c.in-Some.place at.0 at.1 at.2 (rw (next, ← rest_whole c.args.remaining.now (c.in-Some.place + 1)) (sym c.if-any_remains.ensures)))

pub returns-clause-value : goal.returns-clause-value
returns-clause-value c =
    let at = position-Some (λ b. b) c.args.remaining.now c.in-Some.place false (sym c.in-Some.ensures) in
    let next : suc c.in-Some.place ≡ c.in-Some.place + 1 = omega arith in
    sym (one_alone 0 c.args.remaining.now c.in-Some.place at.0 at.1 at.2 (rw (next, ← rest_whole c.args.remaining.now (c.in-Some.place + 1)) (sym c.if-any_remains.ensures)) ∙ ap (λ k. Some k) (zero-add c.in-Some.place))

pub returns-clause-remains : goal.returns-clause-remains
returns-clause-remains c =
    let at = position-Some (λ b. b) c.args.remaining.now c.in-Some.place false (sym c.in-Some.ensures) in
    (at.0, at.1)
