use Rattle.std.proofs.Common.{refl, sym, subst, List, ℕ}
use Rattle.gateway.specs.Creators.{IsKeptOrNoted}
use Rattle.gateway.proofs.CreatorLemmas.{noted_more, noted_all, kept_or_noted}
use Rattle.gateway.proofs.creators.note.Goals as goal

pub loop-done-init : goal.loop-done-init
loop-done-init c k = refl

pub loop-done-preserved : goal.loop-done-preserved
loop-done-preserved c = noted_more c.args.results.now c.loop-done.done-index c.args.call c.done-item.result c.args.creators.now.entries c.loop-done.creators.entries c.note_one.new.creators.entries
    c.loop-done-test.true c.done-item.is c.loop-done.invariant c.in_ok-note_one.ensures.ok

pub returns-in_err-note_one-clause-some : goal.returns-in_err-note_one-clause-some
returns-in_err-note_one-clause-some c k =
    subst (λ (creators : List (ℕ × ℕ)). IsKeptOrNoted c.args.call c.args.results.now c.args.creators.now.entries creators k) (sym c.in_err-note_one.ensures.err)
    (kept_or_noted c.args.results.now c.loop-done.done-index c.args.call c.args.creators.now.entries c.loop-done.creators.entries c.loop-done.invariant k)

pub returns-clause-ok : goal.returns-clause-ok
returns-clause-ok c = noted_all c.args.results.now c.loop-done.done-index c.args.call c.args.creators.now.entries c.loop-done.creators.entries c.loop-done-test.false c.loop-done.invariant

pub returns-clause-some : goal.returns-clause-some
returns-clause-some c k = kept_or_noted c.args.results.now c.loop-done.done-index c.args.call c.args.creators.now.entries c.loop-done.creators.entries c.loop-done.invariant k
