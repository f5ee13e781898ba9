-- One arrow more.
use Rattle.std.proofs.Common.{◌≡◌, ◌∙◌, ◌<◌, ℕ, List, Some, length, refl, sym, subst, arith}
use Rattle.std.specs.List.{slice_get}
use Rattle.std.proofs.lemmas.Option.{same_Some, slice_get_read, slice_get_within}
use Rattle.closure.proofs.FindingLemmas.{refuted}
use Rattle.call_ways.specs.declared.crossings.Crossing.{Crossing}
use Rattle.call_ways.specs.Meeting.{IsMetAt, Meets}
use Rattle.call_ways.proofs.Below.{none_found, none_more}
use Rattle.call_ways.proofs.commands.is_met.Goals as goal

pub returns-then-meets : goal.returns-then-meets
returns-then-meets c =
    let list : List Crossing = c.args.crossings.now in
    let i : ℕ = c.loop-crossing.crossing-index in
    let told : Crossing = c.crossing-item.result in
    let here : slice_get list i ≡ Some told = slice_get_read list (length list) i told refl c.loop-crossing-test.true c.crossing-item.is in
    ((λ _. (i, (told, (here, c.meets.ensures.0 c.if-meets.true)))), (λ _. refl))

pub loop-crossing-preserved : goal.loop-crossing-preserved
loop-crossing-preserved c =
    let list : List Crossing = c.args.crossings.now in
    let i : ℕ = c.loop-crossing.crossing-index in
    let told : Crossing = c.crossing-item.result in
    let here : slice_get list i ≡ Some told = slice_get_read list (length list) i told refl c.loop-crossing-test.true c.crossing-item.is in
    none_more (IsMetAt list c.args.state c.args.place c.args.it) i c.loop-crossing.invariant
    (λ met.
    let same : told ≡ met.0 = same_Some told met.0 (sym here ∙ met.1.0) in
    refuted c.meets.result c.if-meets.false
    (c.meets.ensures.1 (subst (λ (x : Crossing). Meets x c.args.state c.args.place c.args.it) (sym same) met.1.1)))

pub returns : goal.returns
returns c =
    let list : List Crossing = c.args.crossings.now in
    none_found (IsMetAt list c.args.state c.args.place c.args.it) c.loop-crossing.crossing-index c.loop-crossing.invariant
    (λ k met.
    let within : k < length list = slice_get_within list k met.0 met.1.0 in
    omega (arith, within, c.loop-crossing-test.false))
