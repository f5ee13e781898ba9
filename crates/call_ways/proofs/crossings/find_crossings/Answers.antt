-- One arrow more; at the end none is left.
use Rattle.std.proofs.Common.{◌≡◌, ◌∙◌, ◌+◌, [], ℕ, List, drop, subst}
use Rattle.std.proofs.lemmas.List.{drop_all}
use Rattle.mg_model.specs.Script.{Script}
use Rattle.configuration.specs.Packed.{Words}
use Rattle.configuration.proofs.NumberLemmas.{at}
use Rattle.call_ways.specs.declared.arrows.Arrow.{Arrow}
use Rattle.call_ways.proofs.GoneOver.{AreSoFar, all_crossings, none_so_far, one_so_far}
use Rattle.call_ways.proofs.crossings.find_crossings.Goals as goal

pub loop-arrow-init : goal.loop-arrow-init
loop-arrow-init c =
    none_so_far c.args.script.now c.args.reached.now c.as_slice-each.result.now c.new-list.result.items c.new-list.ensures.items

pub loop-arrow-preserved : goal.loop-arrow-preserved
loop-arrow-preserved c =
    let each : List Arrow = c.as_slice-each.result.now in
    let i : ℕ = c.loop-arrow.arrow-index in
    let arrow : Arrow = c.arrow-item.result in
    one_so_far c.args.script.now c.args.reached.now each c.loop-arrow.list.items c.push.new.list.items c.in_ok-crossing.crossing (drop i each) arrow
    (drop (i + 1) each) (at each i arrow c.loop-arrow-test.true c.arrow-item.is) c.in_ok-crossing.ensures.arrow c.in_ok-crossing.ensures.told
    c.in_ok-push.ensures c.loop-arrow.invariant

pub returns : goal.returns
returns c =
    let script : Script = c.args.script.now in
    let reached : List Words = c.args.reached.now in
    let each : List Arrow = c.as_slice-each.result.now in
    let none : drop c.loop-arrow.arrow-index each ≡ [] = drop_all c.loop-arrow.arrow-index each c.loop-arrow-test.false in
    all_crossings script reached each c.loop-arrow.list.items (c.as_slice-each.ensures.value ∙ c.in_ok-all.ensures)
    (subst (λ (left : List Arrow). AreSoFar script reached each left c.loop-arrow.list.items) none c.loop-arrow.invariant)
