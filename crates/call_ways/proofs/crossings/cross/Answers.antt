-- The configurations are those that calls enter over the arrow.
use Rattle.std.proofs.Common.{◌≡◌, ◌∙◌, List, ap}
use Rattle.mg_model.specs.Entries.{Entry as Listed}
use Rattle.mg_model.specs.Script.{Script}
use Rattle.configuration.specs.Packed.{Words}
use Rattle.call_ways.specs.declared.arrows.Arrow.{Arrow}
use Rattle.call_ways.specs.Crossed.{entering, values_of}
use Rattle.call_ways.specs.Fates.{IsCrossing}
use Rattle.call_ways.specs.Passing.{IsTold}
use Rattle.call_ways.specs.Ways.{AreAll}
use Rattle.call_ways.proofs.GoneOver.{crossing_is}
use Rattle.call_ways.proofs.Moving.{if_ok}
use Rattle.call_ways.proofs.crossings.cross.Goals as goal

pub returns-clause-arrow : goal.returns-clause-arrow
returns-clause-arrow c =
    if_ok c.tell.result (IsTold c.args.script.now c.args.arrow (values_of c.as_slice.result.now)) (λ told. told.arrow ≡ c.args.arrow)
    (λ told is. is.arrow_is) c.tell.ensures

pub returns-clause-told : goal.returns-clause-told
returns-clause-told c =
    let script : Script = c.args.script.now in
    let reached : List Words = c.args.reached.now in
    let arrow : Arrow = c.args.arrow in
    let found : List Words = c.as_slice.result.now in
    let found_is : values_of found ≡ entering script (values_of reached) arrow.by arrow.from arrow.to =
    ap values_of c.as_slice.ensures.value ∙ c.in_ok-entering.ensures
    ∙ ap (λ (configs : List Words). entering script (values_of configs) arrow.by arrow.from arrow.to) c.configs.ensures in
    if_ok c.tell.result (IsTold script arrow (values_of found))
    (λ told. (entries : List Listed) → AreAll script entries reached → IsCrossing script entries told)
    (λ told is entries come. crossing_is script entries reached come arrow found found_is told is.arrow_is is) c.tell.ensures
