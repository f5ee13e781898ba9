-- The part has something for each.
use Rattle.std.proofs.Common.{map, rules}
use Rattle.std.proofs.lemmas.Result.{IfOk-weaker}
use Rattle.configuration.specs.Config.{configuration_of}
use Rattle.entry_table.specs.Shown.{shown}
use Rattle.closure.specs.Parts.{IsPart}
use Rattle.closure.proofs.HullLemmas.{each_led}
use Rattle.closure.proofs.hull_parts.part_each.Goals as goal

pub returns : goal.returns
returns c =
    IfOk-weaker c.map.result _ _ (λ m all. each_led _ _ (IsPart (shown c.args.component.now) c.args.allowed (configuration_of c.args.like.now)) c.args.hull.now m all
    (λ x y e. search rules)) c.map.ensures
