-- They share a context, and none gives either another place.
use Rattle.std.proofs.Common.{◌∙◌, sym, ap}
use Rattle.mg_model.specs.declared.components.Spot.{Spot}
use Rattle.mg_model.specs.Paths.{is_shared}
use Rattle.configuration.specs.Config.{configuration_of}
use Rattle.closure.proofs.HullPaths.{shared_in}
use Rattle.closure.proofs.formed_count.stay_together.Goals as goal

pub returns : goal.returns
returns c holds = (
  shared_in ((configuration_of c.args.config.now).spot c.args.source.now) ((configuration_of c.args.config.now).spot c.args.sink.now)
      (ap (λ (spot : Spot). is_shared spot ((configuration_of c.args.config.now).spot c.args.sink.now)) (sym c.spot.ensures)
      ∙ ap (is_shared c.spot.result) (sym c.spot-2.ensures) ∙ sym c.is_shared.ensures ∙ c.if-not-is_shared.false),
  (c.give_place.ensures c.if-give_place.false, c.give_place-2.ensures c.if-give_place-2.false),
)
