-- It is there, and none gives it another place.
use Rattle.std.proofs.Common.{◌∙◌, sym, ap}
use Rattle.mg_model.specs.Configuration.{is_present}
use Rattle.closure.proofs.formed_count.is_placed.Goals as goal

pub returns : goal.returns
returns c holds = (
  ap is_present (sym c.spot.ensures) ∙ sym c.is_present.ensures ∙ c.if-not-is_present.false,
  c.give_place.ensures c.if-give_place.false,
)
