-- A name is among the names exactly where it has a place.
use Rattle.std.proofs.Common.{ℕ, Option, ap, ◌∙◌}
use Rattle.std.specs.Prelude.{is_some}
use Rattle.scriptreader.proofs.FoundPlaces.{placed}
use Rattle.scriptreader.proofs.names.Names.has.Goals as goal

pub returns : goal.returns
returns c = rw (← c.self.view_is) (c.contains_key.ensures ∙ (ap (λ (place : Option ℕ). is_some place) (c.self.invariant c.args.name.now) ∙ placed c.args.name.now _))
