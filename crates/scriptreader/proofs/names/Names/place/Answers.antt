-- The table finds a name's place.
use Rattle.std.proofs.Common.{◌∙◌}
use Rattle.scriptreader.proofs.names.Names.place.Goals as goal

pub returns : goal.returns
returns c = rw (← c.self.view_is) (c.copied.ensures ∙ (c.get.ensures.value ∙ c.self.invariant c.args.name.now))
