-- What the code's components show.
use Rattle.std.specs.Prelude.{List, map}
use Rattle.entry_table.specs.declared.component.Component.{Component}
use Rattle.entry_table.specs.declared.component.Component.TheVariants as code
use Rattle.mg_model.specs.Entries as spec

abbrev pub shown : Component → spec.Component
shown (code.Links values) = spec.links values
shown (code.Spots t values) = spec.spots t values
shown (code.Modes t values) = spec.modes t values
shown (code.Events i values) = spec.events i values
shown (code.Plays i values) = spec.plays i values
shown (code.Contexts j values) = spec.contexts j values
shown (code.Remotes k values) = spec.remotes k values
shown (code.Cuts t u values) = spec.cuts t u values

abbrev pub shown_all : List Component → List spec.Component
shown_all = map shown
