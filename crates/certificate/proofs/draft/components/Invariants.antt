-- What was read so far is what the keys so far mean.
use Rattle.certificate.specs.Components.{component_meant}
use Rattle.entry_table.specs.Shown.{shown_all}
use Rattle.certificate.proofs.Each.{IsReadTo}
use Rattle.certificate.proofs.draft.components.Given as goal

abbrev pub invariant-loop-key : goal.invariant-loop-key
invariant-loop-key l = IsReadTo (component_meant l.script l.entry) l.keys l.key-index (shown_all l.found.items)
