-- A shift and a mask read a field.
use Rattle.configuration.specs.Fields.{field_of}
use Rattle.configuration.proofs.FieldLemmas.{masked}
use Rattle.configuration.proofs.fields.field.Goals as goal

pub returns-clause-value : goal.returns-clause-value
unfolding field_of
returns-clause-value c = masked _ c.args.bits c.requires.size
