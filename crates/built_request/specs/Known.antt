-- The names that a request may use, as the definition has them.
use Rattle.std.specs.Prelude.{false, slice_index_or}
use Rattle.mg_model.specs.Request as request
use Rattle.built_request.specs.declared.names.Names.{Names}

unfoldable pub names_of : Names → request.Names
names_of n = record {
  contexts = λ j. slice_index_or n.contexts j false;
  ephemerals = λ k. slice_index_or n.ephemerals k false;
}
