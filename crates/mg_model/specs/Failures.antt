-- The code of a refusal that is chosen: a gateway may refuse any command with 500 or 510, and with no other (this profile's own).
use Rattle.mg_names.specs.declared.codes.Code.{Code}
use Rattle.mg_names.specs.declared.codes.Code.TheVariants as code
use Rattle.mg_model.specs.declared.failures.Refusal.{Refusal}
use Rattle.mg_model.specs.declared.failures.Refusal.TheVariants.{InternalFailure, InsufficientResources}

abbrev pub code_of : Refusal → Code
code_of InternalFailure = code.InternalFailure
code_of InsufficientResources = code.InsufficientResources
