-- The error codes of H.248.1 that the gateway answers, by number and by name. A reader should check the six numbers.
use Rattle.std.specs.Prelude.{ℕ, List, codes, Option, Some, None, ◌==◌, if◌then◌else◌}
use Rattle.mg_names.specs.declared.codes.Code.{Code}
use Rattle.mg_names.specs.declared.codes.Code.TheVariants.{UnknownContext, UnknownTermination, AlreadyInContext, NotInContext, InternalFailure, InsufficientResources}

-- the number of a code
abbrev pub code_number : Code → ℕ
code_number UnknownContext = 411
code_number UnknownTermination = 430
code_number AlreadyInContext = 433
code_number NotInContext = 435
code_number InternalFailure = 500
code_number InsufficientResources = 510

-- its name
abbrev pub code_name : Code → List ℕ
code_name UnknownContext = codes "UnknownContext"
code_name UnknownTermination = codes "UnknownTermination"
code_name AlreadyInContext = codes "AlreadyInContext"
code_name NotInContext = codes "NotInContext"
code_name InternalFailure = codes "InternalFailure"
code_name InsufficientResources = codes "InsufficientResources"

-- the code of a number
abbrev pub code_numbered : ℕ → Option Code
code_numbered number =
    if number == 411 then Some UnknownContext else
    if number == 430 then Some UnknownTermination else
    if number == 433 then Some AlreadyInContext else
    if number == 435 then Some NotInContext else
    if number == 500 then Some InternalFailure else
    if number == 510 then Some InsufficientResources else
    None
