-- The faults of a script: their numbers, which are their order of precedence, and their names.
use Rattle.std.specs.Prelude.{ℕ, List, codes}
use Rattle.scriptreader.specs.declared.fault.ScriptFault.{ScriptFault}
use Rattle.scriptreader.specs.declared.fault.ScriptFault.TheVariants.{NotToml, BadKey, BadName, Duplicate, Unknown, BadMap, NoStart, NoRestart, NoFault, OkWithoutActions, EndWithTransitions, MadeAndSubtracted, TooMany}

abbrev pub number_of : ScriptFault → ℕ
number_of NotToml = 1
number_of BadKey = 2
number_of BadName = 3
number_of Duplicate = 4
number_of Unknown = 5
number_of BadMap = 6
number_of NoStart = 7
number_of NoRestart = 8
number_of NoFault = 9
number_of OkWithoutActions = 10
number_of EndWithTransitions = 11
number_of MadeAndSubtracted = 12
number_of TooMany = 13

abbrev pub name_of : ScriptFault → List ℕ
name_of NotToml = codes "NotToml"
name_of BadKey = codes "BadKey"
name_of BadName = codes "BadName"
name_of Duplicate = codes "Duplicate"
name_of Unknown = codes "Unknown"
name_of BadMap = codes "BadMap"
name_of NoStart = codes "NoStart"
name_of NoRestart = codes "NoRestart"
name_of NoFault = codes "NoFault"
name_of OkWithoutActions = codes "OkWithoutActions"
name_of EndWithTransitions = codes "EndWithTransitions"
name_of MadeAndSubtracted = codes "MadeAndSubtracted"
name_of TooMany = codes "TooMany"
