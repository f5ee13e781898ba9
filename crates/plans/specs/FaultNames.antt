-- The faults of a plan: their numbers, which are their order of precedence, and their names.
use Rattle.std.specs.Prelude.{ℕ, List, codes}
use Rattle.plans.specs.declared.fault.PlanFault.{PlanFault}
use Rattle.plans.specs.declared.fault.PlanFault.TheVariants.{NotToml, BadStep, TooMany}

abbrev pub number_of : PlanFault → ℕ
number_of NotToml = 1
number_of BadStep = 2
number_of TooMany = 3

abbrev pub name_of : PlanFault → List ℕ
name_of NotToml = codes "NotToml"
name_of BadStep = codes "BadStep"
name_of TooMany = codes "TooMany"
