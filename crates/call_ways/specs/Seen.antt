-- What some configurations and some steps show. No public clause speaks of these words.
use Rattle.std.specs.Prelude.{◌≡◌, ℕ, List, Some, slice_get}
use Rattle.mg_model.specs.Script.{Script}
use Rattle.mg_model.specs.Steps.{Step}
use Rattle.configuration.specs.Packed.{Words}
use Rattle.configuration.specs.Config.{configuration_of}
use Rattle.call_ways.specs.declared.sights.Sight.{Sight}
use Rattle.call_ways.specs.Warnings.{Shows}

-- the one at a place shows it; one of these does
abbrev pub IsSeenAt : Script → List Words → Sight → ℕ → Type 0
IsSeenAt script configs what place = (w : Words) × ((slice_get configs place ≡ Some w) × Shows script (configuration_of w) what)

abbrev pub IsSeen : Script → List Words → Sight → Type 0
IsSeen script configs what = (place : ℕ) × IsSeenAt script configs what place

-- the one at a place leads to another state; one of these does
abbrev pub LeadsAway : List Step → ℕ → ℕ → Type 0
LeadsAway steps s n = (step : Step) × ((slice_get steps n ≡ Some step) × (step.1.state ≡ s → ⊥))

abbrev pub LeadAway : List Step → ℕ → Type 0
LeadAway steps s = (n : ℕ) × LeadsAway steps s n
