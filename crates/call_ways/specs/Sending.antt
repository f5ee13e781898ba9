-- How far the commands of a state have been gone through. No public clause speaks of these words.
use Rattle.std.specs.Prelude.{◌≡◌, Bool, true, false, List, [], ◌∷◌, Option, Some, None}
use Rattle.mg_model.specs.declared.commands.Command.{Command}
use Rattle.mg_model.specs.Script.{Script}
use Rattle.mg_model.specs.Configuration.{Configuration}
use Rattle.mg_model.specs.Effects.{effect}
use Rattle.call_ways.specs.declared.fates.Fate.{Fate}
use Rattle.call_ways.specs.declared.fates.Fate.TheVariants as fate

-- what becomes of a command: whether the request has it, whether the gateway comes to it, whether it is legal there
abbrev pub fate_of : Bool → Bool → Bool → Fate
fate_of false reached legal = fate.LeftOut
fate_of true false legal = fate.NotReached
fate_of true true false = fate.Refused
fate_of true true true = fate.Done

-- the configuration behind it
abbrev pub config_after : Script → Configuration → Command → Fate → Configuration
config_after script c command fate.Done = effect script c command
config_after script c command fate.LeftOut = c
config_after script c command fate.NotReached = c
config_after script c command fate.Refused = c

-- whether the gateway comes to the next command of the request
abbrev pub reached_after : Bool → Fate → Bool
reached_after reached fate.LeftOut = reached
reached_after reached fate.Done = true
reached_after reached fate.NotReached = false
reached_after reached fate.Refused = false

-- the request with its first command in front
abbrev pub ahead : Option Command → List Command → List Command
ahead None rest = []
ahead (Some first) rest = first ∷ rest

-- the next command of the request, and what is left behind it, when one has had its fate
abbrev pub IsNextAfter : Option Command → List Command → Fate → Option Command → List Command → Type 0
IsNextAfter next rest fate.LeftOut new left = (new ≡ next) × (left ≡ rest)
IsNextAfter next rest fate.Done new left = rest ≡ ahead new left
IsNextAfter next rest fate.NotReached new left = rest ≡ ahead new left
IsNextAfter next rest fate.Refused new left = rest ≡ ahead new left
