-- Where a command finds its terminations, if it is legal and leaves them there. No public clause speaks of these words.
use Rattle.std.specs.Prelude.{IsTrue, List}
use Rattle.mg_model.specs.declared.commands.Command.{Command}
use Rattle.mg_model.specs.declared.commands.Command.TheVariants.{AddLine, AddEphemeral, ModifyLine, ModifyEphemeral, MoveLine, MoveEphemeral, Subtract, SubtractAll, SetTopology}
use Rattle.mg_model.specs.declared.commands.Place.{Place}
use Rattle.mg_model.specs.declared.commands.Place.TheVariants.{NullContext, Context}
use Rattle.mg_model.specs.declared.commands.Termination.TheVariants.{Line, Ephemeral}
use Rattle.mg_model.specs.declared.components.Spot.{Spot}
use Rattle.mg_model.specs.declared.components.Spot.TheVariants.{Null, In}
use Rattle.mg_model.specs.Configuration.{Configuration, with_of}
use Rattle.mg_model.specs.Effects.{is_legal}
use Rattle.closure.specs.Hulls.{IsInHull}

abbrev pub spot_at : Place → Spot
spot_at NullContext = Null
spot_at (Context j) = In j

-- a configuration in which they are there
abbrev pub found : Command → Configuration → Configuration
found (AddLine create j i options) d = d
found (AddEphemeral create j k options) d = d
found (ModifyLine place i options) d = record d { spot = with_of d.spot (Line i) (spot_at place) }
found (ModifyEphemeral place k options) d = record d { spot = with_of d.spot (Ephemeral k) (spot_at place) }
found (MoveLine j i options) d = d
found (MoveEphemeral j k options) d = d
found (Subtract j t) d = d
found (SubtractAll j) d = d
found (SetTopology j t u topology) d = record d { spot = with_of (with_of d.spot t (In j)) u (In j) }

-- all in the hull of some in which a command is legal is in the hull of others
abbrev pub AreFound : List Configuration → Command → List Configuration → Type 0
AreFound some command made = (c : Configuration) → IsInHull some c → IsTrue (is_legal c command) → IsInHull made c
