-- Commands that are refused in the whole hull of some configurations, since their termination stands elsewhere. No public clause speaks of these words.
use Rattle.std.specs.Prelude.{◌≡◌, Bool, true, false, List, Contains}
use Rattle.mg_model.specs.declared.commands.Command.{Command}
use Rattle.mg_model.specs.declared.commands.Command.TheVariants.{AddLine, AddEphemeral, ModifyLine, ModifyEphemeral, MoveLine, MoveEphemeral, Subtract, SubtractAll, SetTopology}
use Rattle.mg_model.specs.declared.commands.Termination.TheVariants.{Line, Ephemeral}
use Rattle.mg_model.specs.Configuration.{Configuration, is_in, is_live, is_null}
use Rattle.mg_model.specs.Effects.{is_elsewhere, stands_at}

-- the one component that a legal command asks for first: where its termination stands, or that all of a context are there to be subtracted
abbrev pub suits : Command → Configuration → Bool
suits (AddLine create j i options) c = is_null (c.spot (Line i))
suits (AddEphemeral create j k options) c = true
suits (ModifyLine place i options) c = stands_at (c.spot (Line i)) place
suits (ModifyEphemeral place k options) c = stands_at (c.spot (Ephemeral k)) place
suits (MoveLine j i options) c = is_elsewhere (c.spot (Line i)) j
suits (MoveEphemeral j k options) c = is_elsewhere (c.spot (Ephemeral k)) j
suits (Subtract j t) c = is_in (c.spot t) j
suits (SubtractAll j) c = is_live (c.context j)
suits (SetTopology j t u topology) c = is_in (c.spot t) j

-- it suits none of these
abbrev pub SuitsNone : List Configuration → Command → Type 0
SuitsNone some command = (d : Configuration) → Contains some d → suits command d ≡ false
