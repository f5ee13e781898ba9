-- Commands by the word that they are written with. No public clause speaks of these words.
use Rattle.std.specs.Prelude.{Bool, true, false}
use Rattle.mg_model.specs.declared.commands.Command.{Command}
use Rattle.mg_model.specs.declared.commands.Command.TheVariants.{AddLine, AddEphemeral, ModifyLine, ModifyEphemeral, MoveLine, MoveEphemeral, Subtract, SubtractAll, SetTopology}

abbrev pub is_add : Command → Bool
is_add (AddLine create j i options) = true
is_add (AddEphemeral create j k options) = true
is_add _ = false

abbrev pub is_modify : Command → Bool
is_modify (ModifyLine place i options) = true
is_modify (ModifyEphemeral place k options) = true
is_modify _ = false

abbrev pub is_move : Command → Bool
is_move (MoveLine j i options) = true
is_move (MoveEphemeral j k options) = true
is_move _ = false

abbrev pub is_subtract : Command → Bool
is_subtract (Subtract j t) = true
is_subtract (SubtractAll j) = true
is_subtract _ = false

abbrev pub is_topology : Command → Bool
is_topology (SetTopology j t u topology) = true
is_topology _ = false
