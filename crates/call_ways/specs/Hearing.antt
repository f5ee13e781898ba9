-- The configuration that is asked whether one line hears another: lines that are joined in it are so in one direction alone. No public clause speaks of
-- these words.
use Rattle.std.specs.Prelude.{ℕ}
use Rattle.mg_names.specs.declared.modes.Mode.{Mode}
use Rattle.mg_names.specs.declared.modes.Mode.TheVariants.{Inactive, SendOnly, ReceiveOnly, SendReceive}
use Rattle.mg_model.specs.declared.commands.Termination.TheVariants.{Line}
use Rattle.mg_model.specs.Configuration.{Configuration, with_of}

-- the mode that lets out what another one does, and nothing in
abbrev pub only_out : Mode → Mode
only_out Inactive = Inactive
only_out SendOnly = SendOnly
only_out ReceiveOnly = Inactive
only_out SendReceive = SendOnly

-- the same configuration, but that line j lets nothing in
abbrev pub muted : Configuration → ℕ → Configuration
muted c j = record c { mode = with_of c.mode (Line j) (only_out (c.mode (Line j))) }
