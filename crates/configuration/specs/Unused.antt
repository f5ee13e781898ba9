-- How a configuration that no call has used is made, line by line. No public clause speaks of it.
use Rattle.std.specs.Prelude.{ℕ, nat_lt, if◌then◌else◌}
use Rattle.mg_model.specs.declared.commands.EventsName.{EventsName}
use Rattle.mg_model.specs.declared.commands.EventsName.TheVariants.{Empty}
use Rattle.mg_model.specs.declared.commands.Termination.TheVariants.{Line}
use Rattle.mg_model.specs.declared.components.Spot.TheVariants.{Null, Absent}
use Rattle.mg_model.specs.Configuration.{Configuration, with_of}
use Rattle.mg_model.specs.Updates.{with_at}

-- line i stands as one of so many unused lines
abbrev pub with_unused_line : ℕ → EventsName → ℕ → Configuration → Configuration
with_unused_line lines events i c = record c {
  spot = with_of c.spot (Line i) (if nat_lt i lines then Null else Absent);
  events = with_at c.events i (if nat_lt i lines then events else Empty);
}
