-- The numbers that stand for the values of components in a packed configuration, each way. A reader should check them
-- against the table that the crate's words promise.
use Rattle.std.specs.Prelude.{ℕ, ◌+◌, ◌-◌, ◌==◌, nat_lt, Bool, true, false, not, if◌then◌else◌}
use Rattle.mg_names.specs.declared.modes.Mode.{Mode}
use Rattle.mg_names.specs.declared.modes.Mode.TheVariants.{Inactive, SendOnly, ReceiveOnly, SendReceive}
use Rattle.mg_names.specs.declared.phases.LinkPhase.{LinkPhase}
use Rattle.mg_names.specs.declared.phases.LinkPhase.TheVariants.{Sent, Answered, Failed, Resting}
use Rattle.mg_names.specs.declared.context_values.ContextValue.{ContextValue}
use Rattle.mg_names.specs.declared.context_values.ContextValue.TheVariants.{Free, Live, Stale}
use Rattle.mg_model.specs.declared.commands.EventsName.{EventsName}
use Rattle.mg_model.specs.declared.commands.EventsName.TheVariants.{Empty, Armed, Own}
use Rattle.mg_model.specs.declared.components.Spot.{Spot}
use Rattle.mg_model.specs.declared.components.Spot.TheVariants.{Absent, Null, In}
use Rattle.mg_model.specs.declared.components.Remote.{Remote}
use Rattle.mg_model.specs.declared.components.Remote.TheVariants.{Unset, Gone, To}

abbrev pub link_code : LinkPhase → ℕ
link_code Sent = 0
link_code Answered = 1
link_code Failed = 2
link_code Resting = 3

abbrev pub link_at : ℕ → LinkPhase
link_at n = if n == 0 then Sent else if n == 1 then Answered else if n == 2 then Failed else Resting

abbrev pub mode_code : Mode → ℕ
mode_code Inactive = 0
mode_code SendOnly = 1
mode_code ReceiveOnly = 2
mode_code SendReceive = 3

abbrev pub mode_at : ℕ → Mode
mode_at n = if n == 0 then Inactive else if n == 1 then SendOnly else if n == 2 then ReceiveOnly else SendReceive

abbrev pub context_code : ContextValue → ℕ
context_code Free = 0
context_code Live = 1
context_code Stale = 2

abbrev pub context_at : ℕ → ContextValue
context_at n = if n == 0 then Free else if n == 1 then Live else Stale

abbrev pub flag_code : Bool → ℕ
flag_code false = 0
flag_code true = 1

abbrev pub flag_at : ℕ → Bool
flag_at n = not (n == 0)

abbrev pub events_code : EventsName → ℕ
events_code Empty = 0
events_code Armed = 1
events_code (Own k) = k + 2

abbrev pub events_at : ℕ → EventsName
events_at n = if n == 0 then Empty else if n == 1 then Armed else if nat_lt n 18 then Own (n - 2) else Empty

abbrev pub line_spot_code : Spot → ℕ
line_spot_code Null = 0
line_spot_code (In j) = j + 1
line_spot_code Absent = 5

abbrev pub line_spot_at : ℕ → Spot
line_spot_at n = if n == 0 then Null else if nat_lt n 5 then In (n - 1) else Absent

abbrev pub ephemeral_spot_code : Spot → ℕ
ephemeral_spot_code Absent = 0
ephemeral_spot_code (In j) = j + 1
ephemeral_spot_code Null = 5

abbrev pub ephemeral_spot_at : ℕ → Spot
ephemeral_spot_at n = if n == 0 then Absent else if nat_lt n 5 then In (n - 1) else Null

abbrev pub remote_code : Remote → ℕ
remote_code Unset = 0
remote_code Gone = 1
remote_code (To k) = k + 2

abbrev pub remote_at : ℕ → Remote
remote_at n = if n == 0 then Unset else if n == 1 then Gone else if nat_lt n 6 then To (n - 2) else Unset
