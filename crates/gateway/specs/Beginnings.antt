-- A call that begins on the lines of one that has ended, which is retired. A reader should check when it may, which fault comes first,
-- and that the new call has the lines and nothing else of the old one.
use Rattle.std.specs.Prelude.{◌≡◌, ℕ, ◌==◌, Bool, true, false, not, ◌&&◌, ◌||◌, List, [], ◌∷◌, Option, Some, None, is_some, Result, Ok, Err}
use Rattle.std.specs.List.{list_any, list_all}
use Rattle.mg_names.specs.declared.identifiers.LineNo.{LineNo}
use Rattle.mg_names.specs.declared.identifiers.TermId.TheVariants.{Line}
use Rattle.mg_names.specs.declared.modes.Mode.{Mode}
use Rattle.mg_names.specs.declared.modes.Mode.TheVariants.{Inactive}
use Rattle.mg_names.specs.declared.strictness.Strict.TheVariants.{Exact}
use Rattle.mg_model.specs.declared.line_events.SignalSet.{SignalSet}
use Rattle.mg_model.specs.declared.rows.Row.{Row}
use Rattle.mg_model.specs.declared.transitions.EventItem.TheVariants.{OffHook}
use Rattle.mg_model.specs.Board.{Board}
use Rattle.mg_model.specs.Gateway.{MayBegin, begun}
use Rattle.mg_model.specs.LineEvents.{LineRow, ListItem}
use Rattle.gateway.specs.declared.fault.BeginFault.{BeginFault}
use Rattle.gateway.specs.declared.fault.BeginFault.TheVariants.{NoMemory, UnknownCall, Taken, CannotHappen}
use Rattle.gateway.specs.Calls.{OpenCall}
use Rattle.gateway.specs.GatewayValue.{GatewayValue, gateway_of, is_open, is_taken}

-- ---- when a call may begin on the lines of another

abbrev pub is_inactive : Mode → Bool
is_inactive Inactive = true
is_inactive mode = false

-- a row is that of a line in the null context that is Inactive
abbrev pub is_null : Option Row → Bool
is_null None = false
is_null (Some row) = row.place.0 == 0 && (is_inactive row.mode && not (is_some row.remote))

abbrev pub is_silent : SignalSet → Bool
is_silent set = not set.ring && (not set.dial_tone && (not set.ringing_tone && (not set.busy_tone && not set.congestion_tone)))

-- a list is `al/of` with `strict=exact`, alone
abbrev pub is_exactly_off : List ListItem → Bool
is_exactly_off (OffHook Exact ∷ []) = true
is_exactly_off list = false

abbrev pub is_ready_row : LineRow → Bool
is_ready_row row = is_silent row.playing && is_exactly_off row.list

-- a line is as a call needs it to begin
abbrev pub is_ready : Board → (ℕ → LineRow) → LineNo → Bool
is_ready b rows l = is_null (b.row (Line l)) && is_ready_row (rows l.0)

-- the ephemeral of a number stands, and its creator is a call
abbrev pub is_created_by : Option ℕ → ℕ → Bool
is_created_by None call = false
is_created_by (Some creator) call = creator == call

-- each line of a call is ready, and no ephemeral stands that it created
abbrev pub is_at_rest : Board → (ℕ → LineRow) → (ℕ → Option ℕ) → ℕ → OpenCall → Bool
is_at_rest b rows creator call c = list_all (is_ready b rows) c.lines && not (list_any (λ k. is_created_by (creator k) call) c.created)

-- ---- what is answered

-- the first fault that applies, but want of memory
abbrev pub CanBegin : GatewayValue → (old new : ℕ) → Result (Unit {0}) BeginFault → Type 0
CanBegin w old new (Ok _) = (is_open w old ≡ true) × (is_taken w new ≡ false) × MayBegin (gateway_of w) old
CanBegin w old new (Err UnknownCall) = is_open w old ≡ false
CanBegin w old new (Err Taken) = (is_open w old ≡ true) × (is_taken w new ≡ true)
CanBegin w old new (Err CannotHappen) = (is_open w old ≡ true) × (is_taken w new ≡ false) × (MayBegin (gateway_of w) old → ⊥)
CanBegin w old new (Err NoMemory) = ⊥

-- which calls are open after a call began on the lines of another
abbrev pub OpenBegun : GatewayValue → (old new : ℕ) → GatewayValue → Type 0
OpenBegun before old new after = (call : ℕ) → is_open after call ≡ ((call == new) || (not (call == old) && is_open before call))

-- the answer to a call that is to begin on the lines of another
abbrev pub IsBegun : GatewayValue → (old new : ℕ) → GatewayValue → Result (Unit {0}) BeginFault → Type 0
IsBegun before old new after (Ok _) =
    (is_open before old ≡ true) × (is_taken before new ≡ false) × MayBegin (gateway_of before) old
    × (gateway_of after ≡ begun (gateway_of before) old new)
    × OpenBegun before old new after
IsBegun before old new after (Err UnknownCall) = (is_open before old ≡ false) × (after ≡ before)
IsBegun before old new after (Err Taken) = (is_open before old ≡ true) × (is_taken before new ≡ true) × (after ≡ before)
IsBegun before old new after (Err CannotHappen) =
    (is_open before old ≡ true) × (is_taken before new ≡ false) × (MayBegin (gateway_of before) old → ⊥) × (after ≡ before)
IsBegun before old new after (Err NoMemory) = after ≡ before
