-- What a gateway keeps of each call that was opened, and which call holds a line, by number. A call that was retired keeps an empty
-- entry. A reader should check that the number under which a reply is kept is the reply's own, and when a call is retired.
use Rattle.std.specs.Prelude.{◌≡◌, ℕ, nat_eq, ◌==◌, Bool, true, false, if◌then◌else◌, List, [], Option, Some, None, is_some, option_map}
use Rattle.std.specs.Map.{lookup}
use Rattle.mg_names.specs.declared.identifiers.LineNo.{LineNo}
use Rattle.mg_model.specs.Delivery.{Link, offer, fresh}
use Rattle.mg_model.specs.Gateway.{CallLink, numbered}
use Rattle.mg_model.specs.Messages.{Reply}

-- an open call: the association of its link, the reply that is kept, how many notes were sent, the lines that it holds, and numbers
-- among which is that of each ephemeral that its requests created
pub record OpenCall : Type 0 where
  pub association : ℕ
  pub last : Option Reply
  pub notes : ℕ
  pub lines : List LineNo
  pub created : List ℕ

-- the link of delivery that a call has
abbrev pub delivery_link : OpenCall → Link Reply
delivery_link c = record { association = c.association; last = numbered c.last }

abbrev pub new_call : ℕ → List LineNo → OpenCall
new_call association lines = record { association = association; last = None; notes = 0; lines = lines; created = [] }

-- the entry of a call: its state while it is open, empty once it was retired; nothing where no call of this number was opened
unfoldable pub call_entry : List (ℕ × Option OpenCall) → ℕ → Option (Option OpenCall)
call_entry calls n = lookup (nat_eq n) calls

abbrev pub open_entry : Option (Option OpenCall) → Option OpenCall
open_entry None = None
open_entry (Some entry) = entry

abbrev pub is_retired_entry : Option (Option OpenCall) → Bool
is_retired_entry None = false
is_retired_entry (Some None) = true
is_retired_entry (Some (Some c)) = false

-- the open call with a number; nothing where no such call is open
abbrev pub call_in : List (ℕ × Option OpenCall) → ℕ → Option OpenCall
call_in calls n = open_entry (call_entry calls n)

-- whether a call was retired
abbrev pub is_retired_in : List (ℕ × Option OpenCall) → ℕ → Bool
is_retired_in calls n = is_retired_entry (call_entry calls n)

-- whether a call was opened: it is open, or was retired
abbrev pub is_taken_in : List (ℕ × Option OpenCall) → ℕ → Bool
is_taken_in calls n = is_some (call_entry calls n)

-- the entry of a line: the call that holds it, if one does; nothing where there is no such line
unfoldable pub line_entry : List (ℕ × Option ℕ) → ℕ → Option (Option ℕ)
line_entry holders l = lookup (nat_eq l) holders

-- the link of a call of the gateway; of a call that isn't open nothing is kept, and no note was sent
abbrev pub link_of : Option OpenCall → CallLink
link_of None = record { last = None; notes = 0 }
link_of (Some c) = record { last = c.last; notes = c.notes }

abbrev pub holder_of : Option (Option ℕ) → Option ℕ
holder_of None = None
holder_of (Some holder) = holder

-- the entries with that of one call changed, where it is open
abbrev pub with_call : (ℕ → Option (Option OpenCall)) → ℕ → (OpenCall → OpenCall) → ℕ → Option (Option OpenCall)
with_call entries call change n = if n == call then option_map (option_map change) (entries call) else entries n

-- the entries with a call retired
abbrev pub without_call : (ℕ → Option (Option OpenCall)) → ℕ → ℕ → Option (Option OpenCall)
without_call entries call n = if n == call then option_map (λ (entry : Option OpenCall). None) (entries call) else entries n

abbrev pub keeping : Reply → ℕ → OpenCall → OpenCall
keeping reply notes c = record c { last = Some reply; notes = notes }

abbrev pub counting : ℕ → OpenCall → OpenCall
counting notes c = record c { notes = notes }

abbrev pub creating : List ℕ → OpenCall → OpenCall
creating created c = record c { created = created }

-- what was created in another association is no more
abbrev pub restarting : ℕ → OpenCall → OpenCall
restarting association c = record c { association = association; last = None; created = [] }

-- ---- the reply that a link of delivery keeps

abbrev pub reply_in : Option (ℕ × Reply) → Option Reply
reply_in None = None
reply_in (Some (number, reply)) = Some reply

abbrev pub IsNumbered : Option (ℕ × Reply) → Type 0
IsNumbered None = Unit {0}
IsNumbered (Some (number, reply)) = number ≡ reply.number

-- the request of a reply is new to a call
abbrev pub WouldKeep : Option OpenCall → Reply → Type 0
WouldKeep None reply = Unit {0}
WouldKeep (Some c) reply = offer (delivery_link c) c.association reply.number ≡ fresh
