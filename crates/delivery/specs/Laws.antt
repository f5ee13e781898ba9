-- The statements of the laws of links and inboxes. Each is carried by an empty function of the same name.
use Rattle.std.specs.Prelude.{◌≡◌, ℕ, ◌==◌, ◌<◌, ◌≤◌, ◌↔◌, ◌&&◌, Bool, if◌then◌else◌, List, [], ◌∷◌, Option, Some, None}
use Rattle.std.specs.List.{list_any}
use Rattle.mg_model.specs.Delivery.{Link, last_of, offer, fresh, with_kept, Inbox, new_inbox, arrival, after_arrival, arrives_new, was_seen}

-- ---- requests

-- a number is new exactly where it is above the last one, in the association of the link
abbrev pub FreshExactlyAbove : Type 0 → Type 0
FreshExactlyAbove R =
    (link : Link R) (association number : ℕ)
    → (offer link association number ≡ fresh) ↔ ((association ≡ link.association) × (last_of link.last < number))

-- ---- requests that are executed: the number of each that is executed, with what is kept of it

-- each was new where it arrived, after those before it (a request that isn't new leaves the link as it was)
abbrev pub AreExecuted : {R : Type 0} → Link R → List (ℕ × R) → Type 0
AreExecuted link [] = Unit {0}
AreExecuted link ((number, r) ∷ rest) = (offer link link.association number ≡ fresh) × AreExecuted (with_kept link number r) rest

abbrev pub after_requests : {R : Type 0} → Link R → List (ℕ × R) → Link R
after_requests link [] = link
after_requests link ((number, r) ∷ rest) = after_requests (with_kept link number r) rest

-- once a request was executed, neither its number nor a lower one is new again in the association, whatever requests are
-- executed later
abbrev pub FreshAtMostOnce : Type 0 → Type 0
FreshAtMostOnce R =
    (link : Link R) (number other : ℕ) (r : R) (later : List (ℕ × R)) → other ≤ number → AreExecuted (with_kept link number r) later
    → offer (after_requests (with_kept link number r) later) link.association other ≡ fresh → ⊥

-- ---- notes: the association and the number of each that arrives

abbrev pub after_notes : Inbox → List (ℕ × ℕ) → Inbox
after_notes inbox [] = inbox
after_notes inbox ((association, number) ∷ rest) = after_notes (after_arrival inbox association number) rest

abbrev pub is_note : ℕ → ℕ → ℕ × ℕ → Bool
is_note association number note = note.0 == association && note.1 == number

-- in its association a note is new exactly where none of its number arrived before, and else it was seen
abbrev pub NewExactlyOnce : Type 0
NewExactlyOnce =
    (association number : ℕ) (notes : List (ℕ × ℕ))
    → arrival (after_notes (new_inbox association) notes) association number ≡ (if list_any (is_note association number) notes then was_seen else arrives_new)

-- and a note that was accepted is seen where it arrives again
abbrev pub SeenOnceAccepted : Type 0
SeenOnceAccepted = (inbox : Inbox) (number : ℕ) → arrival (after_arrival inbox inbox.association number) inbox.association number ≡ was_seen
