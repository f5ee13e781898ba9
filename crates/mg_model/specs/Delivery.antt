-- What a link says of a request that arrives, and an inbox of a note (H.248.1 Annex D.1.1: a transaction is executed at most
-- once; that a new number confirms all lower ones is this profile's own). A reader should check that a number is fresh only
-- where it is above the last one that was kept, in the link's association.
use Rattle.std.specs.Prelude.{ℕ, ◌==◌, Bool, true, false, if◌then◌else◌, nat_lt, Option, Some, None}
use Rattle.mg_model.specs.Updates.{with_at}

-- a link: its association, and the last request's number with what is kept of it
pub record Link (R : Type 0) : Type 0 where
  pub association : ℕ
  pub last : Option (ℕ × R)

pub data Offer (R : Type 0) : Type 0 where
  -- a new number: to be executed
  fresh : Offer R
  -- the last number again: what was kept is sent once more
  kept : R → Offer R
  -- a lower number, or another association
  discard : Offer R

module _ {R : Type 0} where
  abbrev pub offer_by : Option (ℕ × R) → ℕ → Offer R
  offer_by None number = if number == 0 then discard else fresh
  offer_by (Some (last, r)) number = if nat_lt last number then fresh else if number == last then kept r else discard

  -- the number of the last request, 0 where there is none
  abbrev pub last_of : Option (ℕ × R) → ℕ
  last_of None = 0
  last_of (Some (number, r)) = number

  abbrev pub offer : Link R → ℕ → ℕ → Offer R
  offer link association number = if association == link.association then offer_by link.last number else discard

  abbrev pub new_link : ℕ → Link R
  new_link association = record { association = association; last = None }

  abbrev pub with_kept : Link R → ℕ → R → Link R
  with_kept link number r = record link { last = Some (number, r) }

-- an inbox: its association, and the numbers of the notes that were accepted
pub record Inbox : Type 0 where
  pub association : ℕ
  pub accepted : ℕ → Bool

pub data Arrival : Type 0 where
  arrives_new : Arrival
  was_seen : Arrival
  is_old : Arrival

abbrev pub arrival : Inbox → ℕ → ℕ → Arrival
arrival inbox association number =
    if association == inbox.association then (if inbox.accepted number then was_seen else arrives_new) else is_old

abbrev pub is_new : Arrival → Bool
is_new arrives_new = true
is_new was_seen = false
is_new is_old = false

abbrev pub new_inbox : ℕ → Inbox
new_inbox association = record { association = association; accepted = λ n. false }

-- a number is accepted
abbrev pub with_accepted : Inbox → ℕ → Inbox
with_accepted inbox number = record inbox { accepted = with_at inbox.accepted number true }

-- a number is not accepted: a note of it is new where it arrives again
abbrev pub without_accepted : Inbox → ℕ → Inbox
without_accepted inbox number = record inbox { accepted = with_at inbox.accepted number false }

-- the inbox after a note arrived: a new number is accepted
abbrev pub after_arrival : Inbox → ℕ → ℕ → Inbox
after_arrival inbox association number =
    if association == inbox.association then with_accepted inbox number else inbox
