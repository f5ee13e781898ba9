-- All messages of one call, by their numbers. A reader should check that a number names the message that has it, that the latest reply is the
-- one that was sent last, if only once more, and that nothing that was sent is ever left out.
use Rattle.std.specs.Prelude.{◌≡◌, ℕ, ◌+◌, ◌-◌, ◌<◌, ◌≤◌, ◌==◌, Bool, true, if◌then◌else◌, nat_le, List, [], ◌∷◌, ◌++◌, length, map, Option, Some, None, slice_get, slice_set}
use Rattle.std.specs.List.{find}
use Rattle.std.proofs.Common.{reverse}
use Rattle.mg_model.specs.Messages.{Request, Reply, SentNote}

pub record Messages : Type 0 where
  -- the number of the first request
  pub first : ℕ
  -- the requests, the latest last, but for one that is still awaited
  pub requests : List Request
  -- for each request that was sent, the awaited one too, its reply
  pub replies : List (Option Reply)
  -- the place of the reply that was sent last
  pub answered : Option ℕ
  -- the notes, the latest last
  pub notes : List SentNote

-- for how many of each there is memory
pub record Places : Type 0 where
  pub requests : ℕ
  pub replies : ℕ
  pub notes : ℕ

pub record MessagesValue : Type 0 where
  pub sent : Messages
  pub places : Places

abbrev pub none_sent : ℕ → Messages
none_sent first = record { first = first; requests = []; replies = []; answered = None; notes = [] }

-- ---- by number

-- numbered on from this number
abbrev pub AreNumberedFrom : ℕ → List ℕ → Type 0
AreNumberedFrom first [] = Unit {0}
AreNumberedFrom first (n ∷ more) = (n ≡ first) × AreNumberedFrom (first + 1) more

abbrev pub request_numbers : List Request → List ℕ
request_numbers requests = map (λ (r : Request). r.number) requests

abbrev pub note_numbers : List SentNote → List ℕ
note_numbers notes = map (λ (n : SentNote). n.number) notes

-- what stands at the place of a number, where they are numbered on from this first one
abbrev pub placed : {A : Type 0} → ℕ → List A → ℕ → Option A
placed first messages n = if nat_le first n then slice_get messages (n - first) else None

-- whether a number is the one that is asked for, or any is
abbrev pub fits : Option ℕ → ℕ → Bool
fits None number = true
fits (Some n) number = number == n

-- the latest of the requests that fits
abbrev pub request_for : Messages → Option ℕ → Option Request
request_for m which = find (λ (r : Request). fits which r.number) (reverse m.requests)

abbrev pub joined : Option (Option Reply) → Option Reply
joined None = None
joined (Some found) = found

-- the reply to the request with this number
abbrev pub reply_to : Messages → ℕ → Option Reply
reply_to m n = joined (placed m.first m.replies n)

abbrev pub reply_at : Messages → Option ℕ → Option Reply
reply_at m None = None
reply_at m (Some place) = joined (slice_get m.replies place)

-- that reply, or the one that was sent last
abbrev pub reply_for : Messages → Option ℕ → Option Reply
reply_for m None = reply_at m m.answered
reply_for m (Some n) = reply_to m n

-- ---- what is sent

abbrev pub listed : {A : Type 0} → Option A → List A
listed None = []
listed (Some a) = a ∷ []

-- a request is awaited no more, and another is sent
abbrev pub sending : Messages → Option Request → Bool → Messages
sending m over sends = record m {
  requests = m.requests ++ listed over;
  replies = m.replies ++ (if sends then None ∷ [] else []);
}

-- a reply is sent, perhaps once more
abbrev pub answering : Messages → Reply → Messages
answering m reply = record m {
  replies = slice_set m.replies (reply.number - m.first) (Some reply);
  answered = Some (reply.number - m.first);
}

abbrev pub raising : Messages → List SentNote → Messages
raising m notes = record m { notes = m.notes ++ notes }

-- ---- room

pub record HasRoomToSend (v : MessagesValue) : Type 0 where
  pub for_request : length v.sent.requests < v.places.requests
  pub for_reply : length v.sent.replies < v.places.replies

abbrev pub HasRoomForNotes : MessagesValue → ℕ → Type 0
HasRoomForNotes v count = length v.sent.notes + count ≤ v.places.notes

-- a request of this number was sent
pub record WasSent (m : Messages) (number : ℕ) : Type 0 where
  pub at_least : m.first ≤ number
  pub below : number < m.first + length m.replies

-- the request that is awaited no more has the number after the others
abbrev pub IsNextOver : Messages → Option Request → Type 0
IsNextOver m over = AreNumberedFrom (m.first + length m.requests) (request_numbers (listed over))
