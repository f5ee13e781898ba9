-- A record's messages: which numbers were sent, and what a step of the agent sends.
use Rattle.std.proofs.Common.{◌≡◌, ◌∙◌, ◌+◌, ◌-◌, ◌<◌, ◌≤◌, ◌==◌, ◌++◌, ℕ, zero, suc, Bool, true, false, List, [], ◌∷◌, Bor, length, Option, Some, None, if◌then◌else◌, reverse, refl, sym, ap, arith}
use Rattle.std.specs.Prelude.{Contains, nat_le, option_map, slice_get}
use Rattle.std.specs.List.{find}
use Rattle.std.proofs.lemmas.Bool.{eqb-true, leb-true}
use Rattle.mg_model.proofs.Cases.{none_is_some, the_some}
use Rattle.mg_model.proofs.Single.{only_here}
use Rattle.mg_model.specs.Agent.{Agent, Phase, awaits_reply, awaits_pass, resting}
use Rattle.mg_model.specs.Messages.{Request}
use Rattle.mg_model.specs.World.{sent_in}
use Rattle.agent.specs.PreparedValue.{PreparedValue, cancelled, without_note, finished}
use Rattle.agent.specs.Steps.{outstanding}
use Rattle.agent.specs.AgentValue.{agent_of}
use Rattle.shards.proofs.NumberLemmas.{request_found}
use Rattle.shards.specs.Messages.{IsNextOver, Messages, MessagesValue, WasSent, placed}
use Rattle.shards.specs.CallRecords.{IsTied, request_in, requests_of}
use Rattle.shards.specs.declared.call_record.CallRecord.{CallRecord}

-- what an agent awaits has the number after the requests that are awaited no more
pub next_over : (m : Messages) (phase : Phase) → ((r : Request) → Contains (sent_in phase) r → r.number ≡ m.first + length m.requests)
    → IsNextOver m (outstanding phase)
next_over m (awaits_reply request) awaited = (awaited request (only_here request), tt)
next_over m awaits_pass awaited = tt
next_over m resting awaited = tt

-- taking a note in changes nothing that is awaited
pub same_phase : (a : Agent) (prepared : PreparedValue) → (cancelled a prepared).phase ≡ a.phase
same_phase a prepared = by_note prepared.note
  where
    by_note : (note : Option ℕ) → (without_note a note).phase ≡ a.phase
    by_note None = refl
    by_note (Some number) = refl

pub finished_phase : (a : Agent) (prepared : PreparedValue) → (finished a prepared).phase ≡ prepared.phase
unfolding finished
finished_phase a prepared = refl

-- ---- a request that is found

found_fits : {A : Type 0} (p : A → Bool) (xs : List A) (x : A) → find p xs ≡ Some x → p x ≡ true
found_fits p [] x is = absurd (none_is_some x is)
found_fits p (y ∷ more) x is = by_test (found_fits p more x) (p y) refl is
  where
    by_test : (find p more ≡ Some x → p x ≡ true) → (test : Bool) → p y ≡ test → (if test then Some y else find p more) ≡ Some x → p x ≡ true
    by_test later true fits here = ap p (sym (the_some y x here)) ∙ fits
    by_test later false fits there = later there

got_within : {A : Type 0} (xs : List A) (i : ℕ) (x : A) → slice_get xs i ≡ Some x → i < length xs
got_within [] i x is = absurd (none_is_some x is)
got_within (y ∷ more) zero x is = omega arith
got_within (y ∷ more) (suc i) x is = let within : i < length more = got_within more i x is in omega (arith, within)

placed_within : {A : Type 0} (first : ℕ) (xs : List A) (n : ℕ) (x : A) → placed first xs n ≡ Some x → (first ≤ n) × (n < first + length xs)
placed_within first xs n x is = by_order (nat_le first n) refl is
  where
    by_order : (order : Bool) → nat_le first n ≡ order → (if order then slice_get xs (n - first) else None) ≡ Some x → (first ≤ n) × (n < first + length xs)
    by_order true later got =
        let at_least : first ≤ n = leb-true first n later in
        let within : n - first < length xs = got_within xs (n - first) x got in
        (at_least, omega (arith, at_least, within))
    by_order false earlier got = absurd (none_is_some x got)

-- a request that is found by its number has it, and was sent
pub was_sent : (s : CallRecord) → IsTied s → (number : ℕ) (request : Request) → request_in s (Some number) ≡ Some request
    → (request.number ≡ number) × WasSent s.messages.sent number
was_sent s tied number request is = (
  eqb-true request.number number (found_fits (λ (r : Request). r.number == number) (requests_of s) request is),
  by_phase (agent_of s.agent).phase tied.awaited tied.places is,
)
  where
    kept_before : length s.messages.sent.requests ≤ length s.messages.sent.replies → find (λ (r : Request). r.number == number) (reverse s.messages.sent.requests) ≡ Some request
        → WasSent s.messages.sent number
    kept_before places found =
        let within = placed_within s.messages.sent.first s.messages.sent.requests number request
        (sym (request_found s.messages.sent.first number s.messages.sent.requests tied.numbered) ∙ found) in
        let at_least : s.messages.sent.first ≤ number = within.0 in
        let below : number < s.messages.sent.first + length s.messages.sent.requests = within.1 in
        record { at_least = at_least; below = omega (arith, below, places) }

    by_phase : (phase : Phase) → ((r : Request) → Contains (sent_in phase) r → r.number ≡ s.messages.sent.first + length s.messages.sent.requests)
        → length s.messages.sent.replies ≡ length s.messages.sent.requests + length (sent_in phase)
        → find (λ (r : Request). r.number == number) (sent_in phase ++ reverse s.messages.sent.requests) ≡ Some request → WasSent s.messages.sent number
    by_phase (awaits_reply r) awaited places found = by_test (r.number == number) refl found
      where
        by_test : (test : Bool) → (r.number == number) ≡ test
            → (if test then Some r else find (λ (r : Request). r.number == number) (reverse s.messages.sent.requests)) ≡ Some request → WasSent s.messages.sent number
        by_test true same here =
            let number_is : r.number ≡ number = eqb-true r.number number same in
            let awaits : r.number ≡ s.messages.sent.first + length s.messages.sent.requests = awaited r (only_here r) in
            record { at_least = omega (arith, number_is, awaits); below = omega (arith, number_is, awaits, places) }
        by_test false other later = kept_before (omega (arith, places)) later
    by_phase awaits_pass awaited places found = kept_before (omega (arith, places)) found
    by_phase resting awaited places found = kept_before (omega (arith, places)) found

-- a request that is found once more, when there is more room
pub found_again : (s : CallRecord) (m : MessagesValue) (number : ℕ) (found : Option (Bor Request)) (request : Bor Request) → m.sent ≡ s.messages.sent
    → option_map (λ r. r.now) found ≡ request_in (record s { messages = m }) (Some number) → found ≡ Some request
    → request_in s (Some number) ≡ Some request.now
found_again s m number found request same told is =
    ap (λ (sent : Messages). find (λ (r : Request). r.number == number) (sent_in (agent_of s.agent).phase ++ reverse sent.requests)) (sym same)
    ∙ sym told ∙ ap (option_map (λ r. r.now)) is
