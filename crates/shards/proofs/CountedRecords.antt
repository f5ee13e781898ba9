-- A record whose agent stays shows its call after what the gateway sent: replies and notes are added, and no request.
use Rattle.std.proofs.Common.{◌≡◌, ◌∙◌, ◌+◌, ◌++◌, inl, inr, ℕ, List, length, Option, Some, reverse, sym, ap, subst, arith}
use Rattle.std.specs.Prelude.{Contains}
use Rattle.std.specs.List.{find}
use Rattle.std.proofs.lemmas.List.Elements.{Contains-append_cases, Contains-append_left, Contains-append_right}
use Rattle.mg_model.specs.Messages.{Request, Reply, SentNote}
use Rattle.mg_model.specs.Reports.{is_of}
use Rattle.mg_model.specs.World.{World, sent_in}
use Rattle.agent.specs.AgentValue.{AgentValue, agent_of}
use Rattle.shards.specs.Messages.{AreNumberedFrom, Messages, fits, reply_for, request_numbers}
use Rattle.shards.specs.Shows.{ShowsCall}
use Rattle.shards.proofs.SettledNotes.{settled_before}
use Rattle.shards.specs.CallRecords.{AreSettled, IsCounted, IsTied, request_in}
use Rattle.shards.specs.declared.call_record.CallRecord.{CallRecord}

-- messages with the same requests, and places for as many replies, to which notes were added
pub record HasSameRequests (m n : Messages) : Type 0 where
  pub first : n.first ≡ m.first
  pub requests : n.requests ≡ m.requests
  pub replies : length n.replies ≡ length m.replies
  pub more : List SentNote
  pub notes : n.notes ≡ m.notes ++ more

abbrev all_requests : AgentValue → List Request → List Request
all_requests agent requests = sent_in (agent_of agent).phase ++ reverse requests

module _ (s t : CallRecord) (agent : t.agent ≡ s.agent) (settled : t.settled ≡ s.settled) (same : HasSameRequests s.messages.sent t.messages.sent) where
  requests_stay : (which : Option ℕ) → request_in t which ≡ request_in s which
  requests_stay which =
      ap (λ (a : AgentValue). find (λ (r : Request). fits which r.number) (all_requests a t.messages.sent.requests)) agent
      ∙ ap (λ requests. find (λ (r : Request). fits which r.number) (all_requests s.agent requests)) same.requests

  tied_stays : IsTied s → IsTied t
  tied_stays tied = record {
    numbered = subst (λ first. AreNumberedFrom first (request_numbers t.messages.sent.requests)) (sym same.first)
        (subst (λ requests. AreNumberedFrom s.messages.sent.first (request_numbers requests)) (sym same.requests) tied.numbered);
    places =
        let places : length s.messages.sent.replies ≡ length s.messages.sent.requests + length (sent_in (agent_of s.agent).phase) = tied.places in
        let sent : length (sent_in (agent_of t.agent).phase) ≡ length (sent_in (agent_of s.agent).phase) = ap (λ (a : AgentValue). length (sent_in (agent_of a).phase)) agent in
        let requests : length t.messages.sent.requests ≡ length s.messages.sent.requests = ap length same.requests in
        let replies : length t.messages.sent.replies ≡ length s.messages.sent.replies = same.replies in
        omega (arith, places, sent, requests, replies);
    awaited = λ r among.
        let number : r.number ≡ s.messages.sent.first + length s.messages.sent.requests =
        tied.awaited r (subst (λ (a : AgentValue). Contains (sent_in (agent_of a).phase) r) agent among) in
        let requests : length t.messages.sent.requests ≡ length s.messages.sent.requests = ap length same.requests in
        let first : t.messages.sent.first ≡ s.messages.sent.first = same.first in
        omega (arith, number, requests, first);
    next =
        let next : (agent_of s.agent).next ≡ s.messages.sent.first + length s.messages.sent.replies = tied.next in
        let stays : (agent_of t.agent).next ≡ (agent_of s.agent).next = ap (λ (a : AgentValue). (agent_of a).next) agent in
        let replies : length t.messages.sent.replies ≡ length s.messages.sent.replies = same.replies in
        let first : t.messages.sent.first ≡ s.messages.sent.first = same.first in
        omega (arith, next, stays, replies, first);
    settled = subst (AreSettled (agent_of t.agent) t.messages.sent.notes) (sym settled)
        (subst (λ (a : AgentValue). AreSettled (agent_of a) t.messages.sent.notes s.settled) (sym agent)
        (subst (λ notes. AreSettled (agent_of s.agent) notes s.settled) (sym same.notes)
        (settled_before (agent_of s.agent) s.messages.sent.notes same.more s.settled tied.settled)));
  }

-- notes of a call that are sent, in a world and in a record
module _ (w : World) (call : ℕ) (s : CallRecord) (shows : ShowsCall w call s) (new : List SentNote) (of_call : (n : SentNote) → Contains new n → n.call ≡ call) where
  pub notes_in_world : (n : SentNote) → Contains (s.messages.sent.notes ++ new) n → Contains (new ++ w.notes) n × (n.call ≡ call)
  notes_in_world n among = elim (Contains-append_cases s.messages.sent.notes new n among) [
    | inl old ↦ let sent = shows.notes_sent n old in (Contains-append_right new w.notes n sent.0, sent.1)
    | inr added ↦ (Contains-append_left new w.notes n added, of_call n added)
  ]

  pub notes_in_record : (n : SentNote) → Contains (new ++ w.notes) n → n.call ≡ call → Contains (s.messages.sent.notes ++ new) n
  notes_in_record n among of_it = elim (Contains-append_cases new w.notes n among) [
    | inl added ↦ Contains-append_right s.messages.sent.notes new n added
    | inr old ↦ Contains-append_left s.messages.sent.notes new n (shows.notes_kept n old of_it)
  ]

-- what a record has to be shown to hold where its agent stays and its messages become these
pub record HoldsAfter (w v : World) (call : ℕ) (s : CallRecord) (m : Messages) : Type 0 where
  pub agent : v.agent call ≡ w.agent call
  pub requests : v.requests ≡ w.requests
  pub same : HasSameRequests s.messages.sent m
  pub replies : (which : Option ℕ) → find (λ (r : Reply). is_of call which r.call r.number) v.replies ≡ reply_for m which
  pub notes_sent : (n : SentNote) → Contains m.notes n → Contains v.notes n × (n.call ≡ call)
  pub notes_kept : (n : SentNote) → Contains v.notes n → n.call ≡ call → Contains m.notes n
  pub counted : (v.gateway.link call).notes ≡ length m.notes

pub counted_shown : (w v : World) (call : ℕ) (s t : CallRecord) (m : Messages) → ShowsCall w call s → IsCounted s t m → HoldsAfter w v call s m → ShowsCall v call t
counted_shown w v call s t m shows counted holds =
    let same : HasSameRequests s.messages.sent t.messages.sent = subst (HasSameRequests s.messages.sent) (sym counted.sent) holds.same in
    record {
      agent = holds.agent ∙ shows.agent ∙ ap (λ (a : AgentValue). Some (agent_of a)) (sym counted.agent);
      requests = λ which. ap (find (λ (r : Request). is_of call which r.call r.number)) holds.requests ∙ shows.requests which ∙ sym (requests_stay s t counted.agent counted.settled same which);
      replies = λ which. holds.replies which ∙ ap (λ (n : Messages). reply_for n which) (sym counted.sent);
      notes_sent = λ n among. holds.notes_sent n (subst (λ (x : Messages). Contains x.notes n) counted.sent among);
      notes_kept = λ n among of_it. subst (λ (x : Messages). Contains x.notes n) (sym counted.sent) (holds.notes_kept n among of_it);
      counted = holds.counted ∙ ap (λ (x : Messages). length x.notes) (sym counted.sent);
      tied = tied_stays s t counted.agent counted.settled same shows.tied;
    }
