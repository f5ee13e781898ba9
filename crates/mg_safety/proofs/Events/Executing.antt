-- A request that is executed: it is the outstanding one of a current call, and what the gateway is after it, link by link and owner by owner.
use Rattle.mg_safety.proofs.Invariant.Sound.{Listed}
use Rattle.mg_safety.proofs.Words.{◌≡◌, ◌∙◌, ◌<◌, ◌≤◌, ℕ, Bool, true, false, List, Option, Some, None, refl, sym, ap, subst, arith, inl, inr, true≢false, ◌+◌}
use Rattle.mg_safety.proofs.Words.{if◌then◌else◌, length, ◌⊎◌, Eph, ChosenRefusal, Failure, Sent, Agent, awaits_reply, Board, IsSettled, exists, Gateway}
use Rattle.mg_safety.proofs.Words.{CallLink, last_executed, start_of, reply_of, after_request, number_of, Request, RequestCommand, Running, Script, World}
use Rattle.mg_safety.proofs.Words.{IsScript, at_another, at_one, cases_eq, different}
use Rattle.mg_model.specs.RequestRun.{RunsFrom}
use Rattle.mg_safety.proofs.InvariantWords.{naming, Seen, LinesShown, IsAccounted, ChangesOwned, is_call, owner_of, owned_in, IsOutstanding, IsAt, IsCurrent}
use Rattle.mg_safety.proofs.InvariantWords.{IsLost, IsSentBy, CallIsSound, GatewayIsSound, IsClosed, IsRunOf, RequestsRun, IsOwnChange}
use Rattle.mg_safety.proofs.Agents.Entering.{same_request}
use Rattle.mg_safety.proofs.Agents.AgentSound.{pass_quiet, rest_quiet}

-- ---- whose a line is

pub not_call_of : (o : Option ℕ) (one call : ℕ) → o ≡ Some one → (one ≡ call → ⊥) → is_call o call ≡ false
not_call_of o one call is apart = ap (λ (x : Option ℕ). is_call x call) is ∙ different one call apart

-- ---- the request is the outstanding one

-- the call's configuration while its request is sent, and the request
pub record IsDue (script : Script) (Among : Listed) (g : Gateway) (a : Agent) (request : Request) : Type 0 where
  pub k : IsCurrent script Among g a
  pub outstanding : IsOutstanding script a request
  pub effective : k.e ≡ a
  pub link : k.c.link ≡ Sent

pub is_due : (script : Script) (Among : Listed) (w : World) (request : Request) (a : Agent) → CallIsSound script Among w request.call a
    → IsSentBy w.gateway a request → request.association ≡ w.gateway.association → last_executed w.gateway request.call < request.number
    → IsDue script Among w.gateway a request
is_due script Among w request a sound sent present newer = by_phase (sent.outstanding present)
  where
    by_at : (k : IsCurrent script Among w.gateway a) → a.phase ≡ awaits_reply request → IsAt script w.gateway a k.e k.c.link
        → IsDue script Among w.gateway a request
    by_at k phase (inl s) = record {
      k = k;
      outstanding = subst (IsOutstanding script a) (same_request s.request request (sym s.outstanding.phase ∙ phase)) s.outstanding;
      effective = s.effective;
      link = s.link_is;
    }
    by_at k phase (inr (inl s)) =
        let one : s.request.number ≡ request.number = ap (λ (r : Request). r.number)
        (same_request s.request request (sym s.outstanding.phase ∙ phase)) in
        let kept : last_executed w.gateway a.call ≡ s.answer.number = ap number_of s.kept in
        let number = s.number in
        let more : last_executed w.gateway a.call < request.number =
        subst (λ n. last_executed w.gateway n < request.number) (sym sound.numbered) newer in
        absurd (omega (arith, one, kept, number, more))
    by_at k phase (inr (inr (inl s))) = absurd (pass_quiet a.phase s.phase request phase)
    by_at k phase (inr (inr (inr s))) = absurd (rest_quiet a.phase s.phase request phase)

    by_part : a.phase ≡ awaits_reply request → IsCurrent script Among w.gateway a ⊎ IsLost script w.gateway a
        → IsDue script Among w.gateway a request
    by_part phase (inl k) = by_at k phase k.at
    by_part phase (inr lost) = let older = lost.association in let at_most = sent.association in absurd (omega (arith, older, at_most, present))

    by_phase : (a.phase ≡ awaits_reply request) ⊎ (request.number ≤ last_executed w.gateway a.call) → IsDue script Among w.gateway a request
    by_phase (inl phase) = by_part phase sound.part
    by_phase (inr settled) =
        let more : last_executed w.gateway a.call < request.number =
        subst (λ n. last_executed w.gateway n < request.number) (sym sound.numbered) newer in
        absurd (omega (arith, settled, more))

-- so its run is a run of the configuration
pub due_runs : RequestsRun → (script : Script) (Among : Listed) → IsScript script → IsClosed script Among → (g : Gateway) (a : Agent)
    (request : Request) (refusal : Option ChosenRefusal) (end : Running) (failure : Option Failure) → IsDue script Among g a request → IsAccounted g.board
    → RunsFrom request.number refusal (start_of g) 0 request.commands end failure → IsRunOf script Among g a request.number end failure
due_runs run script Among is_script closed g a request refusal end failure due accounted runs =
    let k = due.k in
    run script Among is_script closed g a k.c k.stands due.link k.state
    (subst (λ (x : Agent). Seen script (owned_in g a.call) (naming x) g.board k.c) due.effective k.shown)
    (subst (λ (x : Agent). LinesShown script x g.line k.c) due.effective k.lines_shown)
    accounted request.number refusal end failure
    (subst (λ (commands : List RequestCommand). RunsFrom request.number refusal (start_of g) 0 commands end failure) due.outstanding.commands runs)

-- ---- the gateway after it

-- a request that ran: its call was current with the request outstanding, and shows a configuration after it
pub record HasRun (script : Script) (Among : Listed) (w : World) (request : Request) (end : Running) (failure : Option Failure) : Type 0 where
  pub agent : Agent
  pub open_call : w.agent request.call ≡ Some agent
  pub call : agent.call ≡ request.call
  pub association : request.association ≡ w.gateway.association
  pub newer : last_executed w.gateway request.call < request.number
  pub below : request.number < agent.next
  pub outstanding : IsOutstanding script agent request
  pub run : IsRunOf script Among w.gateway agent request.number end failure

abbrev pub link_made : Gateway → Request → Running → Option Failure → CallLink
link_made g request end failure =
    record { last = Some (reply_of request end failure); notes = (g.link request.call).notes + length end.notes }

module _ (g : Gateway) (request : Request) (end : Running) (settled : Board) (failure : Option Failure) where
  pub link_own : ((after_request g request end settled failure).link request.call).last ≡ Some (reply_of request end failure)
  link_own = ap (λ (link : CallLink). link.last) (at_one request.call (link_made g request end failure) (g.link request.call))

  pub link_other : (call : ℕ) → (call ≡ request.call → ⊥) → (after_request g request end settled failure).link call ≡ g.link call
  link_other call apart = at_another request.call call (link_made g request end failure) (g.link call) apart

  pub executed_own : last_executed (after_request g request end settled failure) request.call ≡ request.number
  executed_own = ap number_of link_own

  pub executed_other : (call : ℕ) → (call ≡ request.call → ⊥) → last_executed (after_request g request end settled failure) call ≡ last_executed g call
  executed_other call apart = ap (λ (link : CallLink). number_of link.last) (link_other call apart)

  pub executed_more : last_executed g request.call < request.number → (call : ℕ)
      → last_executed g call ≤ last_executed (after_request g request end settled failure) call
  executed_more newer call = elim (cases_eq call request.call) [
    | inl one ↦ (let own : last_executed (after_request g request end settled failure) call ≡ request.number =
        ap (last_executed (after_request g request end settled failure)) one ∙ executed_own in
        let before : last_executed g call ≡ last_executed g request.call = ap (last_executed g) one in omega (arith, own, before, newer))
    | inr apart ↦ (let other = executed_other call apart in omega (arith, other))
  ]

-- a number that isn't used is no ephemeral's
pub unused_absent : (stood used : Bool) → (stood ≡ true → used ≡ true) → used ≡ false → stood ≡ false
unused_absent true used given free = absurd (true≢false (sym (given refl) ∙ free))
unused_absent false used given free = refl

-- what stands after a request stood before it, or its number wasn't used
creator_same : (stands stood used : Bool) (was : Option ℕ) (call : ℕ) → (stood ≡ true → used ≡ true) → (stands ≡ true → (stood ≡ true) ⊎ (used ≡ false))
    → (if stands then (if stood then was else Some call) else None) ≡ (if stands then (if used then was else Some call) else None)
creator_same false stood used was call given either = refl
creator_same true true true was call given either = refl
creator_same true true false was call given either = absurd (true≢false (sym (given refl)))
creator_same true false true was call given either = elim (either refl) [
  | inl there ↦ absurd (true≢false (sym there))
  | inr free ↦ absurd (true≢false free)
]
creator_same true false false was call given either = refl

-- only what the call owns was changed
pub run_changes : (script : Script) (Among : Listed) (w : World) (request : Request) (end : Running) (settled : Board) (failure : Option Failure)
    → (floor : ℕ → ℕ) → GatewayIsSound script floor w → HasRun script Among w request end failure → IsSettled end.board settled
    → IsOwnChange w.gateway end.board (after_request w.gateway request end settled failure) request.call
run_changes script Among w request end settled failure floor sound h is_settled = record {
  changes = subst (λ n. ChangesOwned (owner_of w.gateway n) w.gateway.board end.board) h.call h.run.changes;
  settled = is_settled;
  holder = refl;
  creator = λ x. creator_same (exists end.board (Eph x)) (exists w.gateway.board (Eph x)) (w.gateway.board.used_ephemeral x) (w.gateway.creator x) request.call
      (sound.accounted.ephemerals x) (h.run.changes.ephemeral x);
  accounted = sound.accounted;
  creator_stands = sound.creator_stands;
}
