-- A step of one agent keeps the world sound, where the agent after it goes on from the one before.
use Rattle.mg_safety.proofs.Invariant.Sound.{Listed}
use Rattle.mg_safety.proofs.Words.{◌≡◌, ◌∙◌, ◌<◌, ◌≤◌, ℕ, false, Option, Some, refl, sym, ap, subst, arith, inl, inr, eqb-true, Contains-append_cases}
use Rattle.mg_safety.proofs.Words.{◌==◌, Contains, ◌⊎◌, Agent, Phase, awaits_reply, Gateway, last_executed, Request, Script, World, AgentSteps}
use Rattle.mg_safety.proofs.Words.{agent_steps, sent_in, none_in, only_one, the_some, cases_eq, by_test, at_one, at_another}
use Rattle.mg_safety.proofs.InvariantWords.{IsSentBy, IsCurrent, IsLost, CallIsSound, IsKnown, IsOpen, IsAboveFloor, GatewayIsSound, IsSound}

-- the agent b goes on from a: what it sends is new and its own, what was sent before is settled, and it is current or lost
pub record Goes (script : Script) (Among : Listed) (g : Gateway) (a b : Agent) : Type 0 where
  pub call : b.call ≡ a.call
  pub lines : b.lines ≡ a.lines
  pub association : a.association ≤ b.association
  pub next : a.next ≤ b.next
  pub sends : (request : Request) → b.phase ≡ awaits_reply request
      → (request.call ≡ a.call) × (request.association ≡ b.association) × (request.number < b.next)
  pub above : (request : Request) → b.phase ≡ awaits_reply request → a.next ≤ request.number
  pub settled : (request : Request) → IsSentBy g a request → request.association ≡ g.association → request.number ≤ last_executed g a.call
  pub part : IsCurrent script Among g b ⊎ IsLost script g b

-- a request that a phase sends is outstanding in it
outstanding_in : (phase : Phase) (request : Request) → Contains (sent_in phase) request → phase ≡ awaits_reply request
outstanding_in (awaits_reply one) request among = ap awaits_reply (only_one one request among)
outstanding_in phase request among = absurd (none_in request among)

-- an agent after a step is the call's, or one that was there
pub stepped_agent : (w : World) (call : ℕ) (b : Agent) (other : ℕ) (one : Agent) → (agent_steps w call b).agent other ≡ Some one
    → ((other ≡ call) × (b ≡ one)) ⊎ ((other ≡ call → ⊥) × (w.agent other ≡ Some one))
stepped_agent w call b other one there = elim (cases_eq other call) [
  | inl is ↦ inl (is, the_some b one (sym (ap (agent_steps w call b).agent is ∙ at_one call (Some b) (w.agent call)) ∙ there))
  | inr apart ↦ inr (apart, sym (at_another call other (Some b) (w.agent other) apart) ∙ there)
]

module _ (script : Script) (Among : Listed) (w : World) (call : ℕ) (a b : Agent) (sound : IsSound script Among w)
    (here : w.agent call ≡ Some a) (goes : Goes script Among w.gateway a b) where
  numbered : a.call ≡ call
  numbered = (sound.calls call a here).numbered

  sent_own : (request : Request) → Contains (sent_in b.phase) request → request.call ≡ call
  sent_own request among = (goes.sends request (outstanding_in b.phase request among)).0 ∙ numbered

  -- the agent of each call that was open, after the step
  agent_after : (other : ℕ) (one : Agent) → w.agent other ≡ Some one
      → (now : Agent) × ((agent_steps w call b).agent other ≡ Some now) × (now.lines ≡ one.lines)
  agent_after other one there =
      by_test (λ (o : Option Agent). (now : Agent) × (o ≡ Some now) × (now.lines ≡ one.lines)) (Some b) (w.agent other) (other == call)
      (λ e. (b, refl, goes.lines ∙ ap (λ (x : Agent). x.lines) (the_some a one (sym here ∙ ap w.agent (sym (eqb-true other call e)) ∙ there))))
      (λ e. (one, there, refl))

  -- what was sent before stays sent by the agent
  sent_before : (request : Request) → IsSentBy w.gateway a request → IsSentBy w.gateway b request
  sent_before request s = record {
    association = let old = s.association in let step = goes.association in omega (arith, old, step);
    number = let old = s.number in let step = goes.next in omega (arith, old, step);
    outstanding = λ present. inr (subst (λ n. request.number ≤ last_executed w.gateway n) (sym goes.call) (goes.settled request s present));
  }

  sent_now : (request : Request) → Contains (sent_in b.phase) request → IsSentBy w.gateway b request
  sent_now request among =
      let is = outstanding_in b.phase request among in
      let own = goes.sends request is in
      let present : request.association ≡ b.association = own.1 in
      record { association = omega (arith, present); number = own.2; outstanding = λ e. inl is }

  own_call : CallIsSound script Among (agent_steps w call b) call b
  own_call = let old = sound.calls call a here in record {
    numbered = goes.call ∙ numbered;
    first = let before = old.first in let step = goes.next in omega (arith, before, step);
    next = let before = old.next in let step = goes.next in omega (arith, before, step);
    held = λ i within. ap (λ (lines : ℕ → ℕ). w.gateway.holder (lines i)) goes.lines ∙ old.held i within;
    once = λ i j first second same. old.once i j first second
        (sym (ap (λ (lines : ℕ → ℕ). lines i) goes.lines) ∙ same ∙ ap (λ (lines : ℕ → ℕ). lines j) goes.lines);
    requests = λ request there of. elim (Contains-append_cases (sent_in b.phase) w.requests request there) [
      | inl new ↦ sent_now request new
      | inr before ↦ sent_before request (old.requests request before of)
    ];
    outstanding = λ request is. (goes.sends request is).2;
    part = goes.part;
  }

  other_call : (other : ℕ) (one : Agent) → (other ≡ call → ⊥) → w.agent other ≡ Some one → CallIsSound script Among (agent_steps w call b) other one
  other_call other one apart there = let old = sound.calls other one there in record {
    numbered = old.numbered;
    first = old.first;
    next = old.next;
    held = old.held;
    once = old.once;
    requests = λ request there of. elim (Contains-append_cases (sent_in b.phase) w.requests request there) [
      | inl new ↦ absurd (apart (sym of ∙ sent_own request new))
      | inr before ↦ old.requests request before of
    ];
    outstanding = old.outstanding;
    part = old.part;
  }

  each_call : (other : ℕ) (one : Agent) → (agent_steps w call b).agent other ≡ Some one → CallIsSound script Among (agent_steps w call b) other one
  each_call other one there = elim (stepped_agent w call b other one there) [
    | inl own ↦ subst (λ n. CallIsSound script Among (agent_steps w call b) n one) (sym own.0)
        (subst (CallIsSound script Among (agent_steps w call b) call) own.1 own_call)
    | inr was ↦ other_call other one was.0 was.1
  ]

  known_after : (other : ℕ) → IsKnown w other → IsKnown (agent_steps w call b) other
  known_after other (inl there) = let now = agent_after other there.0 there.1 in inl (now.0, now.1)
  known_after other (inr gone) = inr gone

  open_before : (other : ℕ) → IsOpen (agent_steps w call b) other → IsOpen w other
  open_before other (now, there) = elim (stepped_agent w call b other now there) [
    | inl own ↦ (a, ap w.agent own.0 ∙ here)
    | inr was ↦ (now, was.1)
  ]

  floor_after : (other : ℕ) (one : Agent) → (agent_steps w call b).agent other ≡ Some one → IsAboveFloor (sound.floor other) (agent_steps w call b) other one
  floor_after other one there = elim (stepped_agent w call b other one there) [
    | inl its ↦ subst (λ n. IsAboveFloor (sound.floor n) (agent_steps w call b) n one) (sym its.0)
        (subst (IsAboveFloor (sound.floor call) (agent_steps w call b) call) its.1 own)
    | inr was ↦ (let old = sound.floors other one was.1 in record {
      next = old.next;
      requests = λ request among of. elim (Contains-append_cases (sent_in b.phase) w.requests request among) [
        | inl new ↦ absurd (was.0 (sym of ∙ sent_own request new))
        | inr before ↦ old.requests request before of
      ];
    })
  ]
    where
      own : IsAboveFloor (sound.floor call) (agent_steps w call b) call b
      own = let old = sound.floors call a here in record {
        next = let before = old.next in let step = goes.next in omega (arith, before, step);
        requests = λ request there of. elim (Contains-append_cases (sent_in b.phase) w.requests request there) [
          | inl new ↦ (let sends = goes.above request (outstanding_in b.phase request new) in let before = old.next in omega (arith, sends, before))
          | inr before ↦ old.requests request before of
        ];
      }

  retired_after : (other : ℕ) (one : Agent) → (agent_steps w call b).agent other ≡ Some one → w.gateway.retired other ≡ false
  retired_after other one there = let was = open_before other (one, there) in sound.gateway.retired other was.0 was.1

  gateway_after : GatewayIsSound script sound.floor (agent_steps w call b)
  gateway_after = let old = sound.gateway in record {
    accounted = old.accounted;
    creator_stands = old.creator_stands;
    apart = old.apart;
    created = λ x stands. let was = old.created x stands in let now = agent_after was.0 was.1 was.3 in (was.0, now.0, was.2, now.1);
    unheld = old.unheld;
    held = λ l one is.
        let was = old.held l one is in
        let now = agent_after one was.0 was.2 in
        (now.0, was.1, now.1, was.3, ap (λ (lines : ℕ → ℕ). lines was.1) now.2 ∙ was.4);
    kept = old.kept;
    request_ids = old.request_ids;
    requests = λ request there. elim (Contains-append_cases (sent_in b.phase) w.requests request there) [
      | inl new ↦ (let now = agent_after call a here in inl (now.0, ap (agent_steps w call b).agent (sent_own request new) ∙ now.1))
      | inr before ↦ known_after request.call (old.requests request before)
    ];
    retired = retired_after;
    replies = λ answer among. let was = old.replies answer among in (known_after answer.call was.0, λ is_open. was.1 (open_before answer.call is_open));
    notes = λ sent among. let was = old.notes sent among in (known_after sent.call was.0, λ is_open. was.1 (open_before sent.call is_open));
  }

pub agent_goes : (script : Script) (Among : Listed) (w after : World) (call : ℕ) (step : Agent → Option Agent) → IsSound script Among w
    → (s : AgentSteps w call step after) → Goes script Among w.gateway s.before s.agent → IsSound script Among after
agent_goes script Among w after call step sound s goes = subst (IsSound script Among) (sym s.after_is) (record {
  floor = sound.floor;
  floors = floor_after script Among w call s.before s.agent sound s.open_call goes;
  gateway = gateway_after script Among w call s.before s.agent sound s.open_call goes;
  calls = each_call script Among w call s.before s.agent sound s.open_call goes;
})
