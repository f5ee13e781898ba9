-- An agent steps in two worlds that treat its call alike: they treat it alike after it.
use Rattle.std.proofs.Common.{◌≡◌, ◌∙◌, ◌<◌, ◌++◌, ℕ, true, List, Option, Some, None, refl, sym, ap, subst, arith, ◌==◌, ◌&&◌, Contains}
use Rattle.mg_merge.proofs.Words.{Agent, AgentSteps, Phase, Reply, Request, TermId, World, agent_steps, and_second, at_one, awaits_pass, awaits_reply, eqb-true}
use Rattle.mg_merge.proofs.Words.{false_not_true, only_here, resting, sent_in, the_some}
use Rattle.mg_alike.proofs.Words.{AgentsAlike, AreSentInBoth, CallAlike, OwnAlike, PhasesAlike, Renaming, RequestsAlike, SameReply, StepsAlike, TreatAlike}
use Rattle.mg_alike.proofs.Words.{anything, is_awaited}
use Rattle.mg_safety.proofs.Messages.AgentNumbers.{GoesOn, GivesNext}
use Rattle.mg_safety.proofs.Messages.NumberedWorlds.{IsNumbered}
use Rattle.mg_alike.proofs.Events.Executed.{anything_wider, sent_more}
use Rattle.mg_alike.proofs.Shared.Shapes.{requests_more}

-- the requests that are sent with a step
more_requests : (r : Renaming) (call : ℕ) (p q : Phase) → PhasesAlike r p q → (sent others : List Request)
    → AreSentInBoth (λ (x : Request). x.call) call (RequestsAlike anything) sent others
    → AreSentInBoth (λ (x : Request). x.call) call (RequestsAlike anything) (sent_in p ++ sent) (sent_in q ++ others)
more_requests r call (awaits_reply one) (awaits_reply other) phases sent others before =
    sent_more (λ (x : Request). x.call) call (RequestsAlike anything) (RequestsAlike anything) one other sent others
    (requests_more r anything (anything_wider r) one other phases) (λ x y same. same.call) (λ x y there its same. same) before
more_requests r call awaits_pass awaits_pass phases sent others before = before
more_requests r call resting resting phases sent others before = before
more_requests r call _ _ phases sent others before = absurd phases

-- the replies that were sent, to an agent that awaits another one
other_replies : (r : Renaming) (p q : Phase) (call : ℕ) (sent others : List Reply)
    → ((x : Reply) → Contains sent x → x.call ≡ call → is_awaited q x ≡ true → ⊥)
    → AreSentInBoth (λ (x : Reply). x.call) call (SameReply r p) sent others → AreSentInBoth (λ (x : Reply). x.call) call (SameReply r q) sent others
other_replies r p q call sent others unsent before = record {
  onward = λ x there of.
      let y = before.onward x there of in
      (y.0, y.1, record { shape = y.2.shape; awaited = λ e. absurd (unsent x there of e) });
  back = λ y there of.
      let x = before.back y there of in
      (x.0, x.1, record { shape = x.2.shape; awaited = λ e. absurd (unsent x.0 x.1 (sym x.2.shape.call ∙ of) e) });
}

-- no reply to a request that is only sent now was sent
unsent_yet : (w : World) → IsNumbered w → (call : ℕ) (a b : Agent) → w.agent call ≡ Some a → GoesOn a.call a.next a.lines b → (phase : Phase) → b.phase ≡ phase
    → (x : Reply) → Contains w.replies x → x.call ≡ call → is_awaited phase x ≡ true → ⊥
unsent_yet w numbered call a b open_call goes (awaits_reply request) is x there of e =
    let sent = goes.sent request (subst (λ (phase : Phase). Contains (sent_in phase) request) (sym is) (only_here request)) in
    let next : request.number ≡ a.next = sent.1.0 in
    let number : x.number ≡ request.number = eqb-true x.number request.number (and_second (x.association == request.association) (x.number == request.number)
    (and_second (x.call == request.call) ((x.association == request.association) && x.number == request.number) e)) in
    let answered = numbered.replies.answered x there in
    let below : answered.0.number < a.next = numbered.requests.below answered.0 a answered.1 (ap w.agent (answered.2 ∙ of) ∙ open_call) in
    let same : answered.0.number ≡ x.number = answered.3 in
    omega (arith, next, number, below, same)
unsent_yet w numbered call a b open_call goes _ is x there of e = false_not_true e

module _ (w v : World) (call : ℕ) (r : Renaming) (a b : Agent) (alike : CallAlike r w v call a b) (numbered : IsNumbered w) where
  stepped : (x y : Agent) → AgentsAlike r x y → GoesOn a.call a.next a.lines x → CallAlike r (agent_steps w call x) (agent_steps v call y) call x y
  stepped x y agents goes = assumption (
    at_one call (Some x) (w.agent call),
    at_one call (Some y) (v.agent call),
    λ (t u : TermId) (own : OwnAlike r (agent_steps w call x) (agent_steps v call y) call t u). alike.rows t u own,
    λ (t u s z : TermId) (first : OwnAlike r (agent_steps w call x) (agent_steps v call y) call t u)
        (second : OwnAlike r (agent_steps w call x) (agent_steps v call y) call s z). alike.cuts t u s z first second,
    more_requests r call x.phase y.phase agents.phase w.requests v.requests alike.requests,
    other_replies r a.phase x.phase call w.replies v.replies (unsent_yet w numbered call a x alike.open_one goes x.phase refl) alike.replies,
  )

  both_some : (o p : Option Agent) (x y : Agent) → o ≡ Some x → p ≡ Some y → StepsAlike r o p → AgentsAlike r x y
  both_some o p x y first second same =
      subst (λ (i : Option Agent). StepsAlike r i (Some y)) first (subst (λ (i : Option Agent). StepsAlike r o i) second same)

  -- both step
  pub steps_alike : (step other : Agent → Option Agent) → StepsAlike r (step a) (other b) → GivesNext a.call a.next a.lines (step a) → (after next : World)
      → AgentSteps w call step after → AgentSteps v call other next → TreatAlike after next call
  steps_alike step other same gives after next s t =
      let first : step a ≡ Some s.agent = ap step (the_some a s.before (sym alike.open_one ∙ s.open_call)) ∙ s.steps in
      let second : other b ≡ Some t.agent = ap other (the_some b t.before (sym alike.open_other ∙ t.open_call)) ∙ t.steps in
      record {
        renaming = r;
        one = s.agent;
        other = t.agent;
        alike = rw (s.after_is, t.after_is) (stepped s.agent t.agent (both_some (step a) (other b) s.agent t.agent first second same) (gives s.agent first));
      }

module _ (w v : World) (call : ℕ) (r : Renaming) (a b : Agent) (alike : CallAlike r w v call a b) where
  -- where one steps, the other can
  pub steps_too : (step other : Agent → Option Agent) → StepsAlike r (step a) (other b) → (after : World) → AgentSteps w call step after
      → (next : World) × AgentSteps v call other next
  steps_too step other same after s =
      let first : step a ≡ Some s.agent = ap step (the_some a s.before (sym alike.open_one ∙ s.open_call)) ∙ s.steps in
      go (other b) refl (subst (λ (o : Option Agent). StepsAlike r o (other b)) first same)
    where
      go : (o : Option Agent) → other b ≡ o → StepsAlike r (Some s.agent) o → (next : World) × AgentSteps v call other next
      go (Some y) is alike_too =
          (agent_steps v call y, record { before = b; agent = y; open_call = alike.open_other; steps = is; after_is = refl })
      go None is never = absurd never
