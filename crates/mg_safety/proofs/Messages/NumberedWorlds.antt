-- A world in which messages are numbered; a step of an agent and an event of a line keep it so.
use Rattle.mg_safety.proofs.Words.{◌≡◌, ◌∙◌, ◌+◌, ◌<◌, ◌++◌, ◌==◌, ℕ, false, List, length, Option, Some, if◌then◌else◌, refl, sym, ap, subst, arith, inl, inr}
use Rattle.mg_safety.proofs.Words.{Contains, eqb-true, Contains-append_cases, Contains-append_right, LineEvent, Agent, Phase, awaits_reply, Gateway, CallLink}
use Rattle.mg_safety.proofs.Words.{with_line, with_notes, Request, World, AgentSteps, agent_steps, sent_in, with_gateway, LineOccurs, at_one, at_another}
use Rattle.mg_safety.proofs.Words.{by_test}
use Rattle.mg_model.specs.Gateway as gateway
use Rattle.mg_safety.proofs.InvariantWords.{IsKnown}
use Rattle.mg_safety.specs.MessageNumbers.{AreOnce}
use Rattle.mg_safety.proofs.Messages.AgentNumbers.{GoesOn, GivesNext}
use Rattle.mg_safety.proofs.Messages.Numbered.{none_once, one_once, both_once, AreNumberedOn, line_on, NotesAreNumbered, notes_stay, notes_added}
use Rattle.mg_safety.proofs.Messages.Numbered.{RequestsAreNumbered, RepliesAreNumbered, replies_stay}
use Rattle.mg_safety.proofs.Agents.AgentSteps.{stepped_agent}

pub record IsNumbered (w : World) : Type 0 where
  pub agents : (call : ℕ) (a : Agent) → w.agent call ≡ Some a → a.call ≡ call
  pub open_calls : (call : ℕ) (a : Agent) → w.agent call ≡ Some a → w.gateway.retired call ≡ false
  pub held : (l call : ℕ) → w.gateway.holder l ≡ Some call → (a : Agent) × (w.agent call ≡ Some a)
  pub requests : RequestsAreNumbered (IsKnown w) w.agent w.requests
  pub replies : RepliesAreNumbered w.gateway.retired w.gateway.link w.gateway.association w.requests w.replies
  pub notes : NotesAreNumbered (IsKnown w) w.gateway.retired w.gateway.link w.notes

-- ---- an agent's step

added : {A : Type 0} (new old : List A) (x : A) → Contains old x → Contains (new ++ old) x
added new old x among = Contains-append_right new old x among

sent_once : (phase : Phase) → AreOnce (λ (r : Request). r.call) (λ (r : Request). r.number) (sent_in phase)
sent_once (awaits_reply request) = one_once (λ (r : Request). r.call) (λ (r : Request). r.number) request
sent_once phase = none_once (λ (r : Request). r.call) (λ (r : Request). r.number)

module _ (w : World) (was : IsNumbered w) (call : ℕ) (before a : Agent) (there : w.agent call ≡ Some before)
    (goes : GoesOn before.call before.next before.lines a) where
  abbrev stepped : World
  stepped = agent_steps w call a

  of_call : before.call ≡ call
  of_call = was.agents call before there

  still_there : (c : ℕ) (b : Agent) → w.agent c ≡ Some b → (x : Agent) × (stepped.agent c ≡ Some x)
  still_there c b is =
      by_test (λ (o : Option Agent). (x : Agent) × (o ≡ Some x)) (Some a) (w.agent c) (c == call) (λ here. (a, refl)) (λ other. (b, is))

  known_still : (c : ℕ) → IsKnown w c → IsKnown stepped c
  known_still c (inl (b, is)) = inl (still_there c b is)
  known_still c (inr gone) = inr gone

  requests_after : RequestsAreNumbered (IsKnown stepped) stepped.agent stepped.requests
  requests_after = record {
    each_known = λ r among. elim (Contains-append_cases (sent_in a.phase) w.requests r among) [
      | inl at ↦ inl (still_there r.call before (ap w.agent ((goes.sent r at).0 ∙ of_call) ∙ there))
      | inr old ↦ known_still r.call (was.requests.each_known r old)
    ];
    below = λ r b among is. elim (stepped_agent w call a r.call b is) [
      | inl here ↦ subst (λ (x : Agent). r.number < x.next) here.1 (elim (Contains-append_cases (sent_in a.phase) w.requests r among) [
        | inl at ↦ (let number = (goes.sent r at).1.0 in let above = (goes.sent r at).1.1 in omega (arith, number, above))
        | inr old ↦ (let small = was.requests.below r before old (ap w.agent here.0 ∙ there) in let grows = goes.next_is in omega (arith, small, grows))
      ])
      | inr other ↦ elim (Contains-append_cases (sent_in a.phase) w.requests r among) [
        | inl at ↦ absurd (other.0 ((goes.sent r at).0 ∙ of_call))
        | inr old ↦ was.requests.below r b old other.1
      ]
    ];
    once = both_once (λ (r : Request). r.call) (λ (r : Request). r.number) (sent_in a.phase) w.requests (sent_once a.phase) was.requests.once
        (λ x y at old same also. absurd (
        let facts = goes.sent x at in
        let number : x.number ≡ before.next = facts.1.0 in
        let small = was.requests.below y before old (ap w.agent (sym same ∙ facts.0 ∙ of_call) ∙ there) in
        omega (arith, number, small, also)));
  }

  pub step_numbered : IsNumbered stepped
  step_numbered = record {
    agents = λ c b is. elim (stepped_agent w call a c b is) [
      | inl here ↦ ap (λ (x : Agent). x.call) (sym here.1) ∙ goes.call_is ∙ of_call ∙ sym here.0
      | inr other ↦ was.agents c b other.1
    ];
    open_calls = λ c b is. elim (stepped_agent w call a c b is) [
      | inl here ↦ ap w.gateway.retired here.0 ∙ was.open_calls call before there
      | inr other ↦ was.open_calls c b other.1
    ];
    held = λ l c is. let old = was.held l c is in still_there c old.0 old.1;
    requests = requests_after;
    replies = replies_stay w.gateway.retired w.gateway.retired w.gateway.link w.gateway.link w.gateway.association w.requests stepped.requests w.replies
        (λ r among. added (sent_in a.phase) w.requests r among) (λ x among open_call. (open_call, refl)) (λ c k is. is) was.replies;
    notes = notes_stay (IsKnown w) (IsKnown stepped) w.gateway.retired w.gateway.retired w.gateway.link w.gateway.link w.notes known_still
        (λ c known open_call. (open_call, refl)) was.notes;
  }

pub agent_numbered : (w after : World) (call : ℕ) (step : Agent → Option Agent) → ((a : Agent) → GivesNext a.call a.next a.lines (step a)) → IsNumbered w
    → AgentSteps w call step after → IsNumbered after
agent_numbered w after call step next was s =
    subst IsNumbered (sym s.after_is) (step_numbered w was call s.before s.agent s.open_call (next s.before s.agent s.steps))

-- ---- a link that is changed at one call

link_last : (g : Gateway) (call : ℕ) (link : CallLink) → link.last ≡ (g.link call).last → (c : ℕ)
    → (if c == call then link else g.link c).last ≡ (g.link c).last
link_last g call link same c = by_test (λ (l : CallLink). l.last ≡ (g.link c).last) link (g.link c) (c == call)
    (λ e. same ∙ ap (λ n. (g.link n).last) (sym (eqb-true c call e))) (λ e. refl)

-- ---- an event of a line

module _ (w : World) (was : IsNumbered w) (line : ℕ) (event : LineEvent) (after : World) (o : LineOccurs w line event after) where
  abbrev h : gateway.Happens w.gateway line event o.gateway o.sent
  h = o.happens

  abbrev changed : CallLink
  changed = record { last = (w.gateway.link h.call).last; notes = (w.gateway.link h.call).notes + length o.sent }

  abbrev later : Gateway
  later = with_notes (with_line w.gateway line h.outcome.row) h.call (length o.sent)

  abbrev occurred : World
  occurred = record (with_gateway w later) { notes = o.sent ++ w.notes }

  line_after : IsNumbered occurred
  line_after =
      let holder = was.held line h.call h.held in
      let last = link_last w.gateway h.call changed refl in
      record {
        agents = was.agents;
        open_calls = was.open_calls;
        held = was.held;
        requests = record { each_known = was.requests.each_known; below = was.requests.below; once = was.requests.once };
        replies = replies_stay w.gateway.retired w.gateway.retired w.gateway.link later.link w.gateway.association w.requests w.requests w.replies
            (λ r among. among) (λ x among open_call. (open_call, last x.call)) (λ c k is. sym (last c) ∙ is) was.replies;
        notes = notes_added (IsKnown w) w.gateway.retired w.gateway.link later.link w.notes o.sent h.call ((w.gateway.link h.call).notes + length o.sent)
            (subst (λ notes. AreNumberedOn h.call (w.gateway.link h.call).notes ((w.gateway.link h.call).notes + length notes) notes) (sym h.notes_are)
            (line_on w.gateway h.call line h.outcome.note))
            (inl holder) (was.open_calls h.call holder.0 holder.1) (ap (λ (link : CallLink). link.notes) (at_one h.call changed (w.gateway.link h.call)))
            (λ c differs. ap (λ (link : CallLink). link.notes) (at_another h.call c changed (w.gateway.link c) differs)) was.notes;
      }

  pub line_numbered : IsNumbered after
  line_numbered = subst IsNumbered (sym (o.after_is ∙ ap (λ (g : Gateway). record (with_gateway w g) { notes = o.sent ++ w.notes }) h.after_is)) line_after
