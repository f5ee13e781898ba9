-- In every world of every run a message is named by its call and its number.
use Rattle.mg_safety.proofs.Words.{◌≡◌, ◌∙◌, ℕ, Bool, true, false, List, [], ◌∷◌, Some, None, sym, ap, subst, arith, inl, inr, Contains, CallEvent, Event}
use Rattle.mg_safety.proofs.Words.{OfCall, Restart, Agent, begun, opened, replied, passed, noted, timed, heard, Gateway, CallLink, restarted, Request, Reply}
use Rattle.mg_safety.proofs.Words.{SentNote, Script, line_places, World, Opened, IsOpening, OccursTo, Occurs, Begins, with_gateway, none_is_some, the_some}
use Rattle.mg_safety.proofs.Words.{not_both, at_one, at_another, nothing_in}
use Rattle.mg_model.specs.declared.events.CallEvent.TheVariants as to_call
use Rattle.mg_model.specs.Gateway as gateway
use Rattle.mg_model.specs.World.{Runs}
use Rattle.mg_safety.proofs.InvariantWords.{IsKnown}
use Rattle.mg_safety.specs.MessageNumbers.{MessagesAreNamedByNumber}
use Rattle.mg_safety.proofs.Events.Handover.{handed_from, link_other, kept_from, world_begun, agent_new, agent_other, agent_from, other_number, not_known}
use Rattle.mg_safety.proofs.Events.Handover.{still_known}
use Rattle.mg_safety.proofs.Messages.AgentNumbers.{replied_next, passed_next, noted_next, timed_next, heard_next}
use Rattle.mg_safety.proofs.Messages.Numbered.{notes_stay, replies_stay}
use Rattle.mg_safety.proofs.Messages.NumberedExecutes.{execute_numbered}
use Rattle.mg_safety.proofs.Messages.NumberedWorlds.{IsNumbered, agent_numbered, line_numbered}

-- ---- a call begins on the lines of another

module _ (script : Script) (w : World) (was : IsNumbered w) (new old : ℕ) (a : Agent) (there : w.agent old ≡ Some a) (unused : w.agent new ≡ None)
    (not_retired : w.gateway.retired new ≡ false) where
  abbrev begun_world : World
  begun_world = world_begun script w new old a

  abbrev later : Gateway
  later = gateway.begun w.gateway old new

  known_still : (c : ℕ) → IsKnown w c → IsKnown begun_world c
  known_still = still_known script w new old a unused

  -- what is known, and not retired after, is neither call
  record IsNeither (c : ℕ) : Type 0 where
    not_old : c ≡ old → ⊥
    not_new : c ≡ new → ⊥
    still_open : w.gateway.retired c ≡ false

  neither : (c : ℕ) → IsKnown w c → later.retired c ≡ false → IsNeither c
  neither c known open_call =
      let not_old : c ≡ old → ⊥ = λ is. not_both (subst (λ n. later.retired n ≡ true) (sym is) (at_one old true (w.gateway.retired old))) open_call in
      record {
        not_old = not_old;
        not_new = λ is. not_known w new unused not_retired (subst (IsKnown w) is known);
        still_open = sym (at_another old c true (w.gateway.retired c) not_old) ∙ open_call;
      }

  reply_known : (x : Reply) → Contains w.replies x → IsKnown w x.call
  reply_known x among = let its = was.replies.answered x among in subst (IsKnown w) its.2 (was.requests.each_known its.0 its.1)

  begun_numbered : IsNumbered begun_world
  begun_numbered = record {
    agents = λ c b is. elim (agent_from script w new old c a b is) [
      | inl here ↦ ap (λ (x : Agent). x.call) (sym here.1) ∙ sym here.0
      | inr other ↦ was.agents c b other.2
    ];
    open_calls = λ c b is. elim (agent_from script w new old c a b is) [
      | inl here ↦ subst (λ n. later.retired n ≡ false) (sym here.0)
          (at_another old new true (w.gateway.retired new) (other_number w new old a there unused) ∙ not_retired)
      | inr other ↦ at_another old c true (w.gateway.retired c) other.1 ∙ was.open_calls c b other.2
    ];
    held = λ l c is. elim (handed_from old new (w.gateway.holder l) c is) [
      | inl own ↦ (begun script new a, ap begun_world.agent own.1 ∙ agent_new script w new old a)
      | inr still ↦ (let its = was.held l c still.0 in (
        its.0,
        agent_other script w new old c a still.1
            (λ is_new. not_known w new unused not_retired (inl (its.0, ap w.agent (sym is_new) ∙ its.1))) ∙ its.1,
      ))
    ];
    requests = record {
      each_known = λ r among. known_still r.call (was.requests.each_known r among);
      below = λ r b among is. elim (agent_from script w new old r.call a b is) [
        | inl here ↦ absurd (not_known w new unused not_retired (subst (IsKnown w) here.0 (was.requests.each_known r among)))
        | inr other ↦ was.requests.below r b among other.2
      ];
      once = was.requests.once;
    };
    replies = replies_stay w.gateway.retired later.retired w.gateway.link later.link w.gateway.association w.requests w.requests w.replies (λ r among. among)
        (λ x among open_call. let n = neither x.call (reply_known x among) open_call in
        (n.still_open, ap (λ (link : CallLink). link.last) (link_other w.gateway old new x.call n.not_old n.not_new)))
        (λ c k is. kept_from w.gateway old new c k (other_number w new old a there unused) is) was.replies;
    notes = notes_stay (IsKnown w) (IsKnown begun_world) w.gateway.retired later.retired w.gateway.link later.link w.notes known_still
        (λ c known open_call. let n = neither c known open_call in
        (n.still_open, ap (λ (link : CallLink). link.notes) (link_other w.gateway old new c n.not_old n.not_new))) was.notes;
  }

begin_numbered : (script : Script) (w after : World) (new old : ℕ) → IsNumbered w → Begins script w new old after → IsNumbered after
begin_numbered script w after new old was x =
    subst IsNumbered (sym x.after_is) (begun_numbered script w was new old x.before x.open_call x.unused x.not_retired)

-- ---- a restart

restart_numbered : (w : World) → IsNumbered w → IsNumbered (with_gateway w (restarted w.gateway))
restart_numbered w was = record {
  agents = was.agents;
  open_calls = was.open_calls;
  held = was.held;
  requests = record { each_known = was.requests.each_known; below = was.requests.below; once = was.requests.once };
  replies = record {
    kept = λ c k is. absurd (none_is_some k is);
    answered = was.replies.answered;
    past = λ x among. let before = was.replies.past x among in omega (arith, before);
    executed = λ x among open_call now. absurd (let before = was.replies.past x among in omega (arith, before, now));
    same_kept = λ x k among is. absurd (none_is_some k is);
    once = was.replies.once;
  };
  notes = record { each_known = was.notes.each_known; counted = was.notes.counted; once = was.notes.once };
}

-- ---- events

occurs_numbered : (script : Script) (w after : World) (call : ℕ) (happens : CallEvent) → IsNumbered w → OccursTo script w call happens after → IsNumbered after
occurs_numbered script w after call (to_call.OnLine line event) was occurs = line_numbered w was line.0 event after occurs.1
occurs_numbered script w after call (to_call.Execute number chosen) was (request, of_call, executes) =
    execute_numbered w after request chosen was of_call.0 executes
occurs_numbered script w after call (to_call.Reply number) was (answer, of_call, steps) =
    agent_numbered w after call (λ a. replied script a answer) (λ a. replied_next script a answer) was steps
occurs_numbered script w after call to_call.Pass was occurs = agent_numbered w after call (passed script) (passed_next script) was occurs
occurs_numbered script w after call (to_call.Note number) was (sent, of_call, steps) =
    agent_numbered w after call (λ a. noted script a (line_places script) sent) (λ a. noted_next script a (line_places script) sent) was steps
occurs_numbered script w after call to_call.Timer was occurs = agent_numbered w after call (timed script) (timed_next script) was occurs
occurs_numbered script w after call (to_call.Begin old) was occurs = begin_numbered script w after call old.0 was occurs
occurs_numbered script w after call (to_call.Hear association) was occurs =
    agent_numbered w after call (λ a. heard script a association.0) (λ a. heard_next script a association.0) was occurs.1

pub event_numbered : (script : Script) (w after : World) (event : Event) → IsNumbered w → Occurs script w event after → IsNumbered after
event_numbered script w after (OfCall call happens) was occurs = occurs_numbered script w after call.0 happens was occurs
event_numbered script w after Restart was occurs = subst IsNumbered (sym occurs.1) (restart_numbered w was)

pub runs_numbered : (script : Script) (events : List Event) (w end : World) → IsNumbered w → Runs script events w end → IsNumbered end
unfolding Runs
runs_numbered script [] w end was runs = subst IsNumbered (sym runs) was
runs_numbered script (event ∷ more) w end was runs = runs_numbered script more runs.0 end (event_numbered script w runs.0 event was runs.1.0) runs.1.1

-- ---- openings

pub opening_numbered : (script : Script) (calls : List Opened) (w : World) → IsOpening script calls w → IsNumbered w
opening_numbered script calls w opens = record {
  agents = λ c b is. let its = opens.agents.no_other c b is in
      ap (λ (x : Agent). x.call) (the_some b (opened script its.0.call its.0.lines)
      (sym is ∙ ap w.agent (sym its.2) ∙ opens.agents.opened its.0 its.1)) ∙ its.2;
  open_calls = λ c b is. ap (λ (retired : ℕ → Bool). retired c) opens.gateway.none_retired;
  held = λ l c is. let its = (opens.lines.held l c).0 is in
      (opened script its.one.call its.one.lines, ap w.agent (sym its.is_call) ∙ opens.agents.opened its.one its.among);
  requests = record {
    each_known = λ r among. absurd (no_request r among);
    below = λ r b among. absurd (no_request r among);
    once = λ r s among. absurd (no_request r among);
  };
  replies = record {
    kept = λ c k is. absurd (none_is_some k (sym (ap (λ (link : ℕ → CallLink). (link c).last) opens.gateway.no_reply_kept) ∙ is));
    answered = λ x among. absurd (no_answer x among);
    past = λ x among. absurd (no_answer x among);
    executed = λ x among. absurd (no_answer x among);
    same_kept = λ x k among. absurd (no_answer x among);
    once = λ x y among. absurd (no_answer x among);
  };
  notes = record {
    each_known = λ n among. absurd (no_note n among);
    counted = λ n among. absurd (no_note n among);
    once = λ n m among. absurd (no_note n among);
  };
}
  where
    no_request : (r : Request) → Contains w.requests r → ⊥
    no_request r = nothing_in r w.requests opens.messages.no_request

    no_answer : (x : Reply) → Contains w.replies x → ⊥
    no_answer x = nothing_in x w.replies opens.messages.no_answer

    no_note : (n : SentNote) → Contains w.notes n → ⊥
    no_note n = nothing_in n w.notes opens.messages.no_note

pub named_by_number : MessagesAreNamedByNumber
named_by_number script calls events opening end opens runs =
    let numbered = runs_numbered script events opening end (opening_numbered script calls opening opens) runs in
    record { requests = numbered.requests.once; replies = numbered.replies.once; notes = numbered.notes.once }
