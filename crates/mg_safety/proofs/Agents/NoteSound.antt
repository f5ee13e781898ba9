-- An agent that accepts a note keeps the world sound: the note that leads on is raised by the list that stands, so where it leads is an
-- observation of the configuration.
use Rattle.mg_safety.proofs.Invariant.Sound.{Listed}
use Rattle.mg_safety.proofs.Words.{◌≡◌, ◌∙◌, ℕ, true, Option, Some, None, refl, sym, ap, subst, arith, inl, inr, Contains, eqb-true, ◌==◌, not}
use Rattle.mg_safety.proofs.Words.{if◌then◌else◌, ◌⊎◌, Resting, Inbox, arrival, is_new, arrives_new, was_seen, is_old, Agent, inbox_of, resting}
use Rattle.mg_safety.proofs.Words.{entered_or_stays, is_resting, line_in, may_accept, noted, target_of, list_of, with_at, Configuration, Gateway}
use Rattle.mg_safety.proofs.Words.{SentNote, Script, state_of, items_of, raises, target_in, line_places, World, AgentSteps, none_is_some}
use Rattle.mg_safety.proofs.Words.{the_some, and_second, is_resting_is, three_parts, by_test, false_not_true}
use Rattle.mg_model.specs.declared.steps.StepName.TheVariants as names
use Rattle.mg_model.specs.Steps as steps
use Rattle.mg_safety.proofs.InvariantWords.{Stands, IsCurrent, IsLost, IsNoteSound, IsNoteStanding, CallIsSound, IsClosed, KeepsSound}
use Rattle.mg_safety.proofs.Agents.Entering.{Follows, not_resting, enters_follows, IsBetween, enters_current}
use Rattle.mg_safety.proofs.Agents.AgentSteps.{Goes, agent_goes}
use Rattle.mg_safety.proofs.Agents.AgentParts.{step_of, quiet, goes_on, lost_goes}
use Rattle.mg_safety.proofs.Agents.AgentSound.{between_of, not_executed, rest_quiet, at_rest}
use Rattle.mg_safety.proofs.Agents.Observing.{LeadsOn, leads_where, observed, list_says}

-- the agent that has accepted a note
abbrev pub accepting : Agent → ℕ → Agent
accepting a number = record a { accepted = with_at a.accepted number true }

-- the note is of the agent's association, the agent is at rest, and it goes on where the note leads
record IsAccepted (script : Script) (a b : Agent) (sent : SentNote) : Type 0 where
  phase : a.phase ≡ resting
  association : sent.association ≡ a.association
  leads : entered_or_stays script (accepting a sent.number) (target_of script a (line_in a sent.line (line_places script)) sent.note) ≡ Some b

-- what is new to an inbox is of its association
new_is_ours : (inbox : Inbox) (association number : ℕ) → is_new (arrival inbox association number) ≡ true → association ≡ inbox.association
new_is_ours inbox association number = by_test (λ (a : _). is_new a ≡ true → association ≡ inbox.association)
    (if inbox.accepted number then was_seen else arrives_new) is_old (association == inbox.association)
    (λ ours new. eqb-true association inbox.association ours) (λ older new. absurd (false_not_true new))

accepts : (script : Script) (a b : Agent) (sent : SentNote) → noted script a (line_places script) sent ≡ Some b → IsAccepted script a b sent
accepts script a b sent = by_test (λ (o : Option Agent). o ≡ Some b → IsAccepted script a b sent)
    (entered_or_stays script (accepting a sent.number) (target_of script a (line_in a sent.line (line_places script)) sent.note)) None
    (may_accept script a sent)
    (λ e is. let parts = three_parts (is_resting a.phase) (not (state_of script a.state).is_end)
    (is_new (arrival (inbox_of a) sent.association sent.number)) (and_second (sent.call == a.call) _ e) in
    record { phase = is_resting_is a.phase parts.0; association = new_is_ours (inbox_of a) sent.association sent.number parts.2; leads = is })
    (λ e is. absurd (none_is_some b is))

-- ---- the agent after it

follows_itself : (a : Agent) → a.phase ≡ resting → Follows a a
follows_itself a is = record {
  call = refl;
  association = refl;
  lines = refl;
  next = omega arith;
  sends = λ request phase. absurd (not_resting request (sym is ∙ phase));
  above = λ request phase. absurd (not_resting request (sym is ∙ phase));
}

stay_follows : (script : Script) (a b : Agent) (target : Option ℕ) → a.phase ≡ resting → entered_or_stays script a target ≡ Some b → Follows a b
stay_follows script a b None phase is = subst (Follows a) (the_some a b is) (follows_itself a phase)
stay_follows script a b (Some state) phase is = enters_follows script a state b is

-- nothing that a configuration is shown by reads what was accepted
pub accepting_between : (script : Script) (g : Gateway) (a : Agent) (number : ℕ) (c : Configuration) → IsBetween script g a c
    → IsBetween script g (accepting a number) c
accepting_between script g a number c between = record {
  association = between.association;
  next = between.next;
  of_script = between.of_script;
  shown = between.shown;
  lines_shown = record {
    events = between.lines_shown.events;
    silent = between.lines_shown.silent;
    expected = between.lines_shown.expected;
    unnamed = between.lines_shown.unnamed;
  };
}

stays_current : (script : Script) (Among : Listed) (g : Gateway) (a : Agent) (number : ℕ) (k : IsCurrent script Among g a) → a.phase ≡ resting
    → k.c.link ≡ Resting → IsBetween script g a k.c → IsCurrent script Among g (accepting a number)
stays_current script Among g a number k phase link between = record {
  association = k.association;
  c = k.c;
  e = accepting a number;
  stands = k.stands;
  state = k.state;
  at = inr (inr (inr (record { phase = phase; effective = refl; link_is = link })));
  shown = between.shown;
  lines_shown = (accepting_between script g a number k.c between).lines_shown;
}

-- where the note leads, the checker's configuration stands
note_leads : (script : Script) (Among : Listed) → IsClosed script Among → (floor : ℕ → ℕ) (g : Gateway) (a : Agent) (sent : SentNote) (state : ℕ)
    (k : IsCurrent script Among g a) → k.c.link ≡ Resting → IsBetween script g a k.c → IsNoteStanding floor g sent
    → LeadsOn script a sent.line sent.note state → Stands script Among (steps.with_state script k.c state)
note_leads script Among closed floor g a sent state k link between standing where_to =
    let i = where_to.i in
    let request : (g.line sent.line).request ≡ Some sent.note.request =
    subst (λ l. (g.line l).request ≡ Some sent.note.request) where_to.line_is
    (between.lines_shown.expected i where_to.within ∙ where_to.expected) in
    let list : (g.line sent.line).list ≡ list_of script (k.c.events i) =
    subst (λ l. (g.line l).list ≡ list_of script (k.c.events i)) where_to.line_is (between.lines_shown.events i where_to.within) in
    let raised : raises (items_of script (k.c.events i)) sent.note.kind ≡ true =
    list_says script (k.c.events i) (g.line sent.line).list sent.note.kind list (standing.raised request) in
    let target : target_in (state_of script k.c.state).on i sent.note.kind ≡ Some state =
    ap (λ n. target_in (state_of script n).on i sent.note.kind) k.state ∙ where_to.target in
    step_of script Among closed k.c Resting (names.Observe i sent.note.kind, steps.with_state script k.c state) k.stands link
    (observed script k.c i sent.note.kind state where_to.place raised target)

note_current : (script : Script) (Among : Listed) → IsClosed script Among → (floor : ℕ → ℕ) (g : Gateway) (a b : Agent) (sent : SentNote)
    (k : IsCurrent script Among g a) → a.phase ≡ resting → k.c.link ≡ Resting → IsBetween script g a k.c → IsNoteStanding floor g sent → (target : Option ℕ)
    → target_of script a (line_in a sent.line (line_places script)) sent.note ≡ target
    → entered_or_stays script (accepting a sent.number) target ≡ Some b → IsCurrent script Among g b
note_current script Among closed floor g a b sent k phase link between standing None where_to is =
    subst (IsCurrent script Among g) (the_some (accepting a sent.number) b is) (stays_current script Among g a sent.number k phase link between)
note_current script Among closed floor g a b sent k phase link between standing (Some state) where_to is =
    (enters_current script Among g (accepting a sent.number) k.c state b (accepting_between script g a sent.number k.c between)
    (note_leads script Among closed floor g a sent state k link between standing (leads_where script a sent.line sent.note state where_to)) is).current

note_goes : (script : Script) (Among : Listed) → IsClosed script Among → (floor : ℕ → ℕ) (w : World) (sent : SentNote) (a b : Agent)
    → IsNoteSound floor w.gateway sent → CallIsSound script Among w sent.call a → IsAccepted script a b sent → Goes script Among w.gateway a b
note_goes script Among closed floor w sent a b known sound t = by_part sound.part
  where
    by_part : IsCurrent script Among w.gateway a ⊎ IsLost script w.gateway a → Goes script Among w.gateway a b
    by_part (inl k) =
        let rest = at_rest script w.gateway a k.e k.c.link t.phase k.at in
        let between = between_of script Among w.gateway a a k rest.effective refl refl refl (not_executed script Among w sent.call a sound) in
        goes_on script Among w.gateway a (accepting a sent.number) b refl refl (omega arith) refl
        (stay_follows script (accepting a sent.number) b (target_of script a (line_in a sent.line (line_places script)) sent.note) t.phase t.leads)
        (quiet w.gateway a (rest_quiet a.phase t.phase))
        (inl (note_current script Among closed floor w.gateway a b sent k t.phase rest.link_is between (known.standing (t.association ∙ k.association))
        (target_of script a (line_in a sent.line (line_places script)) sent.note) refl t.leads))
    by_part (inr lost) = lost_goes script Among w.gateway a (accepting a sent.number) b lost refl refl refl refl
        (stay_follows script (accepting a sent.number) b (target_of script a (line_in a sent.line (line_places script)) sent.note) t.phase t.leads)

pub note_sound : (sent : SentNote) → KeepsSound (λ script w after.
    Contains w.notes sent × AgentSteps w sent.call (λ a. noted script a (line_places script) sent) after)
note_sound sent script Among is_script closed w after sound occurs =
    let s = occurs.1 in
    agent_goes script Among w after sent.call (λ a. noted script a (line_places script) sent) sound s
    (note_goes script Among closed sound.floor w sent s.before s.agent ((sound.gateway.notes sent occurs.0).1 (s.before, s.open_call))
    (sound.calls sent.call s.before s.open_call) (accepts script s.before s.agent sent s.steps))
