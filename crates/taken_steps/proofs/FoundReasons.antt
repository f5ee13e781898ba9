-- What was found of an event that can't happen is the reason, in whatever world the shard shows.
use Rattle.std.proofs.Common.{◌≡◌, ◌∙◌, ◌+◌, ◌<◌, ◌≤◌, ◌∷◌, ℕ, Bool, true, false, true≢false, length, map, Option, Some, None, if◌then◌else◌, refl, sym, ap, subst, arith, inl, inr}
use Rattle.std.specs.Prelude.{IfSome}
use Rattle.std.proofs.lemmas.Bool.{false_from_ne_true}
use Rattle.mg_names.specs.declared.identifiers.Assoc.{Assoc}
use Rattle.mg_names.specs.declared.identifiers.LineNo.{LineNo}
use Rattle.mg_model.proofs.Agents.{is_resting_is}
use Rattle.mg_model.specs.declared.events.CallEvent.{CallEvent}
use Rattle.mg_model.specs.declared.events.CallEvent.TheVariants as to_call
use Rattle.mg_model.specs.declared.events.Event.TheVariants.{OfCall}
use Rattle.mg_model.specs.declared.failures.ChosenRefusal.{ChosenRefusal}
use Rattle.mg_model.specs.declared.line_events.Hook.TheVariants.{On, Off}
use Rattle.mg_model.specs.declared.line_events.LineEvent.{LineEvent}
use Rattle.mg_model.specs.declared.line_events.LineEvent.TheVariants as happens
use Rattle.mg_model.specs.Agent.{Agent, answers, awaits_pass, awaits_reply, is_resting}
use Rattle.mg_model.specs.Delivery.{Offer, discard, fresh, kept}
use Rattle.mg_model.specs.Gateway.{Gateway, MayBegin, offer_to, outcome_of}
use Rattle.mg_model.specs.LineEvents.{Outcome}
use Rattle.mg_model.specs.Messages.{Reply, Request, SentNote}
use Rattle.mg_model.specs.Numbers.{last_number}
use Rattle.mg_model.specs.Tables.{line_places, state_of}
use Rattle.mg_model.specs.World.{HasEnded, IsNoteOf, IsReplyOf, IsRequestOf, OccursTo, World, agent_steps, on_a_line}
use Rattle.agent.specs.CallValue.{Kind, has_ended, kind_in, rests, waits}
use Rattle.agent.specs.Calls.{variant_of}
use Rattle.agent.specs.declared.call.Next.{Next}
use Rattle.gateway.specs.GatewayValue.{gateway_of}
use Rattle.mg_safety.proofs.Events.Handover.{world_begun}
use Rattle.shards.proofs.ShardLemmas.{world_numbered}
use Rattle.shards.specs.CanOccur.{HasNoRoomFor, IsOccurrence, NeverOccurs, TellsOccurrence, record_call}
use Rattle.shards.specs.Shards.{IsShard, IsWorldOf, ShardValue, opened_as}
use Rattle.shards.specs.Standings.{StandsAs}
use Rattle.shards.specs.Stepping.{has_step}
use Rattle.shards.specs.declared.standing.Standing.{Standing}
use Rattle.taken_steps.specs.Findings.{IsFound, IsFoundAtAnswer, IsFoundAtBeginning, IsFoundAtHearing, IsFoundAtNote, IsFoundAtTimer, IsFoundOnLine, IsStandingAlike, kind_at}
use Rattle.taken_steps.specs.Reasons.{IsCause, IsKind, IsReason, IsRefusedFor, IsShort, StandsThere, has_reached}
use Rattle.taken_steps.specs.declared.idle.Idle.{Idle}
use Rattle.taken_steps.specs.declared.idle.Idle.TheVariants.{HasEnded as EndedCall, Lost, NotAwaited, NotNew, OtherAssociation, NoTimer, NothingToHear, NotBegun, NotOfCall, NotOnLine, NotReleased, NumbersEnd, Rests, Waits}
use Rattle.taken_steps.specs.declared.idle.Numbers.TheVariants.{Notes, Requests}
use Rattle.taken_steps.proofs.AcceptedNotes.{accepted_reached}
use Rattle.taken_steps.proofs.EndedNumbers.{no_hearing, no_note_step, no_pass, no_reply, no_timer_step}
use Rattle.taken_steps.proofs.LineEnds.{hook_changes, no_note_left}
use Rattle.taken_steps.proofs.SentMessages.{HasSent, run_sent}

-- ---- small facts

none_left : (o : Option Outcome) → ((x : Outcome) → o ≡ Some x → ⊥) → o ≡ None
none_left None never = refl
none_left (Some x) never = absurd (never x refl)

-- where it isn't none there is one
some_left : (P : Type 0) (o : Option Outcome) → ((x : Outcome) → o ≡ Some x → P) → (o ≡ None → ⊥) → P
some_left P None on some = absurd (some refl)
some_left P (Some x) on some = on x refl

-- what a kind says of an agent
rests_in_kind : (resting ends : Bool) → (if resting then (if ends then has_ended else rests) else waits) ≡ rests → (resting ≡ true) × (ends ≡ false)
rests_in_kind true false is = (refl, refl)
rests_in_kind true true is = cc
rests_in_kind false ends is = cc

ended_in_kind : (resting ends : Bool) → (if resting then (if ends then has_ended else rests) else waits) ≡ has_ended → (resting ≡ true) × (ends ≡ true)
ended_in_kind true true is = (refl, refl)
ended_in_kind true false is = cc
ended_in_kind false ends is = cc

-- which kinds have steps for what
for_rests : (kind : Kind) → has_step to_call.Timer kind ≡ true → kind ≡ rests
for_rests rests is = refl
for_rests waits is = absurd (true≢false (sym is))
for_rests has_ended is = absurd (true≢false (sym is))

for_ended : (kind : Kind) (call : ℕ) → has_step (to_call.Begin (record { 0 = call })) kind ≡ true → kind ≡ has_ended
for_ended rests call is = absurd (true≢false (sym is))
for_ended waits call is = absurd (true≢false (sym is))
for_ended has_ended call is = refl

-- ---- in a world

module _ (v : ShardValue) (was : IsShard v) (w : World) (shown : IsWorldOf v w) where
  sent : HasSent w (length v.history)
  sent = run_sent v.script was.few_commands (map opened_as v.calls) v.history shown.start w shown.opens shown.runs

  abbrev Never : ℕ → CallEvent → Type 0
  Never call event = (after : World) → OccursTo v.script w call event after → ⊥

  -- ---- a line

  module _ (call : ℕ) (line : LineNo) where
    left : IsShort v → last_number < (w.gateway.link call).notes + 1 → ⊥
    left short past = let few = sent.notes call in omega (arith, short, past, few)

    held_by : NeverOccurs v (on_a_line call line.0 (happens.Hook Off)) → NeverOccurs v (on_a_line call line.0 (happens.Hook On)) → IsShort v
        → w.gateway.holder line.0 ≡ Some call → ⊥
    held_by off on short held = elim (hook_changes (w.gateway.line line.0)) [
      | inl changes ↦ left short (no_note_left v.script w call line (happens.Hook Off) (off w shown) held changes.0 changes.1)
      | inr changes ↦ left short (no_note_left v.script w call line (happens.Hook On) (on w shown) held changes.0 changes.1)
    ]

    ruled_out : (event : LineEvent) → Never call (to_call.OnLine line event) → IsShort v → w.gateway.holder line.0 ≡ Some call
        → outcome_of (w.gateway.line line.0) event ≡ None
    ruled_out event never short held =
        none_left (outcome_of (w.gateway.line line.0) event) (λ o is. left short (no_note_left v.script w call line event never held o is))

    notes_end : (event : LineEvent) → Never call (to_call.OnLine line event) → w.gateway.holder line.0 ≡ Some call
        → (outcome_of (w.gateway.line line.0) event ≡ None → ⊥) → last_number < (w.gateway.link call).notes + 1
    notes_end event never held some =
        some_left (last_number < (w.gateway.link call).notes + 1) (outcome_of (w.gateway.line line.0) event)
        (λ o is. no_note_left v.script w call line event never held o is) some

  -- ---- a request

  is_fresh : (call number : ℕ) (chosen : Option ChosenRefusal) → Never call (to_call.Execute number chosen) → (request : Request)
      → IsRequestOf w call number request → offer_to w.gateway request ≡ fresh
  is_fresh call number chosen never request of_call = by_offer (offer_to w.gateway request) refl
    where
      by_offer : (offered : Offer Reply) → offer_to w.gateway request ≡ offered → offered ≡ fresh
      by_offer fresh is = refl
      by_offer (kept answer) is = absurd (never (record w { replies = answer ∷ w.replies })
          (request, of_call, inr (inl (record { answer = answer; kept = is; after_is = refl }))))
      by_offer discard is = absurd (never w (request, of_call, inr (inr (is, refl))))

  -- ---- an agent

  module _ (call : ℕ) (agent : Agent) (there : w.agent call ≡ Some agent) where
    left_to_call : IsShort v → last_number < agent.next → ⊥
    left_to_call short past = let few = sent.next call agent there in omega (arith, short, past, few)

    timer_ends : Never call to_call.Timer → is_resting agent.phase ≡ true → ((state_of v.script agent.state).timer ≡ None → ⊥) → last_number < agent.next
    timer_ends never rest timer = no_timer_step v.script agent rest timer (λ b is. never (agent_steps w call b)
        (record { before = agent; agent = b; open_call = there; steps = is; after_is = refl }))

    hearing_ends : (association : Assoc) → Never call (to_call.Hear association) → agent.association < association.0
        → association.0 ≤ w.gateway.association → last_number < agent.next
    hearing_ends association never newer told = no_hearing v.script agent association.0 newer (λ b is. never (agent_steps w call b)
        (told, record { before = agent; agent = b; open_call = there; steps = is; after_is = refl }))

    pass_ends : Never call to_call.Pass → agent.phase ≡ awaits_pass → last_number < agent.next
    pass_ends never phase = no_pass v.script agent phase (λ b is. never (agent_steps w call b)
        (record { before = agent; agent = b; open_call = there; steps = is; after_is = refl }))

    reply_ends : (number : ℕ) → Never call (to_call.Reply number) → ((state_of v.script agent.state).fault ≡ None → ⊥) → (request : Request) (answer : Reply)
        → agent.phase ≡ awaits_reply request → IsReplyOf w call number answer → answers answer request ≡ true → last_number < agent.next
    reply_ends number never fault request answer phase of_call fits = no_reply v.script agent request answer phase fits fault (λ b is.
        never (agent_steps w call b) (answer, of_call, record { before = agent; agent = b; open_call = there; steps = is; after_is = refl }))

    unseen : (number : ℕ) → has_reached call number v.history ≡ false → agent.accepted number ≡ false
    unseen number none = false_from_ne_true (agent.accepted number) (λ was_so. true≢false
        (sym (accepted_reached v.script (map opened_as v.calls) v.history shown.start w shown.opens shown.runs call agent there number was_so) ∙ none))

    note_ends : (number : ℕ) → Never call (to_call.Note number) → is_resting agent.phase ≡ true → (state_of v.script agent.state).is_end ≡ false
        → has_reached call number v.history ≡ false → (note : SentNote) → IsNoteOf w call number note → note.association ≡ agent.association
        → last_number < agent.next
    note_ends number never rest goes_on none note of_call of_association =
        no_note_step v.script agent note rest goes_on (of_call.1 ∙ sym ((world_numbered v w shown).agents call agent there)) of_association
        (ap agent.accepted of_call.2 ∙ unseen number none) (line_places v.script)
        (λ b is. never (agent_steps w call b) (note, of_call, record { before = agent; agent = b; open_call = there; steps = is; after_is = refl }))

    -- ---- a beginning

    unreleased : (new : ℕ) → Never new (to_call.Begin (record { 0 = call })) → HasEnded v.script w agent → w.agent new ≡ None
        → w.gateway.retired new ≡ false → MayBegin w.gateway call → ⊥
    unreleased new never ended unused not_retired may = never (world_begun v.script w new call agent) (record {
      before = agent;
      open_call = there;
      ended = ended;
      may = may;
      unused = unused;
      not_retired = not_retired;
      after_is = refl;
    })

  -- ---- the cause of each event

  line_cause : (a : Next) (agent : Agent) (call : ℕ) (line : LineNo) (event : LineEvent) → Never call (to_call.OnLine line event) → (why : Idle)
      → IsFoundOnLine v call line why → IsCause v w agent a call (to_call.OnLine line event) why
  line_cause a agent call line event never (NotOfCall told) is = (is.0, is.1, held_by call line is.2.0 is.2.1 is.1)
  line_cause a agent call line event never (NotOnLine told) is =
      (is.0, is.1, is.2 w shown, ruled_out call line event never is.1 (is.2 w shown))
  line_cause a agent call line event never (NumbersEnd Notes) is = (is, notes_end call line event never)
  line_cause a agent call line event never why is = absurd is

  module _ (a : Next) (call : ℕ) (agent : Agent) (there : w.agent call ≡ Some agent) (state : ℕ) (same : state ≡ agent.state) where
    reply_cause : (number : ℕ) → Never call (to_call.Reply number) → (why : Idle) → IsFoundAtAnswer v.script a state (Some number) why
        → IsCause v w agent a call (to_call.Reply number) why
    reply_cause number never (NotAwaited expected told) is = (tt, is.0, is.1, λ equal. is.2 (equal ∙ is.0))
    reply_cause number never (NumbersEnd Requests) is = (
      is.0,
      reply_ends call agent there number never (λ none. is.1 (ap (λ n. (state_of v.script n).fault) same ∙ none)),
    )
    reply_cause number never why is = absurd is

    pass_cause : Never call to_call.Pass → (why : Idle) → IsFoundAtAnswer v.script a state None why → IsCause v w agent a call to_call.Pass why
    pass_cause never (NotAwaited expected told) is = (tt, is.0, is.1, λ equal. is.2 (equal ∙ is.0))
    pass_cause never (NumbersEnd Requests) is = (is.0, pass_ends call agent there never)
    pass_cause never why is = absurd is

    module _ (rest : is_resting agent.phase ≡ true) (goes_on : (state_of v.script agent.state).is_end ≡ false) where
      note_cause : (number : ℕ) → Never call (to_call.Note number) → (why : Idle) → IsFoundAtNote v call number why
          → IsCause v w agent a call (to_call.Note number) why
      note_cause number never (NotNew told) is =
          subst (λ n. IsCause v w agent a call (to_call.Note number) (NotNew n)) (sym is.0) (refl, is.1)
      note_cause number never (OtherAssociation told) is =
          subst (λ n. IsCause v w agent a call (to_call.Note number) (OtherAssociation n)) (sym is.0) (
            refl,
            (is.1, is.2, λ note of_call own. left_to_call call agent there is.2 (note_ends call agent there number never rest goes_on is.1 note of_call own)),
          )
      note_cause number never (NumbersEnd Requests) is = (is.0, is.1, note_ends call agent there number never rest goes_on is.0)
      note_cause number never why is = absurd is

      timer_cause : Never call to_call.Timer → (why : Idle) → IsFoundAtTimer v.script state why → IsCause v w agent a call to_call.Timer why
      timer_cause never NoTimer is = (tt, ap (λ n. (state_of v.script n).timer) (sym same) ∙ is)
      timer_cause never (NumbersEnd Requests) is =
          let some : (state_of v.script agent.state).timer ≡ None → ⊥ = λ none. is (ap (λ n. (state_of v.script n).timer) same ∙ none) in
          (some, timer_ends call agent there never rest some)
      timer_cause never why is = absurd is

  gateways : w.gateway.association ≡ v.gateway.association
  unfolding gateway_of
  gateways = ap (λ (g : Gateway). g.association) shown.shows.gateway

  module _ (a : Next) (call : ℕ) (agent : Agent) (there : w.agent call ≡ Some agent) where
    hearing_cause : (association : Assoc) → Never call (to_call.Hear association) → (why : Idle)
        → IsFoundAtHearing agent.association w.gateway.association association why → IsCause v w agent a call (to_call.Hear association) why
    hearing_cause association never NothingToHear is = is
    hearing_cause association never (NotBegun told) is = is
    hearing_cause association never (NumbersEnd Requests) is = (is.0, is.1, hearing_ends call agent there association never is.0 is.1)
    hearing_cause association never why is = absurd is

    beginning_cause : (new : ℕ) → Never new (to_call.Begin (record { 0 = call })) → is_resting agent.phase ≡ true
        → (state_of v.script agent.state).is_end ≡ true → (why : Idle) → IsFoundAtBeginning agent.association w.gateway.association why
        → IsCause v w agent a new (to_call.Begin (record { 0 = call })) why
    beginning_cause new never rest ends (Lost own current) is = (tt, is.0, is.1, is.2)
    beginning_cause new never rest ends NotReleased is =
        let ended : HasEnded v.script w agent = record { is_end = ends; at_rest = is_resting_is agent.phase rest; current = is } in
        (ended, unreleased call agent there new never ended)
    beginning_cause new never rest ends why is = absurd is

  module _ (a : Next) (s : Standing) (agent : Agent) (kind : kind_in v.script agent ≡ variant_of a) (state : s.state ≡ agent.state)
      (association : s.association.0 ≡ agent.association) where
    at_rest : has_step to_call.Timer (variant_of a) ≡ true → (is_resting agent.phase ≡ true) × ((state_of v.script agent.state).is_end ≡ false)
    at_rest step = rests_in_kind (is_resting agent.phase) (state_of v.script agent.state).is_end (kind ∙ for_rests (variant_of a) step)

    at_end : (call : ℕ) → has_step (to_call.Begin (record { 0 = call })) (variant_of a) ≡ true
        → (is_resting agent.phase ≡ true) × ((state_of v.script agent.state).is_end ≡ true)
    at_end call step = ended_in_kind (is_resting agent.phase) (state_of v.script agent.state).is_end (kind ∙ for_ended (variant_of a) call step)

    found_cause : (call : ℕ) (happens : CallEvent) → w.agent (record_call call happens) ≡ Some agent → Never call happens → HasNoRoomFor v call happens
        → has_step happens (variant_of a) ≡ true → (why : Idle) → IsFound v a s call happens why → IsCause v w agent a call happens why
    found_cause call (to_call.OnLine line event) there never room step why is = line_cause a agent call line event never why is
    found_cause call (to_call.Execute number chosen) there never room step why is =
        subst (λ (x : Idle). IsCause v w agent a call (to_call.Execute number chosen) x) (sym is)
        (λ request sent_so. (is_fresh call number chosen never request sent_so, room w shown request sent_so))
    found_cause call (to_call.Reply number) there never room step why is = reply_cause a call agent there s.state state number never why is
    found_cause call to_call.Pass there never room step why is = pass_cause a call agent there s.state state never why is
    found_cause call (to_call.Note number) there never room step why is =
        let rest = at_rest step in note_cause a call agent there s.state state rest.0 rest.1 number never why is
    found_cause call to_call.Timer there never room step why is =
        let rest = at_rest step in timer_cause a call agent there s.state state rest.0 rest.1 never why is
    found_cause call (to_call.Hear heard_of) there never room step why is =
        hearing_cause a call agent there heard_of never why
        (subst (λ n. IsFoundAtHearing n w.gateway.association heard_of why) association
        (subst (λ n. IsFoundAtHearing s.association.0 n heard_of why) (sym gateways) is))
    found_cause call (to_call.Begin old) there never room step why is =
        let ended = at_end old.0 step in
        beginning_cause a old.0 agent there call never ended.0 ended.1 why
        (subst (λ n. IsFoundAtBeginning n w.gateway.association why) association
        (subst (λ n. IsFoundAtBeginning s.association.0 n why) (sym gateways) is))

  as_reason : (agent : Agent) (a : Next) (call : ℕ) (happens : CallEvent) → has_step happens (variant_of a) ≡ true → (why : Idle)
      → IsCause v w agent a call happens why → IsReason v w agent a call happens why
  as_reason agent a call happens step Waits is = absurd is
  as_reason agent a call happens step Rests is = absurd is
  as_reason agent a call happens step EndedCall is = absurd is
  as_reason agent a call happens step why is = (step, is)

  kind_reason : (agent : Agent) (a : Next) (call : ℕ) (happens : CallEvent) (why : Idle) (kind : Kind) → variant_of a ≡ kind
      → has_step happens kind ≡ false → IsKind kind why → IsReason v w agent a call happens why
  kind_reason agent a call happens why waits of_kind none is = subst (λ (x : Idle). IsReason v w agent a call happens x) (sym is) (of_kind, none)
  kind_reason agent a call happens why rests of_kind none is = subst (λ (x : Idle). IsReason v w agent a call happens x) (sym is) (of_kind, none)
  kind_reason agent a call happens why has_ended of_kind none is = subst (λ (x : Idle). IsReason v w agent a call happens x) (sym is) (of_kind, none)

  -- ---- where the call is

  module _ (a : Next) (s : Standing) (call : ℕ) (at : IsStandingAlike v call a s) where
    abbrev here : StandsAs w call s
    here = at.told w shown

    kind_is : kind_in v.script here.agent ≡ variant_of a
    kind_is =
        ap (λ (rest : Bool). if rest then (if (state_of v.script here.agent.state).is_end then has_ended else rests) else waits) (sym here.at_rest)
        ∙ ap (λ n. kind_at v.script n s.is_resting) (sym here.state) ∙ at.alike.kind

    stands : StandsThere v.script w call a here.agent
    stands = record {
      open_call = here.open_call;
      kind = kind_is;
      state = sym here.state ∙ at.alike.state;
      association = sym here.association ∙ at.alike.association;
    }

-- ---- in each world

module _ (v : ShardValue) (was : IsShard v) (a : Next) (s : Standing) (call : ℕ) (happens : CallEvent)
    (never : NeverOccurs v (OfCall (record { 0 = call }) happens)) (at : IsStandingAlike v (record_call call happens) a s) where
  -- a call of its kind has no such step
  pub kind_found : has_step happens (variant_of a) ≡ false → (why : Idle) → IsKind (variant_of a) why → IsRefusedFor v a call happens why
  kind_found none why is = record {
    never = never;
    because = λ w shown. record {
      agent = (at.told w shown).agent;
      stands = stands v was w shown a s (record_call call happens) at;
      reason = kind_reason v was w shown (at.told w shown).agent a call happens why (variant_of a) refl none is;
    };
  }

  found : HasNoRoomFor v call happens → has_step happens (variant_of a) ≡ true → (why : Idle) → IsFound v a s call happens why
      → IsRefusedFor v a call happens why
  found room step why is = record {
    never = never;
    because = λ w shown.
        let here = at.told w shown in
        record {
          agent = here.agent;
          stands = stands v was w shown a s (record_call call happens) at;
          reason = as_reason v was w shown here.agent a call happens step why
              (found_cause v was w shown a s here.agent (kind_is v was w shown a s (record_call call happens) at) here.state here.association call happens
              here.open_call (never w shown) room step why is);
        };
  }

  -- what was found, if anything was
  pub all_found : HasNoRoomFor v call happens → has_step happens (variant_of a) ≡ true → (found_of : Option Idle)
      → IfSome found_of (λ why. IsFound v a s call happens why) → IfSome found_of (λ why. IsRefusedFor v a call happens why)
  all_found room step None is = tt
  all_found room step (Some why) is = found room step why is

-- an event that was asked about, and can't happen
pub never_so : (v : ShardValue) (call : ℕ) (event : CallEvent) (told : Option Bool) (can : Bool) → TellsOccurrence v call event told → told ≡ Some can
    → can ≡ false → NeverOccurs v (OfCall (record { 0 = call }) event) × HasNoRoomFor v call event
never_so v call event told can tells is not_so = subst (IsOccurrence v call event) not_so (subst (TellsOccurrence v call event) is tells)
