-- Each deed leads to the same world or is one event, and keeps that the calls are of the script and are those that the gateway has open. So all
-- deeds make a run.
use Rattle.std.proofs.Common.{◌≡◌, ◌∙◌, ℕ, zero, suc, Bool, true, false, List, [], ◌∷◌, ◌++◌, Option, Some, None, Result, Ok, Err, ◌⊎◌, inl, inr, true≢false, refl, sym, subst, ap}
use Rattle.std.specs.Prelude.{◌==◌, ◌||◌, ◌&&◌, not, if◌then◌else◌, Contains, is_some, option_map}
use Rattle.std.proofs.lemmas.Bool.{eqb-true}
use Rattle.std.proofs.lemmas.Option.{same_Some}
use Rattle.mg_names.specs.declared.identifiers.Assoc.{Assoc}
use Rattle.mg_model.specs.declared.events.CallEvent.{CallEvent}
use Rattle.mg_model.specs.declared.events.CallEvent.TheVariants as to_call
use Rattle.mg_model.specs.declared.events.Event.{Event}
use Rattle.mg_model.specs.declared.events.Event.TheVariants.{OfCall, Restart}
use Rattle.mg_model.specs.declared.failures.ChosenRefusal.{ChosenRefusal}
use Rattle.mg_model.specs.declared.line_events.LineEvent.{LineEvent}
use Rattle.mg_model.specs.Agent.{Agent, replied, passed, noted, timed, heard, begun}
use Rattle.mg_model.specs.Gateway.{Gateway}
use Rattle.mg_model.specs.Messages.{Request, Reply, SentNote}
use Rattle.mg_model.specs.Script.{Script}
use Rattle.mg_model.specs.Tables.{line_places}
use Rattle.mg_model.specs.World.{World, AgentSteps, HasEnded, Occurs, Runs, execute, on_a_line, begin}
use Rattle.gateway.specs.declared.answer.Answer.{Answer}
use Rattle.gateway.specs.declared.answer.Answer.TheVariants as answer
use Rattle.gateway.specs.declared.fault.CannotHappen as fault
use Rattle.gateway.specs.Answers.{IsAnswered, IsHappened, IsRestarted}
use Rattle.gateway.specs.Calls.{call_entry}
use Rattle.gateway.specs.GatewayValue.{GatewayValue, gateway_of, is_open, is_taken}
use Rattle.gateway.proofs.Entries.{no_entry}
use Rattle.agent.specs.AgentValue.{agent_of}
use Rattle.agent.specs.CallValue.{CallValue}
use Rattle.systems.specs.Systems.{System, AreOf, AreOpen, Begins, ChangesCall, Does, Makes, Steps, Takes, agent_in, agents_of, answers, begins, happens, logs, makes_room, note_told, notes_told, replies_told, restarts, steps, with_call, world_of}

-- ---- worlds by their parts

abbrev world_with : Gateway → (ℕ → Option Agent) → List Request → List Reply → List SentNote → World
world_with g a r p n = record { gateway = g; agent = a; requests = r; replies = p; notes = n }

same_world : (w v : World) → w.gateway ≡ v.gateway → w.agent ≡ v.agent → w.requests ≡ v.requests → w.replies ≡ v.replies → w.notes ≡ v.notes
    → w ≡ v
same_world w v gateway agent requests replies notes =
    ap (λ (g : Gateway). world_with g w.agent w.requests w.replies w.notes) gateway
    ∙ ap (λ (a : ℕ → Option Agent). world_with v.gateway a w.requests w.replies w.notes) agent
    ∙ ap (λ (r : List Request). world_with v.gateway v.agent r w.replies w.notes) requests
    ∙ ap (λ (p : List Reply). world_with v.gateway v.agent v.requests p w.notes) replies
    ∙ ap (λ (n : List SentNote). world_with v.gateway v.agent v.requests v.replies n) notes

same_functions : {f g : ℕ → Option Agent} → ((n : ℕ) → f n ≡ g n) → f ≡ g
same_functions h = λ i n. h n i

picked : (one : Bool) (x y : Option CallValue) → option_map agent_in (if one then x else y) ≡ (if one then option_map agent_in x else option_map agent_in y)
picked true x y = refl
picked false x y = refl

agents_with : (call : ℕ → Option CallValue) (number : ℕ) (new : CallValue)
    → agents_of (with_call call number new) ≡ (λ n. if n == number then Some (agent_in new) else agents_of call n)
agents_with call number new = same_functions (λ n. picked (n == number) (Some new) (call n))

-- a call whose agent stays
module _ (call : ℕ → Option CallValue) (number : ℕ) (old new : CallValue) (open_call : call number ≡ Some old) where
  stay_at : new.agent ≡ old.agent → (n : ℕ) (same : Bool) → (n == number) ≡ same
      → option_map agent_in (if same then Some new else call n) ≡ option_map agent_in (call n)
  stay_at agent n true is =
      ap (λ a. Some (agent_of a)) agent ∙ sym (ap (option_map agent_in) (ap call (eqb-true n number is) ∙ open_call))
  stay_at agent n false is = refl

  agents_stay : new.agent ≡ old.agent → agents_of (with_call call number new) ≡ agents_of call
  agents_stay agent = same_functions (λ n. stay_at agent n (n == number) refl)

  open_at : (n : ℕ) (same : Bool) → (n == number) ≡ same → is_some (if same then Some new else call n) ≡ is_some (call n)
  open_at n true is = sym (ap is_some (ap call (eqb-true n number is) ∙ open_call))
  open_at n false is = refl

-- ---- each deed is one event, or none

abbrev Leads : Script → System → System → Type 0
Leads script s t = (world_of t ≡ world_of s) ⊎ ((event : Event) × Occurs script (world_of s) event (world_of t))

module _ (script : Script) (s t : System) where
  answered : (call : ℕ) (request : Request) (refusal : Option ChosenRefusal) (told : Answer) → Contains s.requests request
      → IsAnswered s.gateway call request refusal t.gateway told → t.call ≡ s.call → t.requests ≡ s.requests
      → t.replies ≡ replies_told told ++ s.replies → t.notes ≡ notes_told told ++ s.notes → Leads script s t
  answered call request refusal (answer.Executed reply notes) sent is calls requests replies told =
      inr (
        execute request.call request.number refusal,
        (
          request,
          (sent, refl, refl),
          inl (record {
            gateway = gateway_of t.gateway;
            answer = reply;
            sent = notes.items;
            executed = is.1.0;
            after_is = same_world _ _ refl (ap agents_of calls) requests replies told;
          }),
        ),
      )
  answered call request refusal (answer.Kept reply) sent is calls requests replies told =
      inr (
        execute request.call request.number refusal,
        (
          request,
          (sent, refl, refl),
          inr (inl (record {
            answer = reply;
            kept = is.1.0;
            after_is = same_world _ _ (ap gateway_of is.1.1) (ap agents_of calls) requests replies told;
          })),
        ),
      )
  answered call request refusal answer.Discarded sent is calls requests replies told =
      inl (same_world _ _ (ap gateway_of is.1) (ap agents_of calls) requests replies told)
  answered call request refusal answer.CannotHappen sent is calls requests replies told =
      inl (same_world _ _ (ap gateway_of is.1.1) (ap agents_of calls) requests replies told)
  answered call request refusal answer.NoMemory sent is calls requests replies told =
      inl (same_world _ _ is.0 (ap agents_of calls) requests replies told)

  happened : (line : ℕ) (event : LineEvent) (told : Result (Option SentNote) fault.CannotHappen) → IsHappened s.gateway line event t.gateway told
      → t.call ≡ s.call → t.requests ≡ s.requests → t.replies ≡ s.replies → t.notes ≡ note_told told ++ s.notes → Leads script s t
  happened line event (Ok note) is calls requests replies notes =
      inr (
        on_a_line is.0.call line event,
        (
          is.0.held,
          record {
            gateway = gateway_of t.gateway;
            sent = note_told (Ok note);
            happens = is.0;
            after_is = same_world _ _ refl (ap agents_of calls) requests replies notes;
          },
        ),
      )
  happened line event (Err why) is calls requests replies notes =
      inl (same_world _ _ is.1.0 (ap agents_of calls) requests replies notes)

  restarted : (told : Result Assoc fault.CannotHappen) → IsRestarted s.gateway t.gateway told
      → t.call ≡ s.call → t.requests ≡ s.requests → t.replies ≡ s.replies → t.notes ≡ s.notes → Leads script s t
  unfolding gateway_of
  restarted (Ok association) is calls requests replies notes =
      inr (Restart, (is.room, same_world _ _ is.restarts (ap agents_of calls) requests replies notes))
  restarted (Err why) is calls requests replies notes =
      inl (same_world _ _ (ap gateway_of is.1) (ap agents_of calls) requests replies notes)

  stepped : (d : Steps s t) (step : Agent → Option Agent) → d.taken ≡ step (agent_in d.old)
      → AgentSteps (world_of s) d.number step (world_of t)
  stepped d step is = record {
    before = agent_in d.old;
    agent = agent_in d.new;
    open_call = ap (option_map agent_in) d.open_call;
    steps = sym is ∙ d.done.0;
    after_is = same_world _ _ (ap gateway_of d.gateway) (ap agents_of d.calls ∙ agents_with s.call d.number d.new) d.requests d.replies d.notes;
  }

  taken : (d : Steps s t) (happens : CallEvent) → Takes script s d.number (agent_in d.old) happens d.taken
      → Occurs script (world_of s) (OfCall (record { 0 = d.number }) happens) (world_of t)
  taken d (to_call.Reply number) takes =
      (takes.0, (takes.1, takes.2, takes.3), stepped d (λ a. replied script a takes.0) takes.4)
  taken d to_call.Pass takes = stepped d (passed script) takes
  taken d (to_call.Note number) takes =
      (takes.0, (takes.1, takes.2, takes.3), stepped d (λ a. noted script a (line_places script) takes.0) takes.4)
  taken d to_call.Timer takes = stepped d (timed script) takes
  taken d (to_call.Hear association) takes = (takes.0, stepped d (λ a. heard script a association.0) takes.1)
  taken d (to_call.OnLine line event) takes = absurd takes
  taken d (to_call.Execute number chosen) takes = absurd takes
  taken d (to_call.Begin old) takes = absurd takes

-- ---- a call begins

no_call : (call : Option CallValue) → is_some call ≡ false → option_map agent_in call ≡ None
no_call None none = refl
no_call (Some call) none = absurd (true≢false none)

pub not_open : (g : GatewayValue) (n : ℕ) → is_taken g n ≡ false → is_open g n ≡ false
unfolding is_taken is_open
not_open g n free = (no_entry (call_entry g.calls n) free).0

not_retired : (g : GatewayValue) (n : ℕ) → is_taken g n ≡ false → (gateway_of g).retired n ≡ false
unfolding is_taken gateway_of
not_retired g n free = (no_entry (call_entry g.calls n) free).1

agents_begun : (call : ℕ → Option CallValue) (old new : ℕ) (after : CallValue) (a : Agent) → agent_in after ≡ a → (n : ℕ)
    → option_map agent_in (if n == new then Some after else if n == old then None else call n)
    ≡ (if n == new then Some a else if n == old then None else option_map agent_in (call n))
agents_begun call old new after a is n = at (n == new) (n == old)
  where
    at : (one other : Bool) → option_map agent_in (if one then Some after else if other then None else call n)
        ≡ (if one then Some a else if other then None else option_map agent_in (call n))
    at true other = ap (λ (b : Agent). Some b) is
    at false true = refl
    at false false = refl

module _ (script : Script) (s t : System) where
  stays_lead : (number : ℕ) (old new : CallValue) → new.agent ≡ old.agent → ChangesCall number old new s t → Leads script s t
  stays_lead number old new same d =
      inl (same_world _ _ (ap gateway_of d.gateway) (ap agents_of d.calls ∙ agents_stay s.call number old new d.open_call same)
      d.requests d.replies d.notes)

  steps_lead : AreOf script s → Steps s t → Leads script s t
  steps_lead of_script d =
      let takes = subst (λ (own : Script). Takes own s d.number (agent_in d.old) d.happens d.taken) (of_script d.number d.old d.open_call) d.takes in
      inr (OfCall (record { 0 = d.number }) d.happens, taken script s t d d.happens takes)

  begins_lead : AreOf script s → AreOpen s → Begins s t → Leads script s t
  begins_lead of_script open_calls d =
      let own = of_script d.old d.before d.open_call in
      let agent = d.call_begun.agent ∙ ap (λ (own : Script). begun own d.new (agent_in d.before)) own in
      inr (
        begin d.new d.old,
        record {
          before = agent_in d.before;
          open_call = ap (option_map agent_in) d.open_call;
          ended = subst (λ (own : Script). HasEnded own (world_of s) (agent_in d.before)) own d.ended;
          may = d.begun.2;
          unused = no_call (s.call d.new) (open_calls d.new ∙ not_open s.gateway d.new d.begun.1);
          not_retired = not_retired s.gateway d.new d.begun.1;
          after_is = same_world _ _ d.begun.3
              (ap agents_of d.calls ∙ same_functions (agents_begun s.call d.old d.new d.after (begun script d.new (agent_in d.before)) agent))
              d.requests d.replies d.notes;
        },
      )

  leads : AreOf script s → AreOpen s → Does s t → Leads script s t
  leads of_script open_calls (answers d) =
      answered script s t d.call d.request d.refusal d.answer d.sent d.answered d.calls d.requests d.replies d.notes
  leads of_script open_calls (happens d) = happened script s t d.line d.event d.answer d.happened d.calls d.requests d.replies d.notes
  leads of_script open_calls (restarts d) =
      restarted script s t d.answer d.restarted d.others.calls d.others.requests d.others.replies d.others.notes
  leads of_script open_calls (steps d) = steps_lead of_script d
  leads of_script open_calls (logs d) = stays_lead d.number d.old d.new d.logged.agent d.others
  leads of_script open_calls (makes_room d) = stays_lead d.number d.old _ refl d.others
  leads of_script open_calls (begins d) = begins_lead of_script open_calls d

-- ---- the calls are those that the gateway has open

module _ (s t : System) (open_calls : AreOpen s) where
  both_stay : t.call ≡ s.call → ((n : ℕ) → is_open t.gateway n ≡ is_open s.gateway n) → AreOpen t
  both_stay calls same n = ap (λ (call : ℕ → Option CallValue). is_some (call n)) calls ∙ open_calls n ∙ sym (same n)

  same_gateway : t.gateway ≡ s.gateway → (n : ℕ) → is_open t.gateway n ≡ is_open s.gateway n
  same_gateway is n = ap (λ (g : GatewayValue). is_open g n) is

  open_answered : (call : ℕ) (request : Request) (refusal : Option ChosenRefusal) (told : Answer)
      → IsAnswered s.gateway call request refusal t.gateway told → (n : ℕ) → is_open t.gateway n ≡ is_open s.gateway n
  open_answered call request refusal (answer.Executed reply notes) is = is.1.1
  open_answered call request refusal (answer.Kept reply) is = same_gateway is.1.1
  open_answered call request refusal answer.Discarded is = same_gateway is.1
  open_answered call request refusal answer.CannotHappen is = same_gateway is.1.1
  open_answered call request refusal answer.NoMemory is = is.1

  open_happened : (line : ℕ) (event : LineEvent) (told : Result (Option SentNote) fault.CannotHappen)
      → IsHappened s.gateway line event t.gateway told → (n : ℕ) → is_open t.gateway n ≡ is_open s.gateway n
  open_happened line event (Ok note) is = is.1
  open_happened line event (Err why) is = is.1.1

  open_restarted : (told : Result Assoc fault.CannotHappen) → IsRestarted s.gateway t.gateway told
      → (n : ℕ) → is_open t.gateway n ≡ is_open s.gateway n
  open_restarted (Ok association) is = is.open_calls
  open_restarted (Err why) is = same_gateway is.1

  open_with : (number : ℕ) (old new : CallValue) → s.call number ≡ Some old → t.gateway ≡ s.gateway → t.call ≡ with_call s.call number new
      → AreOpen t
  open_with number old new open_call gateway calls n =
      ap (λ (call : ℕ → Option CallValue). is_some (call n)) calls
      ∙ open_at s.call number old new open_call n (n == number) refl
      ∙ open_calls n
      ∙ sym (same_gateway gateway n)

  open_begun : Begins s t → AreOpen t
  open_begun d n =
      ap (λ (call : ℕ → Option CallValue). is_some (call n)) d.calls
      ∙ at (n == d.new) (n == d.old)
      ∙ ap (λ (is : Bool). (n == d.new) || (not (n == d.old) && is)) (open_calls n)
      ∙ sym (d.begun.4 n)
    where
      at : (one other : Bool) → is_some (if one then Some d.after else if other then None else s.call n)
          ≡ (one || (not other && is_some (s.call n)))
      at true other = refl
      at false true = refl
      at false false = refl

  still_open : Does s t → AreOpen t
  still_open (answers d) = both_stay d.calls (open_answered d.call d.request d.refusal d.answer d.answered)
  still_open (happens d) = both_stay d.calls (open_happened d.line d.event d.answer d.happened)
  still_open (restarts d) = both_stay d.others.calls (open_restarted d.answer d.restarted)
  still_open (steps d) = open_with d.number d.old d.new d.open_call d.gateway d.calls
  still_open (logs d) = open_with d.number d.old d.new d.others.open_call d.others.gateway d.others.calls
  still_open (makes_room d) = open_with d.number d.old _ d.others.open_call d.others.gateway d.others.calls
  still_open (begins d) = open_begun d

-- ---- each call is of the script

module _ (script : Script) (s t : System) (of_script : AreOf script s) where
  of_same : t.call ≡ s.call → AreOf script t
  of_same calls n call is = of_script n call (ap (λ (calls : ℕ → Option CallValue). calls n) (sym calls) ∙ is)

  of_with : (number : ℕ) (old new : CallValue) → s.call number ≡ Some old → new.script ≡ old.script → t.call ≡ with_call s.call number new
      → AreOf script t
  of_with number old new open_call same calls n call is = at (n == number) (ap (λ (calls : ℕ → Option CallValue). calls n) (sym calls) ∙ is)
    where
      at : (one : Bool) → (if one then Some new else s.call n) ≡ Some call → call.script ≡ script
      at true is = ap (λ (c : CallValue). c.script) (same_Some call new (sym is)) ∙ same ∙ of_script number old open_call
      at false is = of_script n call is

  of_begun : Begins s t → AreOf script t
  of_begun d n call is = at (n == d.new) (n == d.old) (ap (λ (calls : ℕ → Option CallValue). calls n) (sym d.calls) ∙ is)
    where
      at : (one other : Bool) → (if one then Some d.after else if other then None else s.call n) ≡ Some call → call.script ≡ script
      at true other is =
          ap (λ (c : CallValue). c.script) (same_Some call d.after (sym is)) ∙ d.call_begun.script ∙ of_script d.old d.before d.open_call
      at false true is = absurd (true≢false (sym (ap is_some is)))
      at false false is = of_script n call is

  still_of : Does s t → AreOf script t
  still_of (answers d) = of_same d.calls
  still_of (happens d) = of_same d.calls
  still_of (restarts d) = of_same d.others.calls
  still_of (steps d) = of_with d.number d.old d.new d.open_call d.done.1.script d.calls
  still_of (logs d) = of_with d.number d.old d.new d.others.open_call d.logged.longer.script d.others.calls
  still_of (makes_room d) = of_with d.number d.old _ d.others.open_call refl d.others.calls
  still_of (begins d) = of_begun d

-- ---- all deeds

pub runs_from : (script : Script) (n : ℕ) (s t : System) → AreOf script s → AreOpen s → Makes n s t
    → (events : List Event) × Runs script events (world_of s) (world_of t)
unfolding Runs
runs_from script zero s t of_script open_calls made = ([], ap world_of made)
runs_from script (suc n) s t of_script open_calls made =
    let next = made.0 in
    let rest = runs_from script n next t (still_of script s next of_script made.1.0) (still_open s next open_calls made.1.0) made.1.1 in
    elim (leads script s next of_script open_calls made.1.0) [
      | inl same ↦ (rest.0, subst (λ (w : World). Runs script rest.0 w (world_of t)) same rest.1)
      | inr step ↦ (step.0 ∷ rest.0, (world_of next, (step.1, rest.1)))
    ]
