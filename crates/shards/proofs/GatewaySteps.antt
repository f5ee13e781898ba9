-- A step of a shard at its gateway, by what the records, the gateway and the call that is handed in come to.
use Rattle.std.proofs.Common.{◌≡◌, ◌∙◌, ◌+◌, ◌++◌, ◌==◌, inl, inr, ℕ, true, false, true≢false, List, [], ◌∷◌, Option, Some, None, Ok, Err, if◌then◌else◌, refl, sym, ap, subst}
use Rattle.std.proofs.lemmas.Bool.{eq-eqb}
use Rattle.mg_model.specs.declared.events.CallEvent.{CallEvent}
use Rattle.mg_model.specs.declared.events.CallEvent.TheVariants as to_call
use Rattle.mg_model.specs.declared.events.Event.{Event}
use Rattle.mg_model.specs.declared.events.Event.TheVariants.{OfCall}
use Rattle.mg_model.specs.declared.failures.ChosenRefusal.{ChosenRefusal}
use Rattle.mg_model.specs.Gateway.{Gateway}
use Rattle.mg_model.specs.Messages.{Request}
use Rattle.mg_model.specs.World.{World, Occurs}
use Rattle.mg_safety.proofs.Messages.NumberedWorlds.{IsNumbered}
use Rattle.gateway.specs.declared.answer.Answer.{Answer}
use Rattle.gateway.specs.declared.answer.Answer.TheVariants as answer
use Rattle.gateway.specs.Answers.{IsAnswered, IsSame}
use Rattle.gateway.specs.GatewayValue.{GatewayValue, gateway_of, is_open}
use Rattle.agent.specs.AgentValue.{AgentValue, agent_of}
use Rattle.agent.specs.CallValue.{CallValue}
use Rattle.agent.specs.Calls.{IsNext, IsWithEvent, is_of_gateway, value_of, variant_of, with_room}
use Rattle.agent.specs.declared.call.Next.{Next}
use Rattle.agent.specs.declared.refusal.Refusal.{Refusal}
use Rattle.agent.specs.declared.refusal.Refusal.TheVariants.{NotEnabled, Behind, NoMemory}
use Rattle.shards.proofs.Refusals.{cannot_execute, cannot_happen}
use Rattle.shards.proofs.ShardLemmas.{shard_after, world_numbered}
use Rattle.shards.proofs.ShardSteps.{AreSameRecords, KeepsCalls, none_same, one_same, refused_counts, shard_unchanged, step_counts, step_happened, step_refused}
use Rattle.shards.proofs.ShownExecutes.{execute_shown}
use Rattle.shards.proofs.ShownLines.{line_shown}
use Rattle.shards.proofs.TakenSteps.{stands}
use Rattle.shards.specs.Shards.{CountsEvents, HasHappened, IsShard, IsUnchanged, ShardValue}
use Rattle.shards.specs.Shows.{LeadsOn, Shows, with_record}
use Rattle.shards.specs.CallTable.{OthersStay, record_in}
use Rattle.shards.specs.CallRecords.{IsExecuted, IsHappenedOn, is_event}
use Rattle.shards.specs.Stepping.{AtGateway, HasStepped, IsRefusedStep, IsSameNext, ValueGoes, call_in, is_beginning}
use Rattle.shards.specs.declared.call_record.CallRecord.{CallRecord}

-- ---- the calls of a gateway stay

answer_keeps : (g h : GatewayValue) (call : ℕ) (request : Request) (refusal : Option ChosenRefusal) (told : Answer) → is_event told ≡ true
    → IsAnswered g call request refusal h told → KeepsCalls g h
answer_keeps g h call request refusal (answer.Executed reply notes) happens is =
    record { open_calls = is.1.1; retired = λ c. ap (λ (x : Gateway). x.retired c) is.1.0.after_is }
answer_keeps g h call request refusal (answer.Kept reply) happens is =
    record { open_calls = λ c. ap (λ (x : GatewayValue). is_open x c) is.1.1; retired = λ c. ap (λ (x : GatewayValue). (gateway_of x).retired c) is.1.1 }
answer_keeps g h call request refusal answer.Discarded happens is =
    record { open_calls = λ c. ap (λ (x : GatewayValue). is_open x c) is.1; retired = λ c. ap (λ (x : GatewayValue). (gateway_of x).retired c) is.1 }
answer_keeps g h call request refusal answer.CannotHappen happens is = absurd (true≢false (sym happens))
answer_keeps g h call request refusal answer.NoMemory happens is = absurd (true≢false (sym happens))

-- ---- an event at the gateway, in a record

-- the record goes on, and every world that is shown leads on
pub record GoesOnAt (g h : GatewayValue) (call : ℕ) (event : CallEvent) (s : CallRecord) (entry : Option CallRecord) : Type 0 where
  pub call_record : CallRecord
  pub put : entry ≡ Some call_record
  pub keeps : KeepsCalls g h
  pub events : call_record.events ≡ s.events + 1
  pub leads : (script : Rattle.mg_model.specs.Script.Script) (w : World) (call_table : ℕ → Option CallRecord) → Shows w g call_table → IsNumbered w → call_table call ≡ Some s
      → LeadsOn script w (OfCall (record { 0 = call }) event) h (with_record call_table call call_record)

goes_on_at : (g h : GatewayValue) (call : ℕ) (event : CallEvent) (s : CallRecord) (entry : Option CallRecord) → AtGateway g h call event (Some s) entry (Ok tt)
    → GoesOnAt g h call event s entry
goes_on_at g h call (to_call.OnLine line happens) s entry (t, put, x) = record {
  call_record = t;
  put = put;
  keeps = record { open_calls = x.open_calls; retired = λ c. ap (λ (y : Gateway). y.retired c) x.happens.after_is };
  events = x.counted.events;
  leads = λ script w call_table shows numbered there. line_shown script w g h call_table shows call line.0 happens s t there x;
}
goes_on_at g h call (to_call.Execute number chosen) s entry (t, put, x) = record {
  call_record = t;
  put = put;
  keeps = answer_keeps g h call x.request chosen x.told x.happens x.answered;
  events = x.counted.events;
  leads = λ script w call_table shows numbered there. execute_shown script w g h call_table shows numbered call number chosen s t there x;
}
goes_on_at g h call (to_call.Reply number) s entry is = absurd (let no = is.0 in cc)
goes_on_at g h call to_call.Pass s entry is = absurd (let no = is.0 in cc)
goes_on_at g h call (to_call.Note number) s entry is = absurd (let no = is.0 in cc)
goes_on_at g h call to_call.Timer s entry is = absurd (let no = is.0 in cc)
goes_on_at g h call (to_call.Hear association) s entry is = absurd (let no = is.0 in cc)
goes_on_at g h call (to_call.Begin old) s entry is = absurd (let no = is.0 in cc)

no_record_goes_on : (g h : GatewayValue) (call : ℕ) (event : CallEvent) (entry : Option CallRecord) → AtGateway g h call event None entry (Ok tt) → ⊥
no_record_goes_on g h call (to_call.OnLine line happens) entry is = let no = is.1 in cc
no_record_goes_on g h call (to_call.Execute number chosen) entry is = let no = is.1 in cc
no_record_goes_on g h call (to_call.Reply number) entry is = let no = is.0 in cc
no_record_goes_on g h call to_call.Pass entry is = let no = is.0 in cc
no_record_goes_on g h call (to_call.Note number) entry is = let no = is.0 in cc
no_record_goes_on g h call to_call.Timer entry is = let no = is.0 in cc
no_record_goes_on g h call (to_call.Hear association) entry is = let no = is.0 in cc
no_record_goes_on g h call (to_call.Begin old) entry is = let no = is.0 in cc

no_beginning : (call : ℕ) (event : CallEvent) → is_of_gateway event ≡ true → is_beginning (OfCall (record { 0 = call }) event) ≡ false
no_beginning call (to_call.OnLine line happens) is = refl
no_beginning call (to_call.Execute number chosen) is = refl
no_beginning call (to_call.Reply number) is = refl
no_beginning call to_call.Pass is = refl
no_beginning call (to_call.Note number) is = refl
no_beginning call to_call.Timer is = refl
no_beginning call (to_call.Hear association) is = refl
no_beginning call (to_call.Begin old) is = absurd (true≢false (sym is))

-- ---- the call that is handed in

-- it only writes the event down
logged_goes : (w : World) (next : Next) (call : ℕ) (event : CallEvent) (a : AgentValue) → is_of_gateway event ≡ true → call ≡ call_in next
    → a ≡ (value_of next).agent → ValueGoes w next (OfCall (record { 0 = call }) event) (agent_of a)
logged_goes w next call (to_call.OnLine line happens) a is own same = (refl, (own, ap agent_of same))
logged_goes w next call (to_call.Execute number chosen) a is own same = (refl, (own, ap agent_of same))
logged_goes w next call (to_call.Reply number) a is own same = absurd (true≢false (sym is))
logged_goes w next call to_call.Pass a is own same = absurd (true≢false (sym is))
logged_goes w next call (to_call.Note number) a is own same = absurd (true≢false (sym is))
logged_goes w next call to_call.Timer a is own same = absurd (true≢false (sym is))
logged_goes w next call (to_call.Hear association) a is own same = absurd (true≢false (sym is))
logged_goes w next call (to_call.Begin old) a is own same = absurd (true≢false (sym is))

module _ (old : ShardValue) (was : IsShard old) (call : ℕ) (next : Next) (own : call_in next ≡ call) (event : CallEvent) (of_gateway : is_of_gateway event ≡ true)
    (h : GatewayValue) (entries : List (ℕ × CallRecord)) (others : OthersStay old.call_table call entries) where
  abbrev named : Event
  named = OfCall (record { 0 = call }) event

  module _ (after : Next) (kind : IsNext after) (logged : IsWithEvent named (with_room (value_of next)) (value_of after)) (events : List Event)
      (history : events ≡ old.history ++ named ∷ []) where
    abbrev later : ShardValue
    later = record old { gateway = h; call_table = entries; history = events }

    taken : (s : CallRecord) → record_in old.call_table call ≡ Some s → GoesOnAt old.gateway h call event s (record_in entries call) → IsShard later × HasStepped old later next after named
    taken s there x =
        let happened : HasHappened old later named = step_happened old h entries events call event s x.call_record there x.put others history
        (λ w is. x.leads old.script w (record_in old.call_table) is.shows (world_numbered old w is) there) in
        let counts : CountsEvents later = step_counts old h entries events call event s x.call_record there x.put others history was.counts x.keeps
        (stands old was call s there) x.events in (
          shard_after old later named was happened counts,
          record {
            shard = happened;
            kind = kind;
            goes = λ w is. logged_goes w next call event (value_of after).agent of_gateway (sym own) logged.agent;
            longer = record { script = logged.longer.script; transcript = logged.longer.transcript };
            goes_on = no_beginning call event of_gateway;
          },
        )

    pub gateway_taken : AtGateway old.gateway h call event (record_in old.call_table call) (record_in entries call) (Ok tt)
        → IsShard later × HasStepped old later next after named
    gateway_taken steps = by_record (record_in old.call_table call) refl steps
      where
        by_record : (o : Option CallRecord) → record_in old.call_table call ≡ o → AtGateway old.gateway h call event o (record_in entries call) (Ok tt)
            → IsShard later × HasStepped old later next after named
        by_record None there is = absurd (no_record_goes_on old.gateway h call event (record_in entries call) is)
        by_record (Some s) there is = taken s there (goes_on_at old.gateway h call event s (record_in entries call) is)

  abbrev back : ShardValue
  back = record old { gateway = h; call_table = entries }

  module _ (after : Next) (same : IsSameNext next after) where
    abbrev IsBack : Refusal → Type 0
    IsBack why = IsShard back × (IsRefusedStep old next named why × (IsUnchanged old back × IsSameNext next after))

    handed_back : (why : Refusal) → IsRefusedStep old next named why → IsSame old.gateway h → AreSameRecords old.call_table entries → IsBack why
    handed_back why refused stays call_table =
        let unchanged : IsUnchanged old back = step_refused old h entries stays call_table in
        (shard_unchanged old back was unchanged (refused_counts old h entries stays call_table was.counts), (refused, (unchanged, same)))

    no_record : (why : Refusal) → record_in old.call_table call ≡ None → record_in entries call ≡ None → NotEnabled ≡ why → h ≡ old.gateway → IsBack why
    no_record why there here is stays =
        handed_back why (subst (λ (x : Refusal). IsRefusedStep old next named x) is (inr (ap (record_in old.call_table) own ∙ there)))
        (ap gateway_of stays, λ c. ap (λ (x : GatewayValue). is_open x c) stays) (none_same old.call_table entries call others there here)

    line_refused : (line : ℕ) (happens : _) (s t : CallRecord) → event ≡ to_call.OnLine (record { 0 = line }) happens → record_in old.call_table call ≡ Some s → record_in entries call ≡ Some t → (why : Refusal)
        → IsHappenedOn old.gateway h call line happens s t (Err why) → IsBack why
    line_refused line happens s t is there here NotEnabled x =
        handed_back NotEnabled (inl (λ w shown world a occurs goes. cannot_happen w old.gateway (record_in old.call_table) shown.shows (world_numbered old w shown) call s there
        old.script line happens world x.0 (subst (λ (e : CallEvent). Occurs old.script w (OfCall (record { 0 = call }) e) world) is occurs)))
        x.1 (one_same old.call_table entries call s t there here x.2 others)
    line_refused line happens s t is there here NoMemory x = handed_back NoMemory tt x.0 (one_same old.call_table entries call s t there here x.1 others)
    line_refused line happens s t is there here (Behind slot_count) x = absurd x

    execute_refused : (number : ℕ) (chosen : Option ChosenRefusal) (s t : CallRecord) → event ≡ to_call.Execute number chosen → record_in old.call_table call ≡ Some s → record_in entries call ≡ Some t
        → (why : Refusal) → IsExecuted old.gateway h call number chosen s t (Err why) → IsBack why
    execute_refused number chosen s t is there here NotEnabled x =
        handed_back NotEnabled (inl (λ w shown world a occurs goes. cannot_execute w old.gateway (record_in old.call_table) shown.shows (world_numbered old w shown) call s there
        old.script number chosen world x.0 (subst (λ (e : CallEvent). Occurs old.script w (OfCall (record { 0 = call }) e) world) is occurs)))
        x.1 (one_same old.call_table entries call s t there here x.2 others)
    execute_refused number chosen s t is there here NoMemory x = handed_back NoMemory tt x.0 (one_same old.call_table entries call s t there here x.1 others)
    execute_refused number chosen s t is there here (Behind slot_count) x = absurd x

    by_record : (e : CallEvent) → event ≡ e → (o : Option CallRecord) → record_in old.call_table call ≡ o → (why : Refusal)
        → AtGateway old.gateway h call e o (record_in entries call) (Err why) → IsBack why
    by_record (to_call.OnLine line happens) is None there why x = no_record why there x.0 (let told = x.1 in cc) x.2
    by_record (to_call.OnLine line happens) is (Some s) there why x = line_refused line.0 happens s x.0 is there x.1 why x.2
    by_record (to_call.Execute number chosen) is None there why x = no_record why there x.0 (let told = x.1 in cc) x.2
    by_record (to_call.Execute number chosen) is (Some s) there why x = execute_refused number chosen s x.0 is there x.1 why x.2
    by_record (to_call.Reply number) is o there why x = absurd (true≢false (sym of_gateway ∙ ap is_of_gateway is))
    by_record to_call.Pass is o there why x = absurd (true≢false (sym of_gateway ∙ ap is_of_gateway is))
    by_record (to_call.Note number) is o there why x = absurd (true≢false (sym of_gateway ∙ ap is_of_gateway is))
    by_record to_call.Timer is o there why x = absurd (true≢false (sym of_gateway ∙ ap is_of_gateway is))
    by_record (to_call.Hear association) is o there why x = absurd (true≢false (sym of_gateway ∙ ap is_of_gateway is))
    by_record (to_call.Begin other) is o there why x = absurd (true≢false (sym of_gateway ∙ ap is_of_gateway is))

    pub gateway_refused : (why : Refusal) → AtGateway old.gateway h call event (record_in old.call_table call) (record_in entries call) (Err why) → IsBack why
    gateway_refused why x = by_record event refl (record_in old.call_table call) refl why x

-- ---- the same with what is left of the old shard beside it

pub gateway_back : (old v : ShardValue) → old ≡ v → IsShard old → (call : ℕ) (next after : Next) → call_in next ≡ call → (event : CallEvent) → is_of_gateway event ≡ true
    → (h : GatewayValue) (entries : List (ℕ × CallRecord)) → OthersStay old.call_table call entries → IsSameNext next after
    → (events : List Event) → events ≡ old.history → (why : Refusal)
    → AtGateway old.gateway h call event (record_in old.call_table call) (record_in entries call) (Err why)
    → IsShard (record old { gateway = h; call_table = entries; history = events }) × (IsRefusedStep v next (OfCall (record { 0 = call }) event) why
    × (IsUnchanged v (record old { gateway = h; call_table = entries; history = events }) × IsSameNext next after))
gateway_back old v is was call next after own event of_gateway h entries others same_next events same why steps =
    subst (λ (x : ShardValue). IsShard (record old { gateway = h; call_table = entries; history = events }) × (IsRefusedStep x next (OfCall (record { 0 = call }) event) why
    × (IsUnchanged x (record old { gateway = h; call_table = entries; history = events }) × IsSameNext next after))) is
    (subst (λ (es : List Event). IsShard (record old { gateway = h; call_table = entries; history = es }) × (IsRefusedStep old next (OfCall (record { 0 = call }) event) why
    × (IsUnchanged old (record old { gateway = h; call_table = entries; history = es }) × IsSameNext next after))) (sym same)
    (gateway_refused old was call next own event of_gateway h entries others after same_next why steps))

pub gateway_forward : (old v : ShardValue) → old ≡ v → IsShard old → (call : ℕ) (next after : Next) → call_in next ≡ call → (event : CallEvent) → is_of_gateway event ≡ true
    → (h : GatewayValue) (entries : List (ℕ × CallRecord)) → OthersStay old.call_table call entries → IsNext after
    → IsWithEvent (OfCall (record { 0 = call }) event) (with_room (value_of next)) (value_of after)
    → (events : List Event) → events ≡ old.history ++ OfCall (record { 0 = call }) event ∷ []
    → AtGateway old.gateway h call event (record_in old.call_table call) (record_in entries call) (Ok tt)
    → IsShard (record old { gateway = h; call_table = entries; history = events })
    × HasStepped v (record old { gateway = h; call_table = entries; history = events }) next after (OfCall (record { 0 = call }) event)
gateway_forward old v is was call next after own event of_gateway h entries others kind logged events history steps =
    subst (λ (x : ShardValue). IsShard (record old { gateway = h; call_table = entries; history = events })
    × HasStepped x (record old { gateway = h; call_table = entries; history = events }) next after (OfCall (record { 0 = call }) event)) is
    (gateway_taken old was call next own event of_gateway h entries others after kind logged events history steps)

-- ---- room for the event

-- a call with room for an event is the same call
pub with_more_room : (next after : Next) → variant_of after ≡ variant_of next → value_of after ≡ with_room (value_of next) → IsSameNext next after
with_more_room next after kind made = record {
  kind = kind;
  call = record {
    script = ap (λ (c : CallValue). c.script) made;
    agent = ap (λ (c : CallValue). c.agent) made;
    transcript = ap (λ (c : CallValue). c.transcript) made;
  };
}

pub loggable_as : (n m : ℕ) (event : CallEvent) → n ≡ m → is_of_gateway event ≡ true → (if n == m then is_of_gateway event else false) ≡ true
loggable_as n m event same is = ap (λ test. if test then is_of_gateway event else false) (eq-eqb n m same) ∙ is
