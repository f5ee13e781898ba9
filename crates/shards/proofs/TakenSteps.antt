-- A step of a shard, by what its records, its gateway and the call that is handed in come to.
use Rattle.std.proofs.Common.{◌≡◌, ◌∙◌, ◌+◌, ◌<◌, ◌≤◌, ◌++◌, ◌⊎◌, inl, inr, ℕ, suc, Bool, true, false, true≢false, List, [], ◌∷◌, length, Option, Some, None, Ok, Err, if◌then◌else◌, refl, sym, ap, subst, arith}
use Rattle.std.specs.Prelude.{is_some, nat_le}
use Rattle.std.proofs.lemmas.Bool.Decides.{nat_tests}
use Rattle.std.proofs.lemmas.Bool.{leb-true}
use Rattle.mg_model.specs.declared.events.CallEvent.{CallEvent}
use Rattle.mg_model.specs.declared.events.CallEvent.TheVariants as to_call
use Rattle.mg_model.specs.declared.events.Event.{Event}
use Rattle.mg_model.specs.declared.events.Event.TheVariants.{OfCall}
use Rattle.mg_model.specs.Gateway.{Gateway}
use Rattle.mg_model.specs.World.{World, is_of_call}
use Rattle.gateway.specs.Answers.{IsSame}
use Rattle.gateway.specs.GatewayValue.{gateway_of, is_open}
use Rattle.agent.specs.AgentValue.{agent_of}
use Rattle.agent.specs.Calls.{IsLonger, is_of_gateway, value_of}
use Rattle.agent.specs.declared.call.Next.{Next}
use Rattle.agent.specs.declared.refusal.Refusal.{Refusal}
use Rattle.agent.specs.declared.refusal.Refusal.TheVariants.{NotEnabled, Behind, NoMemory}
use Rattle.shards.proofs.RefusedSteps.{cannot_step}
use Rattle.shards.proofs.ShardLemmas.{shard_after, world_numbered}
use Rattle.shards.proofs.ShardSteps.{AreSameRecords, keeps_all, none_same, one_same, refused_counts, shard_unchanged, step_counts, step_happened, step_refused}
use Rattle.shards.proofs.ShownSteps.{step_leads_on}
use Rattle.shards.proofs.ValueSteps.{event_is, value_cannot, value_goes}
use Rattle.shards.specs.CanOccur.{NeverOccurs}
use Rattle.shards.specs.Shards.{CountsEvents, HasHappened, IsShard, IsUnchanged, IsWorldOf, ShardValue, events_of}
use Rattle.shards.specs.Shows.{IsTold, is_told}
use Rattle.shards.specs.CallTable.{IsReady, CountsNotes, OthersStay, StepsIn, events_bound, record_in}
use Rattle.shards.specs.CallRecords.{IsStepped, Steps}
use Rattle.shards.specs.Stepping.{CannotOccur, HasStepped, IsAtAgent, IsRefusedStep, IsSameNext, call_in, is_beginning}
use Rattle.agent.specs.Advancing.{event_of}
use Rattle.shards.specs.declared.call_record.CallRecord.{CallRecord}

-- ---- what a record is fit for

few_events : (call : ℕ) (history : List Event) → events_of call history ≤ length history
few_events call [] = omega arith
few_events call (event ∷ more) = by_test (is_of_call call event) (few_events call more)
  where
    by_test : (test : Bool) → events_of call more ≤ length more → (if test then suc (events_of call more) else events_of call more) ≤ suc (length more)
    by_test true few = omega (arith, few)
    by_test false few = omega (arith, few)

pub ready : (v : ShardValue) → IsShard v → (call : ℕ) → length v.history + 1 < events_bound → IsReady (record_in v.call_table call)
ready v is call room s there =
    let counted : s.events ≡ events_of call v.history = is.counts.counted call s there in
    let few : events_of call v.history ≤ length v.history = few_events call v.history in
    ((is.is_world.shows.calls call s there).tied, omega (arith, counted, few, room))

pub counts_notes : (v : ShardValue) → IsShard v → (call : ℕ) → CountsNotes v.gateway call (record_in v.call_table call)
counts_notes v is call s there =
    ap (λ (g : Gateway). (g.link call).notes) (sym is.is_world.shows.gateway) ∙ (is.is_world.shows.calls call s there).counted

-- a call that has a record is open
pub stands : (v : ShardValue) → IsShard v → (call : ℕ) (s : CallRecord) → record_in v.call_table call ≡ Some s → is_open v.gateway call ≡ true
stands v is call s there = is.is_world.shows.open_calls call ∙ ap is_some there

-- ---- what an agent is told

beyond : (n m : ℕ) → nat_le n m ≡ false → n ≤ m → ⊥
beyond n m is within = grind (arith, nat_tests)

told_in : (v : ShardValue) (w : World) → IsWorldOf v w → (event : CallEvent) → is_told v.gateway.association event ≡ true → IsTold w event
unfolding gateway_of
told_in v w is (to_call.Hear association) told =
    subst (λ (g : Gateway). association.0 ≤ g.association) (sym is.shows.gateway) (leb-true association.0 v.gateway.association told)
told_in v w is (to_call.OnLine line happens) told = tt
told_in v w is (to_call.Execute number chosen) told = tt
told_in v w is (to_call.Reply number) told = tt
told_in v w is to_call.Pass told = tt
told_in v w is (to_call.Note number) told = tt
told_in v w is to_call.Timer told = tt
told_in v w is (to_call.Begin old) told = tt

-- an agent that isn't told of an association hears of it in no world that is shown
pub never_told : (v : ShardValue) (call : ℕ) (event : CallEvent) → is_told v.gateway.association event ≡ false
    → NeverOccurs v (OfCall (record { 0 = call }) event)
unfolding gateway_of
never_told v call (to_call.Hear association) told w is after occurs =
    beyond association.0 v.gateway.association told (subst (λ (g : Gateway). association.0 ≤ g.association) is.shows.gateway occurs.0)
never_told v call (to_call.OnLine line happens) told w is after occurs = true≢false told
never_told v call (to_call.Execute number chosen) told w is after occurs = true≢false told
never_told v call (to_call.Reply number) told w is after occurs = true≢false told
never_told v call to_call.Pass told w is after occurs = true≢false told
never_told v call (to_call.Note number) told w is after occurs = true≢false told
never_told v call to_call.Timer told w is after occurs = true≢false told
never_told v call (to_call.Begin old) told w is after occurs = true≢false told

pub not_told : (v : ShardValue) (next : Next) (call : ℕ) (event : CallEvent) → is_told v.gateway.association event ≡ false
    → CannotOccur v next (OfCall (record { 0 = call }) event)
not_told v next call event told w is after a occurs goes = never_told v call event told w is after occurs

-- an event of another call is none of the one that is handed in
pub of_another : (v : ShardValue) (next : Next) (call : ℕ) (event : CallEvent) → IsAtAgent event ⊎ (is_of_gateway event ≡ true) → (call_in next ≡ call → ⊥)
    → CannotOccur v next (OfCall (record { 0 = call }) event)
of_another v next call (to_call.OnLine line happens) may other w is after a occurs goes = other (sym goes.1.0)
of_another v next call (to_call.Execute number chosen) may other w is after a occurs goes = other (sym goes.1.0)
of_another v next call (to_call.Reply number) may other w is after a occurs goes = other (sym goes.1.0)
of_another v next call to_call.Pass may other w is after a occurs goes = other (sym goes.1.0)
of_another v next call (to_call.Note number) may other w is after a occurs goes = other (sym goes.1.0)
of_another v next call to_call.Timer may other w is after a occurs goes = other (sym goes.1.0)
of_another v next call (to_call.Hear association) may other w is after a occurs goes = other (sym goes.1.0)
of_another v next call (to_call.Begin old) (inl none) other w is after a occurs goes = none
of_another v next call (to_call.Begin old) (inr none) other w is after a occurs goes = true≢false (sym none)

same_next : (next : Next) → IsSameNext next next
same_next next = record { kind = refl; call = record { script = refl; agent = refl; transcript = refl } }

pub back_as : (next after : Next) → after ≡ next → IsSameNext next after
back_as next after same = subst (λ (n : Next). IsSameNext next n) (sym same) (same_next next)

-- ---- at the agent

no_beginning : (call : ℕ) (event : CallEvent) → IsAtAgent event → is_beginning (OfCall (record { 0 = call }) event) ≡ false
no_beginning call (to_call.OnLine line happens) none = absurd none
no_beginning call (to_call.Execute number chosen) none = absurd none
no_beginning call (to_call.Begin old) none = absurd none
no_beginning call (to_call.Reply number) is = refl
no_beginning call to_call.Pass is = refl
no_beginning call (to_call.Note number) is = refl
no_beginning call to_call.Timer is = refl
no_beginning call (to_call.Hear association) is = refl

module _ (old : ShardValue) (was : IsShard old) (call : ℕ) (next after : Next) (own : call_in next ≡ call) (event : CallEvent) (of_agent : IsAtAgent event)
    (entries : List (ℕ × CallRecord)) (others : OthersStay old.call_table call entries) where
  abbrev named : Event
  named = OfCall (record { 0 = call }) event

  module _ (told : is_told old.gateway.association event ≡ true) (events : List Event) (history : events ≡ old.history ++ named ∷ []) where
    abbrev later : ShardValue
    later = record old { call_table = entries; history = events }

    taken : (s t : CallRecord) → record_in old.call_table call ≡ Some s → record_in entries call ≡ Some t → Steps old.script next event s t after
        → IsShard later × HasStepped old later next after named
    taken s t there here steps =
        let happened : HasHappened old later named = step_happened old old.gateway entries events call event s t there here others history
        (λ w is. step_leads_on old.script w old.gateway (record_in old.call_table) is.shows (world_numbered old w is) call s t there next after event steps (told_in old w is event told)) in
        let counts : CountsEvents later = step_counts old old.gateway entries events call event s t there here others history was.counts
        (keeps_all old.gateway) (stands old was call s there) steps.events in (
          shard_after old later named was happened counts,
          record {
            shard = happened;
            kind = steps.advanced.0;
            goes = λ w is. value_goes w call s (is.shows.calls call s there) next (sym own) event steps.brought (agent_of (value_of after).agent) steps.delivered steps.advanced.1;
            longer = subst (λ (e : Event). IsLonger e (value_of next) (value_of after))
                (ap (λ c. OfCall (record { 0 = c }) (event_of steps.brought)) own
                ∙ ap (OfCall (record { 0 = call })) (event_is was.world call s (was.is_world.shows.calls call s there) next (sym own) event steps.brought steps.delivered))
                steps.advanced.2;
            goes_on = no_beginning call event of_agent;
          },
        )

    pub agent_taken : StepsIn old.script next event (record_in old.call_table call) (record_in entries call) after (Ok tt) → IsShard later × HasStepped old later next after named
    agent_taken steps = by_record (record_in old.call_table call) refl steps
      where
        by_record : (o : Option CallRecord) → record_in old.call_table call ≡ o → StepsIn old.script next event o (record_in entries call) after (Ok tt)
            → IsShard later × HasStepped old later next after named
        by_record None there is = absurd (let told_so = is.1 in cc)
        by_record (Some s) there is = taken s is.0 there is.1 is.2

  abbrev back : ShardValue
  back = record old { call_table = entries }

  unchanged : AreSameRecords old.call_table entries → IsShard back × IsUnchanged old back
  unchanged call_table =
      let same : IsSame old.gateway old.gateway = (refl, λ c. refl) in
      let stays : IsUnchanged old back = step_refused old old.gateway entries same call_table in
      (shard_unchanged old back was stays (refused_counts old old.gateway entries same call_table was.counts), stays)

  refused : (s t : CallRecord) → record_in old.call_table call ≡ Some s → record_in entries call ≡ Some t → (why : Refusal) → IsStepped old.script next event s t after (Err why)
      → IsShard back × (IsRefusedStep old next named why × (IsUnchanged old back × IsSameNext next after))
  refused s t there here NotEnabled is =
      let both = unchanged (one_same old.call_table entries call s t there here is.1 others) in
      (both.0, (inl cannot, (both.1, back_as next after is.2)))
    where
      cannot : CannotOccur old next named
      cannot w shown world a occurs goes = elim (cannot_step old.script w old.gateway (record_in old.call_table) shown.shows (world_numbered old w shown) call s there next event of_agent is.0) [
        | inl none ↦ none world occurs
        | inr stuck ↦ value_cannot w call s (shown.shows.calls call s there) next (sym own) (world_numbered old w shown) event stuck.0 a stuck.1 stuck.2 goes
      ]
  refused s t there here NoMemory is =
      let both = unchanged (one_same old.call_table entries call s t there here is.0 others) in
      (both.0, (tt, (both.1, back_as next after is.1)))
  refused s t there here (Behind slot_count) is = absurd is

  pub agent_refused : (why : Refusal) → StepsIn old.script next event (record_in old.call_table call) (record_in entries call) after (Err why)
      → IsShard back × (IsRefusedStep old next named why × (IsUnchanged old back × IsSameNext next after))
  agent_refused why steps = by_record (record_in old.call_table call) refl steps
    where
      no_record : (told : Refusal) → record_in old.call_table call ≡ None → record_in entries call ≡ None → NotEnabled ≡ told → after ≡ next
          → IsShard back × (IsRefusedStep old next named told × (IsUnchanged old back × IsSameNext next after))
      no_record told there here is same =
          let both = unchanged (none_same old.call_table entries call others there here) in
          (both.0, (subst (λ (x : Refusal). IsRefusedStep old next named x) is (inr (ap (record_in old.call_table) own ∙ there)), (both.1, back_as next after same)))

      by_record : (o : Option CallRecord) → record_in old.call_table call ≡ o → StepsIn old.script next event o (record_in entries call) after (Err why)
          → IsShard back × (IsRefusedStep old next named why × (IsUnchanged old back × IsSameNext next after))
      by_record None there is = no_record why there is.0 (let same = is.1 in cc) is.2
      by_record (Some s) there is = refused s is.0 there is.1 why is.2

-- ---- the same with what is left of the old shard beside it

pub agent_back : (old v : ShardValue) → old ≡ v → IsShard old → (call : ℕ) (next after : Next) → call_in next ≡ call → (event : CallEvent) → IsAtAgent event
    → (entries : List (ℕ × CallRecord)) → OthersStay old.call_table call entries → (events : List Event) → events ≡ old.history → (why : Refusal)
    → StepsIn old.script next event (record_in old.call_table call) (record_in entries call) after (Err why)
    → IsShard (record old { call_table = entries; history = events }) × (IsRefusedStep v next (OfCall (record { 0 = call }) event) why
    × (IsUnchanged v (record old { call_table = entries; history = events }) × IsSameNext next after))
agent_back old v is was call next after own event of_agent entries others events same why steps =
    subst (λ (x : ShardValue). IsShard (record old { call_table = entries; history = events }) × (IsRefusedStep x next (OfCall (record { 0 = call }) event) why
    × (IsUnchanged x (record old { call_table = entries; history = events }) × IsSameNext next after))) is
    (subst (λ (es : List Event). IsShard (record old { call_table = entries; history = es }) × (IsRefusedStep old next (OfCall (record { 0 = call }) event) why
    × (IsUnchanged old (record old { call_table = entries; history = es }) × IsSameNext next after))) (sym same)
    (agent_refused old was call next after own event of_agent entries others why steps))

pub agent_forward : (old v : ShardValue) → old ≡ v → IsShard old → (call : ℕ) (next after : Next) → call_in next ≡ call → (event : CallEvent) → IsAtAgent event
    → (entries : List (ℕ × CallRecord)) → OthersStay old.call_table call entries → is_told old.gateway.association event ≡ true
    → (events : List Event) → events ≡ old.history ++ OfCall (record { 0 = call }) event ∷ []
    → StepsIn old.script next event (record_in old.call_table call) (record_in entries call) after (Ok tt)
    → IsShard (record old { call_table = entries; history = events })
    × HasStepped v (record old { call_table = entries; history = events }) next after (OfCall (record { 0 = call }) event)
agent_forward old v is was call next after own event of_agent entries others told events history steps =
    subst (λ (x : ShardValue). IsShard (record old { call_table = entries; history = events })
    × HasStepped x (record old { call_table = entries; history = events }) next after (OfCall (record { 0 = call }) event)) is
    (agent_taken old was call next after own event of_agent entries others told events history steps)
