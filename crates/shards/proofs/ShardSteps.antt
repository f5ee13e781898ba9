-- A shard after an event of one call: its record is put in place of the old one, and the event is the last of the history. And a shard of which an event is
-- refused: it shows the same worlds.
use Rattle.std.proofs.Common.{◌≡◌, ◌∙◌, ◌+◌, ◌≤◌, ◌++◌, ◌==◌, ◌⊎◌, inl, inr, ℕ, Bool, true, false, true≢false, List, [], ◌∷◌, length, Option, Some, None, if◌then◌else◌, reverse, refl, sym, ap, subst, arith}
use Rattle.std.specs.Prelude.{Contains, is_some}
use Rattle.std.specs.List.{find}
use Rattle.std.proofs.lemmas.Bool.{eqb-true, eqb-false, eq-eqb}
use Rattle.mg_model.proofs.Cases.{some_is_none, the_some}
use Rattle.mg_model.specs.declared.events.CallEvent.{CallEvent}
use Rattle.mg_model.specs.declared.events.Event.{Event}
use Rattle.mg_model.specs.declared.events.Event.TheVariants.{OfCall}
use Rattle.mg_model.specs.Agent.{Agent}
use Rattle.mg_model.specs.Gateway.{Gateway}
use Rattle.mg_model.specs.Messages.{Request}
use Rattle.mg_model.specs.World.{World, sent_in}
use Rattle.mg_model.specs.Accepted.{HasFewCommands, IsScript}
use Rattle.mg_merge.specs.Identifiers.{most_shards}
use Rattle.mg_safety.specs.Headline.{RunsAreGood}
use Rattle.gateway.specs.Answers.{IsSame, SameOpen}
use Rattle.gateway.specs.GatewayValue.{GatewayValue, gateway_of, is_open}
use Rattle.agent.specs.AgentValue.{agent_of}
use Rattle.shards.specs.Messages.{AreNumberedFrom, Messages, fits, reply_for, request_numbers}
use Rattle.shards.proofs.ShardLemmas.{led_on, one_more, still_within}
use Rattle.shards.specs.Shards.{CountsEvents, HasHappened, IsShard, IsUnchanged, IsWorldOf, ShardValue, events_of}
use Rattle.shards.specs.Shows.{LeadsOn, Shows, ShowsCall, with_record}
use Rattle.shards.specs.CallRecords.{AreSettled, IsSameRecord, IsTied, request_in}
use Rattle.shards.specs.CallTable.{OthersStay, record_in}
use Rattle.shards.specs.declared.call_record.CallRecord.{CallRecord}

-- records that are alike at each call are the same
pub same_records : {f g : ℕ → Option CallRecord} → ((n : ℕ) → f n ≡ g n) → f ≡ g
same_records h = λ i n. h n i

-- the calls that are open and those that are retired stay
pub record KeepsCalls (g h : GatewayValue) : Type 0 where
  pub open_calls : SameOpen g h
  pub retired : (call : ℕ) → (gateway_of h).retired call ≡ (gateway_of g).retired call

pub keeps_all : (g : GatewayValue) → KeepsCalls g g
keeps_all g = record { open_calls = λ call. refl; retired = λ call. refl }

-- ---- an event happens

module _ (old : ShardValue) (h : GatewayValue) (entries : List (ℕ × CallRecord)) (events : List Event) (call : ℕ) (happens : CallEvent) (s t : CallRecord)
    (there : record_in old.call_table call ≡ Some s) (here : record_in entries call ≡ Some t) (others : OthersStay old.call_table call entries)
    (history : events ≡ old.history ++ OfCall (record { 0 = call }) happens ∷ []) where
  abbrev event : Event
  event = OfCall (record { 0 = call }) happens

  abbrev pub stepped : ShardValue
  stepped = record old { gateway = h; call_table = entries; history = events }

  records_are : record_in entries ≡ with_record (record_in old.call_table) call t
  records_are = same_records (λ c. by_test c (c == call) refl)
    where
      by_test : (c : ℕ) (test : Bool) → (c == call) ≡ test → record_in entries c ≡ (if test then Some t else record_in old.call_table c)
      by_test c true same = ap (record_in entries) (eqb-true c call same) ∙ here
      by_test c false other = others c (eqb-false c call other)

  pub step_happened : ((w : World) → IsWorldOf old w → LeadsOn old.script w event h (with_record (record_in old.call_table) call t)) → HasHappened old stepped event
  step_happened leads = record {
    same = record { script = refl; first = refl; stride = refl; calls = refl };
    history = history;
    worlds = λ w is. led_on old stepped event (record { script = refl; first = refl; stride = refl; calls = refl }) history w is
        (subst (λ (call_record : ℕ → Option CallRecord). LeadsOn old.script w event h call_record) (sym records_are) (leads w is));
  }

  own_count : events_of call events ≡ events_of call old.history + 1
  own_count = ap (events_of call) history ∙ one_more call old.history event
      ∙ ap (λ test. events_of call old.history + (if test then 1 else 0)) (eq-eqb call call refl)

  other_count : (c : ℕ) → (c ≡ call → ⊥) → events_of c events ≡ events_of c old.history
  other_count c other = ap (events_of c) history ∙ one_more c old.history event ∙ by_test (call == c) refl
    where
      by_test : (test : Bool) → (call == c) ≡ test → events_of c old.history + (if test then 1 else 0) ≡ events_of c old.history
      by_test true same = absurd (other (sym (eqb-true call c same)))
      by_test false differs = omega arith

  pub step_counts : CountsEvents old → KeepsCalls old.gateway h → is_open old.gateway call ≡ true → t.events ≡ s.events + 1 → CountsEvents stepped
  step_counts counts keeps stands one = record {
    counted = λ c x is. counted_at c x is (c == call) refl;
    unused = λ c not_open not_retired.
        let closed : is_open old.gateway c ≡ false = sym (keeps.open_calls c) ∙ not_open in
        other_count c (λ same. true≢false (sym stands ∙ ap (is_open old.gateway) (sym same) ∙ closed))
        ∙ counts.unused c closed (sym (keeps.retired c) ∙ not_retired);
  }
    where
      counted_at : (c : ℕ) (x : CallRecord) → record_in entries c ≡ Some x → (test : Bool) → (c == call) ≡ test → x.events ≡ events_of c events
      counted_at c x is true same =
          let this : c ≡ call = eqb-true c call same in
          let was : t ≡ x = the_some t x (sym here ∙ ap (record_in entries) (sym this) ∙ is) in
          ap (λ (y : CallRecord). y.events) (sym was) ∙ one ∙ ap (λ n. n + 1) (counts.counted call s there) ∙ sym own_count ∙ ap (λ n. events_of n events) (sym this)
      counted_at c x is false other =
          let differs = eqb-false c call other in
          counts.counted c x (sym (others c differs) ∙ is) ∙ sym (other_count c differs)

-- ---- an event is refused

-- a record that is as it was shows its call as before
pub same_shown : (w : World) (call : ℕ) (s t : CallRecord) → IsSameRecord s t → ShowsCall w call s → ShowsCall w call t
same_shown w call s t same shows = record {
  agent = shows.agent ∙ ap (λ (a : Agent). Some a) (sym same.agent);
  requests = λ which. shows.requests which ∙ found which;
  replies = λ which. shows.replies which ∙ ap (λ (m : Messages). reply_for m which) (sym same.sent);
  notes_sent = λ n among. shows.notes_sent n (subst (λ (m : Messages). Contains m.notes n) same.sent among);
  notes_kept = λ n among of_it. subst (λ (m : Messages). Contains m.notes n) (sym same.sent) (shows.notes_kept n among of_it);
  counted = shows.counted ∙ ap (λ (m : Messages). length m.notes) (sym same.sent);
  tied = tied shows.tied;
}
  where
    found : (which : Option ℕ) → request_in s which ≡ request_in t which
    found which =
        ap (λ (a : Agent). find (λ (r : Request). fits which r.number) (sent_in a.phase ++ reverse s.messages.sent.requests)) (sym same.agent)
        ∙ ap (λ (m : Messages). find (λ (r : Request). fits which r.number) (sent_in (agent_of t.agent).phase ++ reverse m.requests)) (sym same.sent)

    settled : AreSettled (agent_of s.agent) s.messages.sent.notes s.settled → (t.settled ≡ s.settled) ⊎ AreSettled (agent_of s.agent) s.messages.sent.notes t.settled
        → AreSettled (agent_of s.agent) s.messages.sent.notes t.settled
    settled was (inl as_many) = subst (AreSettled (agent_of s.agent) s.messages.sent.notes) (sym as_many) was
    settled was (inr are) = are

    tied : IsTied s → IsTied t
    tied is = record {
      numbered = subst (λ (m : Messages). AreNumberedFrom m.first (request_numbers m.requests)) (sym same.sent) is.numbered;
      places = ap (λ (m : Messages). length m.replies) same.sent ∙ is.places
          ∙ ap (λ (m : Messages). length m.requests + length (sent_in (agent_of s.agent).phase)) (sym same.sent)
          ∙ ap (λ (a : Agent). length t.messages.sent.requests + length (sent_in a.phase)) (sym same.agent);
      awaited = λ r among. is.awaited r (subst (λ (a : Agent). Contains (sent_in a.phase) r) same.agent among)
          ∙ ap (λ (m : Messages). m.first + length m.requests) (sym same.sent);
      next = ap (λ (a : Agent). a.next) same.agent ∙ is.next ∙ ap (λ (m : Messages). m.first + length m.replies) (sym same.sent);
      settled = subst (λ (a : Agent). AreSettled a t.messages.sent.notes t.settled) (sym same.agent)
          (subst (λ (m : Messages). AreSettled (agent_of s.agent) m.notes t.settled) (sym same.sent) (settled is.settled same.settled));
    }

-- the record of each call is as it was
abbrev pub AreSameRecords : List (ℕ × CallRecord) → List (ℕ × CallRecord) → Type 0
AreSameRecords old new =
    ((call : ℕ) (t : CallRecord) → record_in new call ≡ Some t → (s : CallRecord) × (record_in old call ≡ Some s) × IsSameRecord s t)
    × ((call : ℕ) → is_some (record_in new call) ≡ is_some (record_in old call))

module _ (old : ShardValue) (h : GatewayValue) (entries : List (ℕ × CallRecord)) (same : IsSame old.gateway h) (call_table : AreSameRecords old.call_table entries) where
  abbrev pub refused : ShardValue
  refused = record old { gateway = h; call_table = entries }

  none_there : (call : ℕ) → record_in entries call ≡ None → record_in old.call_table call ≡ None
  none_there call none = by_record (record_in old.call_table call) refl
    where
      by_record : (o : Option CallRecord) → record_in old.call_table call ≡ o → o ≡ None
      by_record None is = refl
      by_record (Some s) is = absurd (true≢false (ap is_some (sym is) ∙ sym (call_table.1 call) ∙ ap is_some none))

  still_shown : (w : World) → Shows w old.gateway (record_in old.call_table) → Shows w h (record_in entries)
  still_shown w shows = record {
    gateway = shows.gateway ∙ sym same.0;
    open_calls = λ call. same.1 call ∙ shows.open_calls call ∙ sym (call_table.1 call);
    calls = λ call t is. let was = call_table.0 call t is in same_shown w call was.0 t was.2 (shows.calls call was.0 was.1);
    no_others = λ call none. shows.no_others call (none_there call none);
  }

  pub step_refused : IsUnchanged old refused
  step_refused = record {
    same = record { script = refl; first = refl; stride = refl; calls = refl };
    history = refl;
    worlds = λ w is. record { start = is.start; opens = is.opens; class = is.class; runs = is.runs; shows = still_shown w is.shows };
  }

  pub refused_counts : CountsEvents old → CountsEvents refused
  unfolding gateway_of
  refused_counts counts = record {
    counted = λ call t is. let was = call_table.0 call t is in was.2.events ∙ counts.counted call was.0 was.1;
    unused = λ call not_open not_retired.
        counts.unused call (sym (same.1 call) ∙ not_open) (ap (λ (g : Gateway). g.retired call) (sym same.0) ∙ not_retired);
  }

-- where one record is as it was, and the others stay, each is
pub one_same : (old new : List (ℕ × CallRecord)) (call : ℕ) (s t : CallRecord) → record_in old call ≡ Some s → record_in new call ≡ Some t → IsSameRecord s t
    → OthersStay old call new → AreSameRecords old new
one_same old new call s t there here same others = (λ c x is. at c x is (c == call) refl, λ c. stands c (c == call) refl)
  where
    same_as : (x : CallRecord) → IsSameRecord x x
    same_as x = record { agent = refl; sent = refl; events = refl; settled = inl refl }

    at : (c : ℕ) (x : CallRecord) → record_in new c ≡ Some x → (test : Bool) → (c == call) ≡ test → (y : CallRecord) × (record_in old c ≡ Some y) × IsSameRecord y x
    at c x is true this =
        let own : c ≡ call = eqb-true c call this in
        let was : t ≡ x = the_some t x (sym here ∙ ap (record_in new) (sym own) ∙ is) in
        (s, ap (record_in old) own ∙ there, subst (IsSameRecord s) was same)
    at c x is false other = (x, sym (others c (eqb-false c call other)) ∙ is, same_as x)

    stands : (c : ℕ) (test : Bool) → (c == call) ≡ test → is_some (record_in new c) ≡ is_some (record_in old c)
    stands c true this = ap (λ n. is_some (record_in new n)) (eqb-true c call this) ∙ ap is_some here ∙ sym (ap is_some there)
        ∙ ap (λ n. is_some (record_in old n)) (sym (eqb-true c call this))
    stands c false other = ap is_some (others c (eqb-false c call other))

-- nothing changed
pub stays_unchanged : (v : ShardValue) → IsUnchanged v v
stays_unchanged v = record {
  same = record { script = refl; first = refl; stride = refl; calls = refl };
  history = refl;
  worlds = λ w is. is;
}

pub shard_unchanged : (old new : ShardValue) → IsShard old → IsUnchanged old new → CountsEvents new → IsShard new
shard_unchanged old new was unchanged counts = record {
  accepted = subst IsScript (sym unchanged.same.script) was.accepted;
  few_commands = subst HasFewCommands (sym unchanged.same.script) was.few_commands;
  safe = subst RunsAreGood (sym unchanged.same.script) was.safe;
  within = still_within old new unchanged.same was.within;
  few_shards = subst (λ n. n ≤ most_shards) (sym unchanged.same.stride) was.few_shards;
  world = was.world;
  is_world = unchanged.worlds was.world was.is_world;
  counts = counts;
}

-- where a call had no record and has none, and the others stay, each is as it was
pub none_same : (old new : List (ℕ × CallRecord)) (call : ℕ) → OthersStay old call new → record_in old call ≡ None → record_in new call ≡ None → AreSameRecords old new
none_same old new call others there here = (λ c x is. at c x is (c == call) refl, λ c. open_as c (c == call) refl)
  where
    at : (c : ℕ) (x : CallRecord) → record_in new c ≡ Some x → (test : Bool) → (c == call) ≡ test → (y : CallRecord) × (record_in old c ≡ Some y) × IsSameRecord y x
    at c x is true this = absurd (some_is_none x (sym is ∙ ap (record_in new) (eqb-true c call this) ∙ here))
    at c x is false other = (x, sym (others c (eqb-false c call other)) ∙ is, record { agent = refl; sent = refl; events = refl; settled = inl refl })

    open_as : (c : ℕ) (test : Bool) → (c == call) ≡ test → is_some (record_in new c) ≡ is_some (record_in old c)
    open_as c true this = ap (λ n. is_some (record_in new n)) (eqb-true c call this) ∙ ap is_some here ∙ sym (ap is_some there)
        ∙ ap (λ n. is_some (record_in old n)) (sym (eqb-true c call this))
    open_as c false other = ap is_some (others c (eqb-false c call other))
