-- A shard in which a call begins on the lines of another: the new call has its record in place of the old one's, and the beginning is the last of the history.
-- And a shard in which it can't begin.
use Rattle.std.proofs.Common.{◌≡◌, ◌∙◌, ◌+◌, ◌++◌, ◌==◌, inl, ℕ, Bool, true, false, true≢false, List, [], ◌∷◌, Option, Some, None, Result, Ok, Err, if◌then◌else◌, refl, sym, ap, subst, arith}
use Rattle.std.specs.Prelude.{is_some, not, ◌&&◌, ◌||◌}
use Rattle.std.proofs.lemmas.Bool.{eqb-true, eqb-false, eq-eqb}
use Rattle.mg_model.proofs.Cases.{none_is_some, the_some}
use Rattle.mg_model.specs.declared.events.Event.{Event}
use Rattle.mg_model.specs.Gateway as gateway
use Rattle.mg_model.specs.Gateway.{Gateway, MayBegin}
use Rattle.mg_model.specs.World.{begin}
use Rattle.gateway.specs.declared.fault.BeginFault.{BeginFault}
use Rattle.gateway.specs.declared.fault.BeginFault.TheVariants as fault
use Rattle.gateway.specs.Answers.{IsSame}
use Rattle.gateway.specs.Beginnings.{IsBegun}
use Rattle.gateway.specs.GatewayValue.{GatewayValue, gateway_of, is_open}
use Rattle.agent.specs.AgentValue.{agent_of}
use Rattle.agent.specs.CallValue.{CallValue}
use Rattle.agent.specs.Calls.{with_room}
use Rattle.agent.specs.declared.call.Next.{Next}
use Rattle.agent.specs.declared.call.Next.TheVariants as next
use Rattle.agent.specs.declared.refusal.Refusal.{Refusal}
use Rattle.agent.specs.declared.refusal.Refusal.TheVariants.{NoMemory}
use Rattle.shards.proofs.NeverBegun.{never_begun, never_ended}
use Rattle.shards.proofs.ShardLemmas.{led_on, one_more, shard_after, world_numbered}
use Rattle.shards.proofs.ShardSteps.{AreSameRecords, refused_counts, shard_unchanged, step_refused}
use Rattle.shards.proofs.ShownBegins.{begin_leads_on, differ, free_number}
use Rattle.shards.specs.Beginnings.{HandsOver, IsBegunBy, has_ended, refusal_of}
use Rattle.shards.specs.Shards.{CountsEvents, HasHappened, IsShard, IsUnchanged, ShardValue, events_of}
use Rattle.shards.specs.CallTable.{record_in}
use Rattle.shards.specs.Stepping.{CannotOccur, IsRefusedStep, IsSameNext, IsStep}
use Rattle.shards.specs.declared.call_record.CallRecord.{CallRecord}
use Rattle.shards.specs.declared.stepped.Stepped.{Stepped}
use Rattle.shards.specs.declared.stepped.Stepped.TheVariants.{Done, Begun}

module _ (v : ShardValue) (value : CallValue) (new old : ℕ) where
  abbrev refusing : Next
  refusing = next.Ended value

  pub not_own : (value.agent.call ≡ old → ⊥) → CannotOccur v refusing (begin new old)
  not_own other w shown after a occurs goes = other (sym goes.1.0)

  pub not_ended : (s : CallRecord) → record_in v.call_table old ≡ Some s → has_ended v.script (agent_of s.agent) v.gateway.association ≡ false → CannotOccur v refusing (begin new old)
  not_ended s there none w shown after a occurs goes = never_ended v new old s there none w shown after occurs

module _ (v : ShardValue) (was : IsShard v) (value : CallValue) (new old : ℕ) where
  abbrev handed : Next
  handed = next.Ended value

  abbrev named : Event
  named = begin new old

  -- ---- it begins

  module _ (own : value.agent.call ≡ old) (s : CallRecord) (there : record_in v.call_table old ≡ Some s) (ended : has_ended v.script (agent_of s.agent) v.gateway.association ≡ true)
      (before : List (ℕ × CallRecord)) (same : (c : ℕ) → record_in before c ≡ record_in v.call_table c)
      (h : GatewayValue) (b : IsBegun v.gateway old new h (Ok tt)) (entries : List (ℕ × CallRecord)) (x : HandsOver v.script before entries old new s)
      (events : List Event) (history : events ≡ v.history ++ named ∷ []) where
    abbrev later : ShardValue
    later = record v { gateway = h; call_table = entries; history = events }

    apart : new ≡ old → ⊥
    apart = differ v.script was.world v.gateway h (record_in v.call_table) was.is_world.shows (world_numbered v was.world was.is_world) old new s there b

    records_are : (c : ℕ) → record_in entries c ≡ (if c == new then Some x.call_record else if c == old then None else record_in v.call_table c)
    records_are c = x.call_table c ∙ ap (λ (o : Option CallRecord). if c == new then Some x.call_record else if c == old then None else o) (same c)

    happened : HasHappened v later named
    happened = record {
      same = record { script = refl; first = refl; stride = refl; calls = refl };
      history = history;
      worlds = λ w is. led_on v later named (record { script = refl; first = refl; stride = refl; calls = refl }) history w is
          (begin_leads_on v.script w v.gateway h (record_in v.call_table) is.shows (world_numbered v w is) old new s there b ended x.call_record x.begun_record (record_in entries) records_are);
    }

    free : (is_open v.gateway new ≡ false) × ((gateway_of v.gateway).retired new ≡ false)
    free = free_number v.gateway new b.1

    own_count : events_of new events ≡ 1
    own_count = ap (events_of new) history ∙ one_more new v.history named ∙ ap (λ test. events_of new v.history + (if test then 1 else 0)) (eq-eqb new new refl)
        ∙ ap (λ n. n + 1) (was.counts.unused new free.0 free.1)

    other_count : (c : ℕ) → (c ≡ new → ⊥) → events_of c events ≡ events_of c v.history
    other_count c other = ap (events_of c) history ∙ one_more c v.history named ∙ by_test (new == c) refl
      where
        by_test : (test : Bool) → (new == c) ≡ test → events_of c v.history + (if test then 1 else 0) ≡ events_of c v.history
        by_test true this = absurd (other (sym (eqb-true new c this)))
        by_test false differs = omega arith

    counts : CountsEvents later
    counts = record {
      counted = λ c y is. by_new c y (c == new) refl (sym (records_are c) ∙ is);
      unused = λ c not_open not_retired. unused c not_open (ap (λ (g : Gateway). g.retired c) (sym b.3) ∙ not_retired);
    }
      where
        by_old : (c : ℕ) (y : CallRecord) (test : Bool) → (c ≡ new → ⊥) → (if test then None else record_in v.call_table c) ≡ Some y → y.events ≡ events_of c events
        by_old c y true not_new at = absurd (none_is_some y at)
        by_old c y false not_new at = was.counts.counted c y at ∙ sym (other_count c not_new)

        by_new : (c : ℕ) (y : CallRecord) (test : Bool) → (c == new) ≡ test → (if test then Some x.call_record else if c == old then None else record_in v.call_table c) ≡ Some y
            → y.events ≡ events_of c events
        by_new c y true this at =
            ap (λ (z : CallRecord). z.events) (sym (the_some x.call_record y at)) ∙ x.begun_record.events ∙ sym own_count ∙ ap (λ n. events_of n events) (sym (eqb-true c new this))
        by_new c y false other at = by_old c y (c == old) (eqb-false c new other) at

        unused : (c : ℕ) → is_open h c ≡ false → (gateway.begun (gateway_of v.gateway) old new).retired c ≡ false → events_of c events ≡ 0
        unused c not_open not_retired = by_tests (c == new) (c == old) refl refl (sym (b.4 c) ∙ not_open) not_retired
          where
            by_tests : (one other : Bool) → (c == new) ≡ one → (c == old) ≡ other → (one || (not other && is_open v.gateway c)) ≡ false
                → (if other then true else (gateway_of v.gateway).retired c) ≡ false → events_of c events ≡ 0
            by_tests true other is_new is_old not_open not_retired = absurd (true≢false not_open)
            by_tests false true is_new is_old not_open not_retired = absurd (true≢false not_retired)
            by_tests false false is_new is_old not_open not_retired = other_count c (eqb-false c new is_new) ∙ was.counts.unused c not_open not_retired

    pub begun_kept : IsShard later
    begun_kept = shard_after v later named was happened counts

    pub begun_taken : (after : Next) (told : Result Stepped Refusal) → IsBegunBy new (with_room value) after told → IsStep v later handed after named told
    begun_taken after (Ok (Begun retired)) is = (
      record {
        shard = happened;
        kind = is.0;
        goes = λ w shown. (refl, (sym own, is.1.agent));
        script = is.1.script;
        transcript = is.1.transcript ∙ ap (λ n. begin new n ∷ []) own;
        begins = refl;
      },
      record { call = is.2.call; state = is.2.state; transcript = is.2.transcript },
    )
    begun_taken after (Ok Done) is = absurd is
    begun_taken after (Err why) is = absurd is

  module _ (before : List (ℕ × CallRecord)) (same : (c : ℕ) → record_in before c ≡ record_in v.call_table c) where
    abbrev back : ShardValue
    back = record v { call_table = before }

    same_records : AreSameRecords v.call_table before
    same_records = (λ c t is. (t, sym (same c) ∙ is, record { agent = refl; sent = refl; events = refl; settled = inl refl }), λ c. ap is_some (same c))

    same_gateway : IsSame v.gateway v.gateway
    same_gateway = (refl, λ c. refl)

    pub back_unchanged : IsUnchanged v back
    back_unchanged = step_refused v v.gateway before same_gateway same_records

    pub back_kept : IsShard back
    back_kept = shard_unchanged v back was back_unchanged (refused_counts v v.gateway before same_gateway same_records was.counts)

  pub cannot : (h : GatewayValue) (why : BeginFault) → IsBegun v.gateway old new h (Err why) → IsRefusedStep v handed named (refusal_of why)
  cannot h fault.UnknownCall is = inl (λ w shown after a occurs goes. never_begun v new old fault.UnknownCall is.0 w shown after occurs)
  cannot h fault.Taken is = inl (λ w shown after a occurs goes. never_begun v new old fault.Taken (is.0, is.1) w shown after occurs)
  cannot h fault.CannotHappen is = inl (λ w shown after a occurs goes. never_begun v new old fault.CannotHappen (is.0, is.1, is.2) w shown after occurs)
  cannot h fault.NoMemory is = tt

  same_after : (h : GatewayValue) (why : BeginFault) → IsBegun v.gateway old new h (Err why) → h ≡ v.gateway
  same_after h fault.UnknownCall is = is.1
  same_after h fault.Taken is = is.2
  same_after h fault.CannotHappen is = is.3
  same_after h fault.NoMemory is = is

  module _ (before : List (ℕ × CallRecord)) (same : (c : ℕ) → record_in before c ≡ record_in v.call_table c) (h : GatewayValue) (why : BeginFault)
      (b : IsBegun v.gateway old new h (Err why)) (after : Next) (handed_back : IsSameNext handed after) where
    abbrev behind : ShardValue
    behind = record v { gateway = h; call_table = before }

    gateway_stays : IsSame v.gateway h
    gateway_stays = let stays = same_after h why b in (ap gateway_of stays, λ c. ap (λ (g : GatewayValue). is_open g c) stays)

    unchanged : IsUnchanged v behind
    unchanged = step_refused v h before gateway_stays (same_records before same)

    pub begin_refused : IsShard behind × IsStep v behind handed after named (Err (refusal_of why))
    begin_refused = (
      shard_unchanged v behind was unchanged (refused_counts v h before gateway_stays (same_records before same) was.counts),
      (cannot h why b, (unchanged, handed_back)),
    )

-- ---- the same with what is left of the old shard beside it

module _ (v u : ShardValue) (is : v ≡ u) (was : IsShard v) (value : CallValue) (new old : ℕ) where
  -- no entry was made for the new call
  pub only_more_room : (before : List (ℕ × CallRecord)) → ((c : ℕ) → record_in before c ≡ record_in v.call_table c) → (events : List Event) → events ≡ v.history → (after : Next)
      → IsSameNext (next.Ended value) after
      → IsShard (record v { call_table = before; history = events })
      × IsStep u (record v { call_table = before; history = events }) (next.Ended value) after (begin new old) (Err NoMemory)
  only_more_room before same events history after handed_back =
      subst (λ (x : ShardValue). IsShard (record v { call_table = before; history = events })
      × IsStep x (record v { call_table = before; history = events }) (next.Ended value) after (begin new old) (Err NoMemory)) is
      (subst (λ (es : List Event). IsShard (record v { call_table = before; history = es })
      × IsStep v (record v { call_table = before; history = es }) (next.Ended value) after (begin new old) (Err NoMemory)) (sym history)
      (back_kept v was value new old before same, (tt, (back_unchanged v was value new old before same, handed_back))))

  -- the gateway refused it
  pub refused_by : (before : List (ℕ × CallRecord)) → ((c : ℕ) → record_in before c ≡ record_in v.call_table c) → (h : GatewayValue) (why : BeginFault) → IsBegun v.gateway old new h (Err why)
      → (told : Refusal) → told ≡ refusal_of why → (events : List Event) → events ≡ v.history → (after : Next) → IsSameNext (next.Ended value) after
      → IsShard (record v { gateway = h; call_table = before; history = events })
      × IsStep u (record v { gateway = h; call_table = before; history = events }) (next.Ended value) after (begin new old) (Err told)
  refused_by before same h why b told told_as events history after handed_back =
      subst (λ (x : ShardValue). IsShard (record v { gateway = h; call_table = before; history = events })
      × IsStep x (record v { gateway = h; call_table = before; history = events }) (next.Ended value) after (begin new old) (Err told)) is
      (subst (λ (es : List Event). IsShard (record v { gateway = h; call_table = before; history = es })
      × IsStep v (record v { gateway = h; call_table = before; history = es }) (next.Ended value) after (begin new old) (Err told)) (sym history)
      (subst (λ (r : Refusal). IsShard (record v { gateway = h; call_table = before })
      × IsStep v (record v { gateway = h; call_table = before }) (next.Ended value) after (begin new old) (Err r)) (sym told_as)
      (begin_refused v was value new old before same h why b after handed_back)))

  -- it began
  module _ (own : value.agent.call ≡ old) (s : CallRecord) (there : record_in v.call_table old ≡ Some s) (ended : has_ended v.script (agent_of s.agent) v.gateway.association ≡ true)
      (before : List (ℕ × CallRecord)) (same : (c : ℕ) → record_in before c ≡ record_in v.call_table c)
      (h : GatewayValue) (b : IsBegun v.gateway old new h (Ok tt)) (entries : List (ℕ × CallRecord)) (x : HandsOver v.script before entries old new s)
      (events : List Event) (history : events ≡ v.history ++ begin new old ∷ []) where
    pub forward_kept : IsShard (record v { gateway = h; call_table = entries; history = events })
    forward_kept = begun_kept v was value new old own s there ended before same h b entries x events history

    pub forward_taken : (roomy : CallValue) → roomy ≡ with_room value → (after : Next) (told : Result Stepped Refusal) → IsBegunBy new roomy after told
        → IsStep u (record v { gateway = h; call_table = entries; history = events }) (next.Ended value) after (begin new old) told
    forward_taken roomy made after told begins =
        subst (λ (y : ShardValue). IsStep y (record v { gateway = h; call_table = entries; history = events }) (next.Ended value) after (begin new old) told) is
        (begun_taken v was value new old own s there ended before same h b entries x events history after told (subst (λ (r : CallValue). IsBegunBy new r after told) made begins))

-- a call with room for its beginning is the same call
pub with_more_room : (value roomy : CallValue) → roomy ≡ with_room value → IsSameNext (next.Ended value) (next.Ended roomy)
with_more_room value roomy made = record {
  kind = refl;
  call = record {
    script = ap (λ (c : CallValue). c.script) made;
    agent = ap (λ (c : CallValue). c.agent) made;
    transcript = ap (λ (c : CallValue). c.transcript) made;
  };
}
