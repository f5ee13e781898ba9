-- Shards that kept their runs, share nothing and were restarted equally often: the merge of their histories is a run of the plan's calls, in which every world
-- is good.
use Rattle.std.proofs.Common.{◌≡◌, ◌∙◌, ◌+◌, ◌<◌, ◌≤◌, ◌++◌, inl, inr, ℕ, suc, Bool, true, false, List, [], ◌∷◌, length, map, refl, sym, ap, subst, arith}
use Rattle.std.specs.Prelude.{◌%◌, ◌==◌, Contains, slice_index_or}
use Rattle.std.proofs.lemmas.Bool.{eq-eqb, true≢false}
use Rattle.std.proofs.lemmas.List.{length-map}
use Rattle.mg_model.proofs.Single.{none_in, first_or_later}
use Rattle.mg_model.specs.Accepted.{IsScript}
use Rattle.mg_model.specs.declared.events.Event.{Event}
use Rattle.mg_model.specs.declared.events.Event.TheVariants.{OfCall, Restart}
use Rattle.mg_model.specs.Numbers.{plan_calls}
use Rattle.mg_model.specs.Plans.{Plan}
use Rattle.mg_model.specs.Script.{Script}
use Rattle.mg_model.specs.Shards.{History, IsEventOf, IsMergedRun, IsShardRun, RunsWithin, Shard, all_calls, cut_at_restarts, histories, merged, restarts_in}
use Rattle.mg_model.specs.World.{AreDistinct, IsOpening, Opened, Runs, World}
use Rattle.mg_merge.specs.Laws.{MergesAreRuns}
use Rattle.mg_safety.specs.Headline.{RunsAreGood}
use Rattle.identifiers.specs.Class.{is_of_class}
use Rattle.plans.specs.Accepted.{IsPlanFor}
use Rattle.run_shards.specs.Shards.{ShardValue, opened_as}
use Rattle.run_account.specs.Comparing.{Agree}
use Rattle.run_account.specs.Finishing.{AreFinished, IsFinished}
use Rattle.run_shards.specs.RunShards.{AreOfRun, IsOfRun}
use Rattle.run_account.specs.FinalState.{HaveLines, IsLeftAmong}
use Rattle.run_shards.specs.Parts.{ArePartsFrom, IsPart, numbers_in, opened_calls}
use Rattle.run_shards.specs.ReportLines.{IsReportOf}
use Rattle.run_account.specs.TakenAll.{EndTogether, HaveTakenAll, ends_of_first}
use Rattle.run_account.specs.Runs.{IsOutcome, IsRunOf, OutcomeValue, is_within, within}
use Rattle.run_shards.specs.Line.{Line}
use Rattle.run_shards.specs.Counting.{AreCounted}
use Rattle.run_shards.specs.declared.shard_count.ShardCount.{ShardCount}
use Rattle.run_account.proofs.AgreedTrails.{trails_agree}
use Rattle.run_account.proofs.ApartParts.{part_numbered, shards_apart}
use Rattle.run_account.proofs.FinishedShards.{all_histories, all_shards, shard_of, shards_from}
use Rattle.run_account.proofs.FinalRuns.{line_left}
use Rattle.run_account.proofs.Passed.{not_past, passed_among}
use Rattle.run_account.proofs.PlayedShards.{all_played, by_logs, restarts_planned}
use Rattle.run_shards.proofs.PartCalls.{all_in_parts, parts_in_all}

-- ---- one more shard

pub finished_more : (restarts : ℕ) (vs : List ShardValue) (v : ShardValue) → AreFinished restarts vs → IsFinished restarts v
    → AreFinished restarts (vs ++ v ∷ [])
finished_more restarts [] v all last = (last, tt)
finished_more restarts (first ∷ more) v (one, all) last = (one, finished_more restarts more v all last)

-- ---- a history has events of its shard's calls alone

own_events : (count number : ℕ) (history : List Event) → ((n : ℕ) → (n % count ≡ number → ⊥) → within n history ≡ [])
    → (event : Event) → Contains history event → IsEventOf (numbers_in count number) event
own_events count number history own Restart among = tt
own_events count number history own (OfCall call happens) among = by_test ((call.0 % plan_calls) % count == number) refl
  where
    by_test : (test : Bool) → ((call.0 % plan_calls) % count == number) ≡ test → test ≡ true
    by_test true is = refl
    by_test false is = absurd (none_in (OfCall call happens) (subst (λ (events : List Event). Contains events (OfCall call happens))
        (own (call.0 % plan_calls) (λ same. true≢false (sym (eq-eqb ((call.0 % plan_calls) % count) number same) ∙ is)))
        (passed_among (is_within (call.0 % plan_calls)) history (OfCall call happens) among (eq-eqb (call.0 % plan_calls) (call.0 % plan_calls) refl))))

-- ---- an opening of the same calls

distinct_too : (script : Script) (calls others : List Opened) → ((one : Opened) → Contains others one → Contains calls one)
    → AreDistinct script calls → AreDistinct script others
distinct_too script calls others there is = record {
  calls_differ = λ one other here among. is.calls_differ one other (there one here) (there other among);
  lines_differ = λ one other here among. is.lines_differ one other (there one here) (there other among);
}

opens_too : (script : Script) (calls others : List Opened) (w : World) → ((one : Opened) → Contains calls one → Contains others one)
    → ((one : Opened) → Contains others one → Contains calls one) → IsOpening script calls w → IsOpening script others w
opens_too script calls others w here there is = record {
  distinct = distinct_too script calls others there is.distinct;
  lines = record {
    held = λ l call. (
      (λ held. let it = (is.lines.held l call).0 held in record { one = it.one; i = it.i; among = here it.one it.among; is_call = it.is_call; within = it.within; is_line = it.is_line }),
      (λ it. (is.lines.held l call).1 record { one = it.one; i = it.i; among = there it.one it.among; is_call = it.is_call; within = it.within; is_line = it.is_line }),
    );
    stand = is.lines.stand;
    armed = is.lines.armed;
    others_null = is.lines.others_null;
  };
  gateway = is.gateway;
  agents = record {
    opened = λ one among. is.agents.opened one (there one among);
    no_other = λ call a has. let it = is.agents.no_other call a has in (it.0, here it.0 it.1, it.2);
  };
  messages = is.messages;
}

-- ---- the whole

module _ (script : Script) (plan : Plan) (restarts : ℕ) (few : length plan.calls ≤ plan_calls) where
  part_of : (number : ℕ) (v : ShardValue) (is : IsFinished restarts v) → IsOfRun script plan.calls plan.shards number v
      → IsPart plan plan.shards number (shard_of plan.shards restarts number v is)
  part_of number v is kept = record {
    calls = kept.of_calls;
    numbers = refl;
    class = is.kept.is_world.class ∙ ap (λ (n : ℕ). is_of_class n v.stride) kept.of_number ∙ ap (λ (n : ℕ). is_of_class number n) kept.of_count;
  }

  pub all_parts : (number : ℕ) (vs : List ShardValue) (all : AreFinished restarts vs) → AreOfRun script plan.calls plan.shards number vs
      → ArePartsFrom plan plan.shards number (shards_from plan.shards restarts number vs all)
  all_parts number [] all kept = tt
  all_parts number (v ∷ more) (one, others) (kept, others_kept) = (part_of number v one kept, all_parts (number + 1) more others others_kept)

  abbrev Went : Shard → Type 0
  Went shard = IsShardRun script shard × (restarts_in shard.history ≡ restarts)

  shard_went : (number : ℕ) (v : ShardValue) (is : IsFinished restarts v) → IsOfRun script plan.calls plan.shards number v
      → ((n : ℕ) → (n % plan.shards ≡ number → ⊥) → within n v.history ≡ []) → Went (shard_of plan.shards restarts number v is)
  shard_went number v is kept own = (
    record {
      opens = subst (λ (s : Script). IsOpening s (map opened_as v.calls) is.kept.is_world.start) kept.of_script is.kept.is_world.opens;
      calls = λ one among. part_numbered plan plan.shards number few one (subst (λ (calls : List Opened). Contains calls one) kept.of_calls among);
      events = own_events plan.shards number v.history own;
      runs = subst (λ (s : Script). RunsWithin s v.history is.kept.is_world.start is.kept.world) kept.of_script (is.lasted is.kept.world is.kept.is_world);
    },
    is.restarted,
  )

  all_went : (number : ℕ) (vs : List ShardValue) (all : AreFinished restarts vs) → AreOfRun script plan.calls plan.shards number vs
      → ((n place : ℕ) → (n % plan.shards ≡ number + place → ⊥) → within n (slice_index_or (map (λ v. v.history) vs) place []) ≡ [])
      → (shard : Shard) → Contains (shards_from plan.shards restarts number vs all) shard → Went shard
  all_went number [] all kept own shard among = absurd (none_in shard among)
  all_went number (v ∷ more) (one, others) (kept, others_kept) own shard among =
      elim (first_or_later (shard_of plan.shards restarts number v one) (shards_from plan.shards restarts (number + 1) more others) shard among) [
        | inl is ↦ subst Went is (shard_went number v one kept (λ n other. own n 0 (λ same. other (let at : number + 0 ≡ number = omega arith in same ∙ at))))
        | inr later ↦ all_went (number + 1) more others others_kept
            (λ n place other. own n (suc place) (λ same. other (let at : number + suc place ≡ number + 1 + place = omega arith in same ∙ at))) shard later
      ]

  merged_shards : MergesAreRuns → (shards : List Shard) → 0 < length shards → IsScript script → ((shard : Shard) → Contains shards shard → Went shard)
      → ArePartsFrom plan plan.shards 0 shards → IsPlanFor script plan → IsMergedRun script shards restarts
  merged_shards law [] some accepted went parts is = absurd (omega (arith, some))
  merged_shards law (first ∷ others) some accepted went parts is =
      law script first others restarts accepted went (shards_apart script plan plan.shards is 0 (first ∷ others) parts)

  accepted : (number : ℕ) (vs : List ShardValue) → 0 < length vs → AreOfRun script plan.calls plan.shards number vs → AreFinished restarts vs
      → IsScript script × RunsAreGood script
  accepted number [] some kept all = absurd (omega (arith, some))
  accepted number (v ∷ more) some (kept, others_kept) (one, others) =
      (subst IsScript kept.of_script one.kept.accepted, subst RunsAreGood kept.of_script one.kept.safe)

  -- the events of a call of the plan stand in the history of its own shard alone
  Own : List ShardValue → Type 0
  Own vs = (n place : ℕ) → (n % plan.shards ≡ place → ⊥) → within n (slice_index_or (map (λ v. v.history) vs) place []) ≡ []

  -- each call of the history is within one of the plan, whose lines have one of it
  all_lines : (v : OutcomeValue) → length v.trails ≡ length plan.calls → IsOutcome v.history v.trails
      → ((number : ℕ) → number < length plan.calls → HaveLines (slice_index_or v.trails number []) v.lines) → HaveLines v.history v.lines
  all_lines v calls outcome told call happens among =
      let number = call.0 % plan_calls in
      let event = OfCall call happens in
      let here : Contains (slice_index_or v.trails number []) event = subst (λ (events : List Event). Contains events event) (outcome number)
      (passed_among (is_within number) v.history event among (eq-eqb number number refl)) in
      told number (omega (arith, not_past v.trails number event here, calls)) call happens here

  pub is_run : MergesAreRuns → (vs : List ShardValue) (cs : List ShardCount) (v : OutcomeValue) → IsPlanFor script plan → length vs ≡ plan.shards
      → AreOfRun script plan.calls plan.shards 0 vs → AreFinished restarts vs → AreCounted script plan.calls plan.shards 0 vs cs → HaveTakenAll plan 0 cs → EndTogether cs → Agree plan.shards (map (λ w. w.history) vs) v.trails
      → v.history ≡ merged (map cut_at_restarts (map (λ w. w.history) vs)) restarts → length v.trails ≡ length plan.calls
      → IsOutcome v.history v.trails → IsReportOf script plan v.lines
      → ((l : Line) → Contains v.lines l → IsLeftAmong script plan.shards vs v.trails l)
      → ((number : ℕ) → number < length plan.calls → HaveLines (slice_index_or v.trails number []) v.lines) → IsRunOf script plan v
  is_run law vs cs v is sized kept finished counting taken together agree merges calls outcome report left told =
      let all : AreFinished restarts vs = by_logs script plan restarts few 0 vs cs finished kept counting taken in
      let shards = shards_from plan.shards restarts 0 vs all in
      let counted : length shards ≡ plan.shards = all_shards plan.shards restarts 0 vs all ∙ sized in
      let some : 0 < plan.shards = omega (arith, is.some_shard) in
      let of_script = accepted 0 vs (omega (arith, some, sized)) kept all in
      let parts = all_parts 0 vs all kept in
      let went = all_went 0 vs all kept (λ n place other. agree.own n place (λ same. other (let at : 0 + place ≡ place = omega arith in same ∙ sym at))) in
      let run = merged_shards law shards (omega (arith, some, counted)) of_script.0 went parts is in
      let whole : v.history ≡ merged (histories shards) restarts =
      merges ∙ ap (λ (hs : List History). merged hs restarts) (sym (all_histories plan.shards restarts 0 vs all)) in
      let opens : IsOpening script (opened_calls 0 plan.calls) run.start =
      opens_too script (all_calls shards) (opened_calls 0 plan.calls) run.start (parts_in_all plan plan.shards 0 shards parts)
      (all_in_parts plan plan.shards shards some counted parts) run.opens in
      record {
        all_calls = calls;
        shards = shards;
        all_shards = counted;
        parts = parts;
        restarts = restarts;
        planned = restarts_planned script plan restarts few vs cs (omega (arith, some, sized)) finished kept counting taken;
        each = went;
        ends = ends_of_first cs;
        played = all_played script plan restarts few 0 vs cs finished kept counting taken (ends_of_first cs) together;
        merges = whole;
        start = run.start;
        end = run.end;
        opens = opens;
        runs = subst (λ (history : List Event). Runs script history run.start run.end) (sym whole) run.runs;
        report = report;
        all_lines = all_lines v calls outcome told;
        left = λ l among. line_left script plan.shards restarts vs all run v.history v.trails outcome l (left l among);
        good = λ before later w split runs. of_script.1 (opened_calls 0 plan.calls) before run.start w opens runs;
      }

-- each call's events in the one history are its trail
pub is_outcome : (plan : Plan) (restarts : ℕ) (vs : List ShardValue) (history : List Event) (trails : List (List Event)) → 0 < plan.shards → length vs ≡ plan.shards → AreFinished restarts vs
    → Agree plan.shards (map (λ w. w.history) vs) trails → history ≡ merged (map cut_at_restarts (map (λ w. w.history) vs)) restarts → IsOutcome history trails
is_outcome plan restarts vs history trails some sized all agree merges number =
    ap (within number) merges
    ∙ trails_agree plan.shards restarts (map (λ w. w.history) vs) trails (length-map vs (λ w. w.history) ∙ sized) some (restarted vs all) agree number
  where
    restarted : (ws : List ShardValue) → AreFinished restarts ws → (history : List Event) → Contains (map (λ w. w.history) ws) history
        → restarts_in history ≡ restarts
    restarted [] none history among = absurd (none_in history among)
    restarted (w ∷ more) (one, others) history among = elim (first_or_later w.history (map (λ u. u.history) more) history among) [
      | inl is ↦ ap restarts_in (sym is) ∙ one.restarted
      | inr later ↦ restarted more others history later
    ]
