-- The shards of a run by their logs: each goes from the opening where its log begins to the world where it ends, and its log has the plan's steps.
use Rattle.std.proofs.Common.{◌≡◌, ◌∙◌, ◌+◌, ◌<◌, ◌≤◌, inl, inr, ℕ, suc, true, List, [], ◌∷◌, Some, length, map, sym, ap, subst, arith}
use Rattle.std.specs.Prelude.{◌%◌, ◌==◌, max, slice_get, slice_index_or, Contains, IsTrue}
use Rattle.std.proofs.Math.Nat.{le-max_right, mod-eq_of_lt}
use Rattle.std.proofs.lemmas.Bool.{eqb-true}
use Rattle.std.proofs.lemmas.Option.{slice_get_within}
use Rattle.mg_model.proofs.Single.{first_in, first_or_later, later_in, none_in}
use Rattle.mg_model.specs.declared.events.Event.{Event}
use Rattle.mg_model.specs.Numbers.{plan_calls}
use Rattle.mg_model.specs.Plans.{Plan, PlanCall, epochs_of, restarts_of_all}
use Rattle.mg_model.specs.Script.{Script}
use Rattle.mg_model.specs.Shards.{Shard, restarts_in}
use Rattle.mg_model.specs.World.{IsOpening, Opened, Runs}
use Rattle.identifiers.specs.Class.{is_of_class}
use Rattle.run_shards.specs.Shards.{IsWorldOf, ShardValue, opened_as}
use Rattle.run_shards.specs.RunShards.{AreOfRun, IsOfRun}
use Rattle.run_shards.specs.Counting.{AreCounted, IsLogged, all_restarts_logged, epochs_logged, steps_taken}
use Rattle.run_shards.specs.declared.shard_count.ShardCount.{ShardCount}
use Rattle.run_shards.proofs.EpochSteps.{call_over}
use Rattle.run_shards.proofs.LogLemmas.{restarts_of_log, runs_of_log}
use Rattle.run_shards.proofs.StepLemmas.{epochs_within}
use Rattle.run_account.specs.Finishing.{AreFinished, IsFinished}
use Rattle.run_account.specs.Runs.{IsPlayed}
use Rattle.run_account.specs.TakenAll.{HasTakenAll, HaveTakenAll}
use Rattle.run_account.proofs.FinishedShards.{shard_of, shards_from}

module _ (script : Script) (plan : Plan) (restarts : ℕ) (few : length plan.calls ≤ plan_calls) where
  abbrev Logged : ℕ → ShardValue → ShardCount → Type 0
  Logged number v c = IsLogged script plan.calls plan.shards number v c

  -- ---- one shard

  -- it shows the world where its log ends
  abbrev world_of : (number : ℕ) (v : ShardValue) (c : ShardCount) (is : IsFinished restarts v) → IsOfRun script plan.calls plan.shards number v
      → (l : Logged number v c) → IsWorldOf v l.end
  world_of number v c is kept l = record {
    start = l.start;
    opens = subst (λ (s : Script). IsOpening s (map opened_as v.calls) l.start) (sym kept.of_script)
        (subst (λ (os : List Opened). IsOpening script os l.start) (sym kept.of_calls) l.opens);
    class = l.class ∙ ap (λ (n : ℕ). is_of_class number n) (sym kept.of_count) ∙ ap (λ (n : ℕ). is_of_class n v.stride) (sym kept.of_number);
    runs = subst (λ (s : Script). Runs s v.history l.start l.end) (sym kept.of_script)
        (subst (λ (events : List Event). Runs script events l.start l.end) (sym l.events) (runs_of_log script l.log l.start l.end (l.runs is.executes)));
    shows = l.shown.shows;
  }

  abbrev by_log : (number : ℕ) (v : ShardValue) (c : ShardCount) → IsFinished restarts v → IsOfRun script plan.calls plan.shards number v → Logged number v c
      → IsFinished restarts v
  by_log number v c is kept l = record {
    kept = record {
      accepted = is.kept.accepted;
      few_commands = is.kept.few_commands;
      safe = is.kept.safe;
      within = is.kept.within;
      few_shards = is.kept.few_shards;
      world = l.end;
      is_world = world_of number v c is kept l;
      counts = is.kept.counts;
    };
    lasted = is.lasted;
    restarted = is.restarted;
    executes = is.executes;
  }

  module _ (number : ℕ) (v : ShardValue) (c : ShardCount) (is : IsFinished restarts v) (kept : IsOfRun script plan.calls plan.shards number v)
      (l : Logged number v c) (taken : HasTakenAll plan number c) where
    -- a call of the plan has the number that it has there
    own_call : (first : ℕ) (call : PlanCall) → slice_get plan.calls first ≡ Some call → ((first % plan_calls) % plan.shards == number) ≡ true → first % plan.shards ≡ number
    own_call first call at own =
        let there = slice_get_within plan.calls first call at in
        let below : first < plan_calls = omega (arith, few, there) in
        ap (λ (n : ℕ). n % plan.shards) (sym (mod-eq_of_lt below))
        ∙ eqb-true ((first % plan_calls) % plan.shards) number own

    all_taken : (first : ℕ) (call : PlanCall) → slice_get plan.calls first ≡ Some call → IsTrue ((first % plan_calls) % plan.shards == number)
        → (epoch : ℕ) → steps_taken first l.log epoch ≡ slice_index_or call.epochs epoch []
    all_taken first call at own epoch =
        let mine = own_call first call at own in
        l.taken first call at mine epoch
        ∙ call_over plan.calls first c.epoch (slice_index_or c.places.items first 0) call epoch at (taken.ended first mine) few_epochs
      where
        few_epochs : length call.epochs ≤ suc c.epoch
        few_epochs =
            let within = epochs_within plan.calls first call at in
            let most : epochs_of plan.calls ≤ max 1 (epochs_of plan.calls) = le-max_right 1 (epochs_of plan.calls) in
            omega (arith, within, most, taken.epochs)

    pub shard_played : IsPlayed script plan c.ends.items (shard_of plan.shards restarts number v (by_log number v c is kept l))
    shard_played = record {
      log = l.log;
      runs = l.runs is.executes;
      events = l.events;
      epochs = ap (λ (n : ℕ). n + 1) l.epochs ∙ taken.epochs;
      restarts = l.restarts ∙ taken.restarts;
      ended = l.ends;
      taken = all_taken;
    }

    -- it was restarted as often as the plan says
    pub planned_restarts : restarts + 1 ≡ max 1 (epochs_of plan.calls) + restarts_of_all plan.calls
    planned_restarts =
        let all : restarts ≡ epochs_logged l.log + all_restarts_logged l.log =
        sym is.restarted ∙ ap restarts_in l.events ∙ restarts_of_log script l.log l.start l.end (l.runs is.executes) in
        omega (arith, all, l.epochs, l.restarts, taken.epochs, taken.restarts)

  -- ---- all of them

  abbrev pub by_logs : (number : ℕ) (vs : List ShardValue) (cs : List ShardCount) → AreFinished restarts vs → AreOfRun script plan.calls plan.shards number vs
      → AreCounted script plan.calls plan.shards number vs cs → HaveTakenAll plan number cs → AreFinished restarts vs
  by_logs number [] cs all kept counted taken = tt
  by_logs number (v ∷ more) [] all kept counted taken = absurd counted
  by_logs number (v ∷ more) (c ∷ cs) (one, others) (kept, others_kept) (counted, others_counted) (taken, others_taken) = (
    by_log number v c one kept (counted.logged taken.whole),
    by_logs (number + 1) more cs others others_kept others_counted others_taken,
  )

  pub all_played : (number : ℕ) (vs : List ShardValue) (cs : List ShardCount) (all : AreFinished restarts vs) (kept : AreOfRun script plan.calls plan.shards number vs)
      (counted : AreCounted script plan.calls plan.shards number vs cs) (taken : HaveTakenAll plan number cs) (ends : List ℕ)
      → ((c : ShardCount) → Contains cs c → c.ends.items ≡ ends)
      → (shard : Shard) → Contains (shards_from plan.shards restarts number vs (by_logs number vs cs all kept counted taken)) shard → IsPlayed script plan ends shard
  all_played number [] cs all kept counted taken ends together shard among = absurd (none_in shard among)
  all_played number (v ∷ more) [] all kept counted taken ends together shard among = absurd counted
  all_played number (v ∷ more) (c ∷ cs) (one, others) (kept, others_kept) (counted, others_counted) (taken, others_taken) ends together shard among =
      elim (first_or_later (shard_of plan.shards restarts number v (by_log number v c one kept (counted.logged taken.whole)))
      (shards_from plan.shards restarts (number + 1) more (by_logs (number + 1) more cs others others_kept others_counted others_taken)) shard among) [
        | inl same ↦ subst (IsPlayed script plan ends) same
            (subst (λ (es : List ℕ). IsPlayed script plan es (shard_of plan.shards restarts number v (by_log number v c one kept (counted.logged taken.whole))))
            (together c (first_in c cs)) (shard_played number v c one kept (counted.logged taken.whole) taken))
        | inr later ↦ all_played (number + 1) more cs others others_kept others_counted others_taken ends (λ d among_them. together d (later_in c cs d among_them)) shard later
      ]

  pub restarts_planned : (vs : List ShardValue) (cs : List ShardCount) → 0 < length vs → AreFinished restarts vs → AreOfRun script plan.calls plan.shards 0 vs
      → AreCounted script plan.calls plan.shards 0 vs cs → HaveTakenAll plan 0 cs → restarts + 1 ≡ max 1 (epochs_of plan.calls) + restarts_of_all plan.calls
  restarts_planned [] cs some all kept counted taken = absurd (omega (arith, some))
  restarts_planned (v ∷ more) [] some all kept counted taken = absurd counted
  restarts_planned (v ∷ more) (c ∷ cs) some (one, others) (kept, others_kept) (counted, others_counted) (taken, others_taken) =
      planned_restarts 0 v c one kept (counted.logged taken.whole) taken
