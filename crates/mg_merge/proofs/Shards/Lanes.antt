-- The shards side by side, each with what is left of its history: one association of all of them in the merge, shard after shard.
use Rattle.std.proofs.Common.{List, [], ◌∷◌, refl}
use Rattle.mg_merge.proofs.Words.{All, All-head, All-tail, Event, IsEventOf, IsScript, OfCall, Runs, RunsWithin, Script, Shard, World}
use Rattle.mg_merge.proofs.Events.CallEvents.{call_follows}
use Rattle.mg_merge.proofs.Shards.Histories.{before_restart, from_restart, all_before, runs_after}
use Rattle.mg_merge.proofs.Shards.Opening.{turned}
use Rattle.mg_merge.proofs.Scopes.{Scope, scope_of, AreSeparate}
use Rattle.mg_merge.proofs.Events.Worlds.{IsContained, IsBeside, IsMerge, others_beside}

-- a shard, and what is left of its history
pub record Lane : Type 0 where
  pub shard : Shard
  pub rest : List Event

abbrev pub scope_in : Lane → Scope
scope_in lane = scope_of lane.shard

-- what holds of each
abbrev pub Each : (Lane → Type 0) → List Lane → Type 0
Each P [] = Unit {0}
Each P (lane ∷ more) = P lane × Each P more

abbrev pub AreAllSeparate : List Lane → Type 0
AreAllSeparate [] = Unit {0}
AreAllSeparate (lane ∷ more) = Each (λ (other : Lane). AreSeparate (scope_in lane) (scope_in other)) more × AreAllSeparate more

abbrev pub rests : List Lane → List (List Event)
rests [] = []
rests (lane ∷ more) = lane.rest ∷ rests more

pub each_on : (P Q : Lane → Type 0) → ((lane : Lane) → P lane → Q lane) → (lanes : List Lane) → Each P lanes → Each Q lanes
each_on P Q on [] each = each
each_on P Q on (lane ∷ more) each = (on lane each.0, each_on P Q on more each.1)

pub each_both : (P Q R : Lane → Type 0) → ((lane : Lane) → P lane → Q lane → R lane) → (lanes : List Lane) → Each P lanes → Each Q lanes → Each R lanes
each_both P Q R both [] first second = first
each_both P Q R both (lane ∷ more) first second = (both lane first.0 second.0, each_both P Q R both more first.1 second.1)

-- a world from which the shard goes on with these events, beside the merge
pub record GoesOn (script : Script) (m : World) (lane : Lane) (events : List Event) : Type 0 where
  pub world : World
  pub contained : IsContained script (scope_in lane) world
  pub along : IsBeside (scope_in lane) world m
  pub runs : RunsWithin script events world lane.shard.end
  pub own : All (IsEventOf lane.shard.numbers) lane.rest

-- ---- the part of one shard

-- the shard's part of an association in the merge
pub record HasPassed (script : Script) (s : Scope) (rest : List Event) (end m : World) : Type 0 where
  pub merged : World
  pub world : World
  pub went : Runs script (before_restart rest) m merged
  pub contained : IsContained script s world
  pub along : IsBeside s world merged
  pub merge : IsMerge merged
  pub others : (u : Scope) (v : World) → AreSeparate s u → IsBeside u v m → IsBeside u v merged
  pub runs : RunsWithin script (from_restart rest) world end

pub passes : (script : Script) → IsScript script → (s : Scope) (end : World) (rest : List Event) (w m : World) → All (IsEventOf s.numbers) rest
    → IsContained script s w → IsBeside s w m → IsMerge m → RunsWithin script rest w end → HasPassed script s rest end m
unfolding Runs RunsWithin
passes script is s end (OfCall call happens ∷ more) w m own contained along merge (left, (next, (occurs, later))) =
    let it = call_follows script is s w m contained along merge left call.0 (All-head (IsEventOf s.numbers) (OfCall call happens) more own) next happens occurs in
    let on = passes script is s end more next it.merged (All-tail (IsEventOf s.numbers) (OfCall call happens) more own) it.contained it.along it.merge later in
    record {
      merged = on.merged;
      world = on.world;
      went = (it.merged, (it.happens, on.went));
      contained = on.contained;
      along = on.along;
      merge = on.merge;
      others = λ u v apart beside. on.others u v apart
          (others_beside s u apart script next v m it.merged it.contained it.along it.others beside);
      runs = on.runs;
    }
passes script is s end rest w m own contained along merge runs = record {
  merged = m;
  world = w;
  went = refl;
  contained = contained;
  along = along;
  merge = merge;
  others = λ u v apart beside. beside;
  runs = runs;
}

-- ---- one association of all

abbrev pub Begins : Script → World → Lane → Type 0
Begins script m lane = GoesOn script m lane lane.rest

abbrev pub Stops : Script → World → Lane → Type 0
Stops script m lane = GoesOn script m lane (from_restart lane.rest)

pub record HaveAllPassed (script : Script) (lanes : List Lane) (m : World) : Type 0 where
  pub merged : World
  pub went : Runs script (all_before (rests lanes)) m merged
  pub merge : IsMerge merged
  pub each : Each (Stops script merged) lanes
  pub others : (u : Scope) (v : World) → Each (λ (lane : Lane). AreSeparate (scope_in lane) u) lanes → IsBeside u v m → IsBeside u v merged

pub all_pass : (script : Script) → IsScript script → (lanes : List Lane) → AreAllSeparate lanes → (m : World) → IsMerge m
    → Each (Begins script m) lanes → HaveAllPassed script lanes m
unfolding Runs
all_pass script is [] apart m merge each = record {
  merged = m;
  went = refl;
  merge = merge;
  each = tt;
  others = λ u v apart beside. beside;
}
all_pass script is (lane ∷ more) apart m merge (lane_begins, more_begin) =
    let one = passes script is (scope_in lane) lane.shard.end lane.rest lane_begins.world m lane_begins.own lane_begins.contained lane_begins.along merge
    lane_begins.runs in
    let carried : Each (Begins script one.merged) more = each_both (λ (other : Lane). AreSeparate (scope_in lane) (scope_in other)) (Begins script m)
    (Begins script one.merged) (λ other far begins. record {
      world = begins.world;
      contained = begins.contained;
      along = one.others (scope_in other) begins.world far begins.along;
      runs = begins.runs;
      own = begins.own;
    }) more apart.0 more_begin in
    let rest = all_pass script is more apart.1 one.merged one.merge carried in
    record {
      merged = rest.merged;
      went = runs_after script (before_restart lane.rest) (all_before (rests more)) m one.merged rest.merged one.went rest.went;
      merge = rest.merge;
      each = (
        record {
          world = one.world;
          contained = one.contained;
          along = rest.others (scope_in lane) one.world
              (each_on (λ (other : Lane). AreSeparate (scope_in lane) (scope_in other)) (λ (other : Lane). AreSeparate (scope_in other) (scope_in lane))
              (λ other far. turned (scope_in lane) (scope_in other) far) more apart.0) one.along;
          runs = one.runs;
          own = lane_begins.own;
        },
        rest.each,
      );
      others = λ u v far beside. rest.others u v far.1 (one.others u v far.0 beside);
    }
