-- The law: association by association, with one restart of all between two, the histories of the shards are one run of all their calls.
use Rattle.std.proofs.Common.{◌≡◌, ◌∙◌, ◌+◌, ◌<◌, ℕ, zero, suc, List, [], ◌∷◌, refl, sym, ap, subst, inl, inr, Contains}
use Rattle.mg_merge.proofs.Words.{AgreesWith, All-contains_itself, All-weaker, AreAllApart, Event, History, IsEventOf, IsScript, IsShardRun, Restart, Runs}
use Rattle.mg_merge.proofs.Words.{RunsWithin, Script, Shard, World, cut_at_restarts, first_in, first_or_later, histories, last_association, later_in}
use Rattle.mg_merge.proofs.Words.{merged_from, none_in, restarted, restarts_in, with_gateway}
use Rattle.mg_merge.specs.Laws.{MergesAreRuns}
use Rattle.mg_merge.proofs.Shards.Histories.{after_restart, all_after, all_before, all_cut, first_together, later_merged, later_own, none_left, one_left, runs_after}
use Rattle.mg_merge.proofs.Shards.Lanes.{Lane, scope_in, Each, AreAllSeparate, rests, each_both, Begins, Stops, all_pass}
use Rattle.mg_merge.proofs.Shards.MergedOpening.{merged_start, start_beside, start_merge, opens}
use Rattle.mg_merge.proofs.Shards.Opening.{separate, start_contained}
use Rattle.mg_merge.proofs.Events.Restarts.{contained_restarted, beside_restarted, merge_restarted}
use Rattle.mg_merge.proofs.Scopes.{scope_of, AreSeparate}
use Rattle.mg_merge.proofs.Events.Worlds.{IsContained, IsMerge}

-- ---- lanes after a restart

abbrev later_lane : Lane → Lane
later_lane lane = record { shard = lane.shard; rest = after_restart lane.rest }

abbrev later_lanes : List Lane → List Lane
later_lanes [] = []
later_lanes (lane ∷ more) = later_lane lane ∷ later_lanes more

later_rests : (lanes : List Lane) → rests (later_lanes lanes) ≡ all_after (rests lanes)
later_rests [] = refl
later_rests (lane ∷ more) = ap (λ (all : List (List Event)). after_restart lane.rest ∷ all) (later_rests more)

-- what holds of each after is what holds of each before, where only the shards matter
each_later : (P Q : Lane → Type 0) → ((lane : Lane) → P lane → Q (later_lane lane)) → (lanes : List Lane) → Each P lanes → Each Q (later_lanes lanes)
each_later P Q on [] each = each
each_later P Q on (lane ∷ more) each = (on lane each.0, each_later P Q on more each.1)

each_back : (P Q : Lane → Type 0) → ((lane : Lane) → P (later_lane lane) → Q lane) → (lanes : List Lane) → Each P (later_lanes lanes) → Each Q lanes
each_back P Q on [] each = each
each_back P Q on (lane ∷ more) each = (on lane each.0, each_back P Q on more each.1)

later_separate : (lanes : List Lane) → AreAllSeparate lanes → AreAllSeparate (later_lanes lanes)
later_separate [] apart = apart
later_separate (lane ∷ more) apart = (
  each_later (λ (other : Lane). AreSeparate (scope_in lane) (scope_in other)) (λ (other : Lane). AreSeparate (scope_in lane) (scope_in other))
      (λ other far. far) more apart.0,
  later_separate more apart.1,
)

-- each is restarted as often
abbrev IsRestarted : ℕ → Lane → Type 0
IsRestarted restarts lane = restarts_in lane.rest ≡ restarts

-- a shard that stops before a restart goes on after it, beside the merge that was restarted
restarts_on : (script : Script) (m : World) (restarts : ℕ) (lane : Lane) → IsRestarted (suc restarts) lane → Stops script m lane
    → (m.gateway.association < last_association) × Begins script (with_gateway m (restarted m.gateway)) (later_lane lane)
unfolding RunsWithin
restarts_on script m restarts lane is stops =
    let parts = one_left lane.rest restarts is in
    let runs : RunsWithin script (Restart ∷ after_restart lane.rest) stops.world lane.shard.end =
    subst (λ (events : List Event). RunsWithin script events stops.world lane.shard.end) parts.0 stops.runs in
    let next = runs.1.0 in
    let occurs = runs.1.1.0 in (
      subst (λ (n : ℕ). n < last_association) (sym stops.along.association) occurs.0,
      record {
        world = next;
        contained = subst (IsContained script (scope_in lane)) (sym occurs.1) (contained_restarted script (scope_in lane) stops.world stops.contained);
        along = rw occurs.1 (beside_restarted (scope_in lane) stops.world m stops.along);
        runs = runs.1.1.1;
        own = later_own (IsEventOf lane.shard.numbers) lane.rest stops.own;
      },
    )

all_begin : (script : Script) (m : World) (restarts : ℕ) (lanes : List Lane) → Each (IsRestarted (suc restarts)) lanes → Each (Stops script m) lanes
    → Each (Begins script (with_gateway m (restarted m.gateway))) (later_lanes lanes)
all_begin script m restarts [] are stop = are
all_begin script m restarts (lane ∷ more) are stop =
    ((restarts_on script m restarts lane are.0 stop.0).1, all_begin script m restarts more are.1 stop.1)

-- ---- where all have ended

-- the merge agrees with the shard
abbrev Agrees : World → Lane → Type 0
Agrees m lane = AgreesWith m lane.shard

ends_with : (script : Script) (m : World) (lane : Lane) → IsRestarted 0 lane → Stops script m lane → Agrees m lane
unfolding RunsWithin
ends_with script m lane is stops =
    let end : lane.shard.end ≡ stops.world =
    subst (λ (events : List Event). RunsWithin script events stops.world lane.shard.end) (none_left lane.rest is) stops.runs in
    record {
      association = stops.along.association ∙ sym (ap (λ (w : World). w.gateway.association) end);
      agents = λ call own. stops.along.agent call own ∙ sym (ap (λ (w : World). w.agent call) end);
    }

-- ---- the merge

record IsMerged (script : Script) (lanes : List Lane) (restarts : ℕ) (m : World) : Type 0 where
  pub end : World
  pub runs : Runs script (merged_from (all_cut (rests lanes)) 0 restarts) m end
  pub agrees : Each (Agrees end) lanes

-- an association of all, and then the others
all_merge : (script : Script) → IsScript script → (restarts : ℕ) (first : Lane) (others : List Lane) → AreAllSeparate (first ∷ others) → (m : World)
    → IsMerge m → Each (IsRestarted restarts) (first ∷ others) → Each (Begins script m) (first ∷ others) → IsMerged script (first ∷ others) restarts m
unfolding merged_from Runs
all_merge script is zero first others apart m merge are begin =
    let passed = all_pass script is (first ∷ others) apart m merge begin in
    record {
      end = passed.merged;
      runs = subst (λ (events : List Event). Runs script events m passed.merged) (sym (first_together (rests (first ∷ others)))) passed.went;
      agrees = each_both (IsRestarted 0) (Stops script passed.merged) (Agrees passed.merged) (ends_with script passed.merged) (first ∷ others) are passed.each;
    }
all_merge script is (suc restarts) first others apart m merge are begin =
    let passed = all_pass script is (first ∷ others) apart m merge begin in
    let one = restarts_on script passed.merged restarts first are.0 passed.each.0 in
    let next : World = with_gateway passed.merged (restarted passed.merged.gateway) in
    let counts : Each (IsRestarted restarts) (later_lanes (first ∷ others)) = each_later (IsRestarted (suc restarts)) (IsRestarted restarts)
    (λ lane more. (one_left lane.rest restarts more).1) (first ∷ others) are in
    let rest = all_merge script is restarts (later_lane first) (later_lanes others) (later_separate (first ∷ others) apart) next
    (merge_restarted passed.merged) counts (all_begin script passed.merged restarts (first ∷ others) are passed.each) in
    let later : Runs script (merged_from (all_cut (rests (first ∷ others))) (0 + 1) restarts) next rest.end =
    subst (λ (events : List Event). Runs script events next rest.end)
    (ap (λ (all : List (List Event)). merged_from (all_cut all) 0 restarts) (later_rests (first ∷ others))
    ∙ sym (later_merged (rests (first ∷ others)) 0 restarts)) rest.runs in
    record {
      end = rest.end;
      runs = rw (first_together (rests (first ∷ others)))
          (runs_after script (all_before (rests (first ∷ others))) (Restart ∷ merged_from (all_cut (rests (first ∷ others))) (0 + 1) restarts) m
          passed.merged rest.end passed.went (next, ((one.0, refl), later)));
      agrees = each_back (Agrees rest.end) (Agrees rest.end) (λ lane agrees. agrees) (first ∷ others) rest.agrees;
    }

-- ---- the shards

abbrev lane_of : Shard → Lane
lane_of shard = record { shard = shard; rest = shard.history }

abbrev lanes_of : List Shard → List Lane
lanes_of [] = []
lanes_of (shard ∷ more) = lane_of shard ∷ lanes_of more

cut_all : (shards : List Shard) → all_cut (rests (lanes_of shards)) ≡ histories shards
cut_all [] = refl
cut_all (shard ∷ more) = ap (λ (all : List History). cut_at_restarts shard.history ∷ all) (cut_all more)

each_of : (P : Lane → Type 0) (shards : List Shard) → ((shard : Shard) → Contains shards shard → P (lane_of shard)) → Each P (lanes_of shards)
each_of P [] all = tt
each_of P (shard ∷ more) all = (all shard (first_in shard more), each_of P more (λ other there. all other (later_in shard more other there)))

one_of : (P : Lane → Type 0) (shards : List Shard) → Each P (lanes_of shards) → (shard : Shard) → Contains shards shard → P (lane_of shard)
one_of P [] each shard there = absurd (none_in shard there)
one_of P (first ∷ more) each shard there = elim (first_or_later first more shard there) [
  | inl is ↦ subst (λ (x : Shard). P (lane_of x)) is each.0
  | inr later ↦ one_of P more each.1 shard later
]

all_separate : (script : Script) (shards : List Shard) → ((shard : Shard) → Contains shards shard → IsShardRun script shard) → AreAllApart script shards
    → AreAllSeparate (lanes_of shards)
unfolding AreAllApart
all_separate script [] runs apart = tt
all_separate script (shard ∷ more) runs apart = (
  each_of (λ (other : Lane). AreSeparate (scope_of shard) (scope_in other)) more
      (λ other there. separate script shard other (runs shard (first_in shard more)) (runs other (later_in shard more other there)) (apart.0 other there)),
  all_separate script more (λ other there. runs other (later_in shard more other there)) apart.1,
)

-- where the shards are apart, and were restarted as often, the merge of their histories is a run
pub merges : MergesAreRuns
merges script first others restarts is each apart =
    let shards : List Shard = first ∷ others in
    let runs : (shard : Shard) → Contains shards shard → IsShardRun script shard = λ shard there. (each shard there).0 in
    let begin : Each (Begins script (merged_start shards)) (lanes_of shards) = each_of (Begins script (merged_start shards)) shards (λ shard there. record {
      world = shard.start;
      contained = start_contained script shard (runs shard there);
      along = start_beside script shards runs apart shard there;
      runs = (runs shard there).runs;
      own = All-weaker (Contains shard.history) (IsEventOf shard.numbers) (runs shard there).events shard.history (All-contains_itself shard.history);
    }) in
    let it = all_merge script is restarts (lane_of first) (lanes_of others) (all_separate script shards runs apart) (merged_start shards)
    (start_merge shards) (each_of (IsRestarted restarts) shards (λ shard there. (each shard there).1)) begin in
    record {
      start = merged_start shards;
      end = it.end;
      opens = opens script shards runs apart;
      runs = subst (λ (all : List History). Runs script (merged_from all 0 restarts) (merged_start shards) it.end) (cut_all shards) it.runs;
      agrees = λ shard there. one_of (Agrees it.end) shards it.agrees shard there;
    }
