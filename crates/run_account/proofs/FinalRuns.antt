-- What is left of the lines in their shards is left in the world that the merged run ends in.
use Rattle.std.proofs.Common.{◌≡◌, ◌∙◌, ◌+◌, ◌==◌, inl, inr, ℕ, zero, suc, List, [], ◌∷◌, Option, Some, length, sym, ap, subst, arith}
use Rattle.std.specs.Prelude.{◌%◌, Contains, IsTrue, is_some, slice_get, slice_index_or}
use Rattle.std.proofs.lemmas.Bool.{eq-eqb, true≢false}
use Rattle.std.proofs.lemmas.Option.{same_Some}
use Rattle.mg_model.proofs.Single.{first_in, later_in}
use Rattle.mg_model.specs.declared.events.Event.{Event}
use Rattle.mg_model.specs.Numbers.{plan_calls}
use Rattle.mg_model.specs.Reports.{phase_word}
use Rattle.mg_model.specs.Script.{Script}
use Rattle.mg_model.specs.Shards.{IsMergedRun}
use Rattle.mg_model.specs.Tables.{state_of}
use Rattle.mg_model.specs.World.{World}
use Rattle.run_shards.specs.Shards.{ShardValue}
use Rattle.run_account.specs.Finishing.{AreFinished, IsFinished}
use Rattle.run_account.specs.FinalState.{IsLeft, IsLeftAmong, IsLeftIn, call_of}
use Rattle.run_shards.specs.Parts.{numbers_in, of_call}
use Rattle.run_account.specs.Runs.{IsOutcome, is_within}
use Rattle.run_shards.specs.Line.{Line}
use Rattle.run_account.proofs.AgreedTrails.{of_call_in_trail}
use Rattle.run_account.proofs.FinishedShards.{shard_of, shards_from}
use Rattle.run_account.proofs.Passed.{passed_in}

-- ---- a shard of the run

shard_among : (count restarts number : ℕ) (vs : List ShardValue) (all : AreFinished restarts vs) (k : ℕ) (v : ShardValue) → slice_get vs k ≡ Some v
    → (is : IsFinished restarts v) × Contains (shards_from count restarts number vs all) (shard_of count restarts (number + k) v is)
shard_among count restarts number [] all k v there = absurd (true≢false (sym (ap (λ (o : Option ShardValue). is_some o) there)))
shard_among count restarts number (first ∷ more) (one, others) zero v there =
    subst (λ (w : ShardValue). (is : IsFinished restarts w) × Contains (shards_from count restarts number (first ∷ more) (one, others)) (shard_of count restarts (number + 0) w is))
    (same_Some first v there) (
      one,
      subst (λ (n : ℕ). Contains (shards_from count restarts number (first ∷ more) (one, others)) (shard_of count restarts n first one))
          (let same : number ≡ number + 0 = omega arith in same)
          (first_in (shard_of count restarts number first one) (shards_from count restarts (number + 1) more others)),
    )
shard_among count restarts number (first ∷ more) (one, others) (suc k) v there =
    let later = shard_among count restarts (number + 1) more others k v there in (
      later.0,
      subst (λ (n : ℕ). Contains (shards_from count restarts number (first ∷ more) (one, others)) (shard_of count restarts n v later.0))
          (let same : number + 1 + k ≡ number + suc k = omega arith in same)
          (later_in (shard_of count restarts number first one) (shards_from count restarts (number + 1) more others)
          (shard_of count restarts (number + 1 + k) v later.0) later.1),
    )

-- ---- the whole

-- what a world has of a call, another has that agrees with it
left_too : (script : Script) (trail history : List Event) (w end : World) (l : Line) → end.gateway.association ≡ w.gateway.association
    → end.agent (call_of l) ≡ w.agent (call_of l) → ((event : Event) → Contains trail event → Contains history event)
    → IsLeftIn script trail w l → IsLeftIn script history end l
left_too script trail history w end l association agent among (inl is) = inl (record {
  agent = is.agent;
  open_call = agent ∙ is.open_call;
  state = is.state;
  phase = is.phase ∙ ap (λ (n : ℕ). phase_word (is.agent.association == n) (state_of script is.agent.state).is_end is.agent.phase) (sym association);
})
left_too script trail history w end l association agent among (inr (gone, closed)) = inr (
  record { next = gone.next; begun_on = among _ gone.begun_on; phase = gone.phase; ended = gone.ended },
  agent ∙ closed,
)

pub line_left : (script : Script) (count restarts : ℕ) (vs : List ShardValue) (all : AreFinished restarts vs)
    → (run : IsMergedRun script (shards_from count restarts 0 vs all) restarts)
    → (history : List Event) (trails : List (List Event)) → IsOutcome history trails → (l : Line) → IsLeftAmong script count vs trails l → IsLeft script history run.end l
line_left script count restarts vs all run history trails outcome l is =
    let found = shard_among count restarts 0 vs all (l.call % count) is.shard is.own_shard in
    let agrees = run.agrees (shard_of count restarts (0 + l.call % count) is.shard found.0) found.1 in record {
      events = is.is_left.events ∙ ap (λ (number : ℕ). length (of_call (call_of l) (slice_index_or trails number []))) (sym is.is_left.within)
          ∙ ap (λ (events : List Event). length events) (sym (of_call_in_trail history trails (call_of l) outcome));
      left = left_too script (slice_index_or trails l.call []) history found.0.kept.world run.end l agrees.association
          (agrees.agents (call_of l) own)
          (λ event among. passed_in (is_within l.call) history event (subst (λ (events : List Event). Contains events event) (sym (outcome l.call)) among))
          (is.is_left.left found.0.kept.world found.0.kept.is_world);
    }
  where
    own : IsTrue (numbers_in count (0 + l.call % count) (call_of l))
    own = eq-eqb ((call_of l % plan_calls) % count) (0 + l.call % count)
        (ap (λ (n : ℕ). n % count) is.is_left.within ∙ (let same : l.call % count ≡ 0 + l.call % count = omega arith in same))
