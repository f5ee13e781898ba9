-- No trail so far of a call of the shard goes on behind its place.
use Rattle.std.proofs.Common.{◌≡◌, ◌<◌, ◌≤◌, ℕ, length}
use Rattle.std.specs.Prelude.{◌%◌}
use Rattle.run_account.specs.Comparing.{place_at, trail_at, trails_of}
use Rattle.run_account.proofs.compare.are_at_end.Given as goal

abbrev pub invariant-loop-number : goal.invariant-loop-number
invariant-loop-number l = (n : ℕ) → n < l.number → n % l.count ≡ l.shard → length (trail_at (trails_of l.planned_calls) n) ≤ place_at l.places n
