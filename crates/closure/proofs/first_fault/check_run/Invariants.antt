-- The points of the entries so far break nothing, and so many are there.
use Rattle.std.proofs.Common.{◌≡◌, ◌+◌, ◌*◌, ◌^◌, ◌≤◌}
use Rattle.closure.specs.Runs.{RunHasPoints, RunIsKept}
use Rattle.closure.proofs.first_fault.check_run.Given as goal

abbrev pub invariant-loop-place : goal.invariant-loop-place
invariant-loop-place l = record {
  same : l.covering.entries ≡ l.cert;
  from : l.first ≤ l.place;
  within : l.first ≤ l.last → l.place ≤ l.last;
  fits : l.points + l.first * 2 ^ 32 ≤ l.place * 2 ^ 32;
  kept : RunIsKept l.script l.cert l.first l.place;
  counted : RunHasPoints l.cert l.first l.place l.points;
}
