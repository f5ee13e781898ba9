-- As many steps were begun as were counted.
use Rattle.std.proofs.Common.{◌≡◌, ◌+◌, ◌<◌}
use Rattle.workers.proofs.worker.turn.Given as goal

abbrev pub invariant-loop : goal.invariant-loop
invariant-loop g l = l.fn.planned.log.place + 8 < 18446744073709551616 → l.planned.log.place ≡ l.fn.planned.log.place + l.counter
