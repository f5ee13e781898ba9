-- Nothing of the plan is told so far.
use Rattle.std.proofs.Common.{[]}
use Rattle.run_steps.specs.Telling.{TellsOn}
use Rattle.run_steps.proofs.telling.Telling.wait_for.Given as goal

abbrev pub invariant-loop : goal.invariant-loop
invariant-loop l = TellsOn [] l.fn.self l.telling
