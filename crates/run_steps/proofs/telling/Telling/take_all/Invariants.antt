-- The steps so far are told.
use Rattle.std.proofs.Common.{take}
use Rattle.run_steps.specs.Telling.{TellsOn}
use Rattle.run_steps.proofs.telling.Telling.take_all.Given as goal

abbrev pub invariant-loop-step : goal.invariant-loop-step
invariant-loop-step l = TellsOn (take l.step-index l.steps) l.fn.self l.telling
