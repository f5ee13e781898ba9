-- The steps of the epochs so far are told.
use Rattle.mg_model.specs.Plans.{steps_in}
use Rattle.run_steps.specs.Telling.{TellsOn}
use Rattle.run_steps.proofs.telling.Telling.take_epochs.Given as goal

abbrev pub invariant-loop-epoch : goal.invariant-loop-epoch
invariant-loop-epoch l = TellsOn (steps_in l.epoch l.epochs) l.fn.self l.telling
