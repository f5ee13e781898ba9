-- With those of the moves that are left the configurations so far are all.
use Rattle.std.proofs.Common.{◌≡◌, ◌++◌, drop, map}
use Rattle.mg_model.specs.Configuration.{Configuration}
use Rattle.mg_model.specs.Steps.{opening}
use Rattle.call_ways.specs.Ways.{shown}
use Rattle.call_ways.specs.declared.way.Move.{Move}
use Rattle.explanation.specs.Causes.{along}
use Rattle.explanation.specs.Shown.{values_of}
use Rattle.explanation.proofs.through.along.Given as goal

abbrev pub invariant-loop-step : goal.invariant-loop-step
invariant-loop-step l =
    values_of l.configs.items ++ map (λ (step : Move × Configuration). step.1) (shown (drop l.step-index l.way)) ≡ along (opening l.script) (shown l.way)
