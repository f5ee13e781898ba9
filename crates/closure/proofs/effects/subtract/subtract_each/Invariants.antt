-- Termination by termination.
use Rattle.std.proofs.Common.{◌≡◌, drop}
use Rattle.mg_model.specs.Configuration.{terminations}
use Rattle.configuration.specs.Config.{configuration_of}
use Rattle.closure.specs.Elementwise.{subtracted_each}
use Rattle.closure.proofs.effects.subtract.subtract_each.Given as goal

-- what is left to do makes of the configuration now what the whole makes of the one at the start
abbrev pub invariant-loop-termination : goal.invariant-loop-termination
invariant-loop-termination l =
    (l.termination-items ≡ terminations)
    × (subtracted_each l.context (configuration_of l.config) (drop l.termination-index l.termination-items)
    ≡ subtracted_each l.context (configuration_of l.initial.config) terminations)
