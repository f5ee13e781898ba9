-- Termination by termination.
use Rattle.std.proofs.Common.{◌≡◌, drop}
use Rattle.mg_model.specs.Configuration.{terminations}
use Rattle.configuration.specs.Config.{configuration_of}
use Rattle.closure.specs.Emptying.{out_each}
use Rattle.closure.proofs.hull_emptying.out_each.Given as goal

-- what is left to do makes of the configuration now what the whole makes of the one at the start
abbrev pub invariant-loop-termination : goal.invariant-loop-termination
invariant-loop-termination l =
    (l.termination-items ≡ terminations)
    × (out_each (configuration_of l.sure) l.context (configuration_of l.out) (drop l.termination-index l.termination-items)
    ≡ out_each (configuration_of l.sure) l.context (configuration_of l.config) terminations)
