-- Pair by pair.
use Rattle.std.proofs.Common.{◌≡◌, drop}
use Rattle.mg_model.specs.Configuration.{terminations}
use Rattle.configuration.specs.Config.{configuration_of}
use Rattle.closure.specs.Elementwise.{forget_pairs}
use Rattle.closure.proofs.effects.cuts.forget_each.Given as goal

-- what is left to do makes of the configuration now what the whole makes of the one at the start
abbrev pub invariant-loop-other : goal.invariant-loop-other
invariant-loop-other l =
    (l.other-items ≡ terminations)
    × (forget_pairs (configuration_of l.config) l.termination (drop l.other-index l.other-items)
    ≡ forget_pairs (configuration_of l.initial.config) l.termination terminations)
