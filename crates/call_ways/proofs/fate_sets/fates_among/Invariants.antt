-- With what becomes of them in the configurations that are left, the sets have what becomes of them in all.
use Rattle.std.proofs.Common.{◌≡◌, ◌||◌, ℕ, drop}
use Rattle.call_ways.specs.declared.fates.Fate.{Fate}
use Rattle.call_ways.specs.Crossed.{is_among, values_of}
use Rattle.call_ways.specs.Fates.{has, set_at}
use Rattle.call_ways.proofs.fate_sets.fates_among.Given as goal

abbrev pub invariant-loop-config : goal.invariant-loop-config
invariant-loop-config l =
    (place : ℕ) (it : Fate) → (has (set_at l.sets.items place) it || is_among l.script (values_of (drop l.config-index l.configs)) place it)
    ≡ is_among l.script (values_of l.configs) place it
