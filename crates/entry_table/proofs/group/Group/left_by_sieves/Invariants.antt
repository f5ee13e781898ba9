-- Those that are left by the sieves so far and pass the rest are those that pass all.
use Rattle.std.proofs.Common.{◌≡◌, ◌&&◌, ◌<◌, ℕ, drop}
use Rattle.configuration.specs.Bits.{has}
use Rattle.entry_table.specs.Sieves.{passes_sieves}
use Rattle.entry_table.proofs.group.Group.left_by_sieves.Given as goal

abbrev pub invariant-loop-sieve : goal.invariant-loop-sieve
invariant-loop-sieve l =
    (member : ℕ) → member < 64 → (has l.left member && passes_sieves (drop l.sieve-index l.self.sieves) member l.config)
    ≡ (has l.members member && passes_sieves l.self.sieves member l.config)
