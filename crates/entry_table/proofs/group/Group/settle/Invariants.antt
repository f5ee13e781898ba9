-- What is wanted of single bits, the sieves that are kept and the rest ask the members what all sieves did.
use Rattle.std.proofs.Common.{◌≡◌, ◌&&◌, ◌<◌, ℕ, true, drop}
use Rattle.configuration.specs.Bits.{has}
use Rattle.configuration.specs.Packed.{Words}
use Rattle.entry_table.specs.Sieves.{is_like, passes_all, passes_sieves}
use Rattle.entry_table.proofs.group.Group.settle.Given as goal

abbrev pub invariant-loop-sieve : goal.invariant-loop-sieve
invariant-loop-sieve l =
    (member : ℕ) (w : Words) → member < 64 → has l.members member ≡ true
    → ((is_like l.alike w && passes_sieves l.kept.items member w) && passes_sieves (drop l.sieve-index l.fn.self.sieves) member w)
    ≡ passes_all l.fn.self member w
