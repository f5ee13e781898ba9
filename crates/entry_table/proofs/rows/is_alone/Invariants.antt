-- The other rows so far have none of the members.
use Rattle.std.proofs.Common.{◌≡◌, ◌<◌, ℕ, true, false, slice_index}
use Rattle.configuration.specs.Bits.{has}
use Rattle.entry_table.proofs.rows.is_alone.Given as goal

abbrev pub invariant-loop-other : goal.invariant-loop-other
invariant-loop-other l =
    (n b : ℕ) → n < l.other → (n ≡ l.number → ⊥) → has l.members b ≡ true → has (slice_index l.rows n) b ≡ false
