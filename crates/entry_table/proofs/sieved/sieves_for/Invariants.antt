-- The entries so far narrow their lists.
use Rattle.std.proofs.Common.{◌≡◌, length}
use Rattle.entry_table.proofs.SievedLemmas.{AreSievedBelow}
use Rattle.entry_table.proofs.sieved.sieves_for.Given as goal

abbrev pub invariant-loop-number : goal.invariant-loop-number
invariant-loop-number l = record {
  count : l.sieves.count ≡ length l.places;
  sieved : AreSievedBelow l.entries l.places l.sieves l.number;
}
