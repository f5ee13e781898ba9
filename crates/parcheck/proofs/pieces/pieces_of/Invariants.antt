-- The pieces so far are runs, up to a place of the entries.
use Rattle.std.proofs.Common.{◌≤◌, length}
use Rattle.parcheck.specs.Pieces.{AreRuns}
use Rattle.parcheck.proofs.pieces.pieces_of.Given as goal

abbrev pub invariant-loop-number : goal.invariant-loop-number
invariant-loop-number l = record {
  runs : AreRuns 0 l.pieces.items l.first;
  within : l.first ≤ length l.cert;
}
