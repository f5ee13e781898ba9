-- No row so far is of the pair.
use Rattle.std.proofs.Common.{◌≡◌, drop}
use Rattle.std.specs.Prelude.{find}
use Rattle.certificate.specs.FoundRows.{is_cut_of}
use Rattle.certificate.proofs.named_cuts.at_pair.Given as goal

abbrev pub invariant-loop-cut : goal.invariant-loop-cut
invariant-loop-cut l = find (is_cut_of l.source l.sink) (drop l.cut-index l.cuts) ≡ find (is_cut_of l.source l.sink) l.cuts
