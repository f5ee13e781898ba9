-- What was read so far is the meaning of the items so far.
use Rattle.std.proofs.Common.{map}
use Rattle.serde_json.specs.View.{view}
use Rattle.certificate.proofs.Each.{IsReadTo}
use Rattle.certificate.proofs.reads.VecReads.read.Given as goal

abbrev pub invariant-loop-item : goal.invariant-loop-item
invariant-loop-item g l =
    IsReadTo (λ v. g.T.Reads.meaning (view v)) l.item-items l.item-index (map g.T.Reads.seen l.found.items)
