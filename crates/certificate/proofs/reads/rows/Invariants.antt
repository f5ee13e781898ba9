-- What was read so far is the meaning of the members so far.
use Rattle.std.proofs.Common.{map}
use Rattle.std.specs.Map.Iter.{deref_pair}
use Rattle.certificate.specs.Keys.{row_of}
use Rattle.certificate.proofs.Each.{IsReadTo}
use Rattle.certificate.proofs.Trees.{member_seen}
use Rattle.certificate.proofs.reads.rows.Given as goal

abbrev pub invariant-loop-name : goal.invariant-loop-name
invariant-loop-name g l =
    IsReadTo (λ p. row_of g.T.Reads.meaning (member_seen (deref_pair p))) l.name-items l.name-index
    (map (λ r. (r.name, g.T.Reads.seen r.value)) l.found.items)
