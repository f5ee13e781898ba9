-- What was joined so far, with the documents that are left behind it, is all of them.
use Rattle.std.proofs.Common.{◌≡◌, ◌++◌, map, drop, codes, flat_map}
use Rattle.mgexplain.specs.Files.{joined}
use Rattle.mgexplain.proofs.documents.joined.Given as goal

abbrev pub invariant-loop-document : goal.invariant-loop-document
invariant-loop-document l =
    l.bytes.items ++ flat_map (λ document. codes "\n%%\n" ++ document) (map (λ d. d.items) (drop l.document-index l.others))
    ≡ joined (map (λ d. d.items) l.fn.documents)
