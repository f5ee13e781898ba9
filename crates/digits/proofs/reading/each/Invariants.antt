use Rattle.std.proofs.Common.{◌≡◌, ◌+◌, drop, map}
use Rattle.digits.specs.Reading.{alternatives_of, bytes_of, bar_before}
use Rattle.digits.proofs.Values.{with_front}
use Rattle.digits.proofs.reading.each.Given as goal

abbrev pub invariant-loop-index : goal.invariant-loop-index
invariant-loop-index l =
    let texts = map (λ part. part.now) l.parts in
    record {
      bytes : l.place + bar_before l.index + bytes_of (drop l.index texts) ≡ l.start + bytes_of texts;
      so_far : with_front (map (λ a. a.items) l.found.items) (alternatives_of (l.place + bar_before l.index) (drop l.index texts)) ≡ alternatives_of l.start texts;
    }
