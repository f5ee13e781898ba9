-- What can be warned of the marks so far was added.
use Rattle.std.proofs.Common.{◌≡◌, ◌++◌, map, take}
use Rattle.call_ways.specs.declared.warning.Warning.TheVariants as warning
use Rattle.call_ways.proofs.candidates.add_marks.Given as goal

abbrev pub invariant-loop-pair : goal.invariant-loop-pair
invariant-loop-pair l =
    l.list.items ≡ l.fn.list.items ++ map (λ pair. warning.MarkUnneeded l.state pair) (take l.pair-index l.talk)
