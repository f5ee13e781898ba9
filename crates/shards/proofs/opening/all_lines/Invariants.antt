-- The lines of the calls so far.
use Rattle.std.proofs.Common.{◌≡◌, take}
use Rattle.std.specs.List.{flat_map}
use Rattle.shards.specs.declared.opened.OpenedCall.{OpenedCall}
use Rattle.shards.proofs.opening.all_lines.Given as goal

abbrev pub invariant-loop-call : goal.invariant-loop-call
invariant-loop-call l = l.lines.items ≡ flat_map (λ (one : OpenedCall). one.lines.items) (take l.call-index l.calls)
