use Rattle.std.proofs.Common.{◌≡◌, drop}
use Rattle.typed_values.specs.Shape.{each}
use Rattle.scriptreader.specs.Meaning.{state_for}
use Rattle.typed_values.proofs.Fronts.{with_front}
use Rattle.scriptreader.proofs.build.states.Given as goal

abbrev pub invariant-loop-one : goal.invariant-loop-one
invariant-loop-one l = with_front l.found.items (each (state_for l.scope) (drop l.one-index l.written)) ≡ each (state_for l.scope) l.written
