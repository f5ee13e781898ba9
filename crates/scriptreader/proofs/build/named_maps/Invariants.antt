use Rattle.std.proofs.Common.{◌≡◌, drop}
use Rattle.typed_values.specs.Shape.{each}
use Rattle.scriptreader.specs.Meaning.{named_map_for}
use Rattle.typed_values.proofs.Fronts.{with_front}
use Rattle.scriptreader.proofs.build.named_maps.Given as goal

abbrev pub invariant-loop-one : goal.invariant-loop-one
invariant-loop-one l = with_front l.found.items (each named_map_for (drop l.one-index l.written)) ≡ each named_map_for l.written
