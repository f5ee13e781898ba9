use Rattle.std.proofs.Common.{◌≡◌, [], drop}
use Rattle.std.specs.List.{flat_map}
use Rattle.typed_values.specs.Names.{repeats_after}
use Rattle.scriptreader.specs.Faults.{created_by}
use Rattle.scriptreader.proofs.duplicates.creates_twice.Given as goal

abbrev pub invariant-loop-command : goal.invariant-loop-command
invariant-loop-command l =
    repeats_after l.names (flat_map created_by (drop l.command-index l.commands)) ≡ repeats_after [] (flat_map created_by l.commands)
