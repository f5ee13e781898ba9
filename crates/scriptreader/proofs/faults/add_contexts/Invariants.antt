use Rattle.std.proofs.Common.{◌≡◌, drop}
use Rattle.std.specs.List.{flat_map}
use Rattle.typed_values.specs.Names.{each_once}
use Rattle.scriptreader.specs.Faults.{contexts_made}
use Rattle.scriptreader.proofs.faults.add_contexts.Given as goal

abbrev pub invariant-loop-command : goal.invariant-loop-command
invariant-loop-command l = each_once l.names (flat_map contexts_made (drop l.command-index l.commands)) ≡ each_once l.initial.names (flat_map contexts_made l.commands)
