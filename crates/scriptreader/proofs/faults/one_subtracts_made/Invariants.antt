use Rattle.std.proofs.Common.{◌≡◌, drop}
use Rattle.std.specs.List.{list_any}
use Rattle.scriptreader.specs.Faults.{subtracts_made}
use Rattle.scriptreader.proofs.faults.one_subtracts_made.Given as goal

abbrev pub invariant-loop-command : goal.invariant-loop-command
invariant-loop-command l = list_any (λ c. subtracts_made l.contexts l.ephemerals c) (drop l.command-index l.commands) ≡ list_any (λ c. subtracts_made l.contexts l.ephemerals c) l.commands
