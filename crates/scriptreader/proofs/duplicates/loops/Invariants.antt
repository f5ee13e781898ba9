use Rattle.std.proofs.Common.{◌≡◌, drop}
use Rattle.std.specs.List.{list_any}
use Rattle.scriptreader.specs.Faults.{is_loop}
use Rattle.scriptreader.proofs.duplicates.loops.Given as goal

abbrev pub invariant-loop-command : goal.invariant-loop-command
invariant-loop-command l = list_any (λ command. is_loop command) (drop l.command-index l.commands) ≡ list_any (λ command. is_loop command) l.commands
