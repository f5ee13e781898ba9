use Rattle.std.proofs.Common.{◌≡◌, ◌++◌, drop}
use Rattle.scriptreader.proofs.build.signals.Given as goal

abbrev pub invariant-loop-one : goal.invariant-loop-one
invariant-loop-one l = l.found.items ++ drop l.one-index l.written ≡ l.written
