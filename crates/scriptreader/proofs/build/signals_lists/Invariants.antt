use Rattle.std.proofs.Common.{◌≡◌, ◌++◌, map, drop}
use Rattle.scriptreader.specs.Meaning.{signals_list_for}
use Rattle.scriptreader.proofs.build.signals_lists.Given as goal

abbrev pub invariant-loop-one : goal.invariant-loop-one
invariant-loop-one l = l.found.items ++ map signals_list_for (drop l.one-index l.written) ≡ map signals_list_for l.written
