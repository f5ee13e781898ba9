-- What can be warned of the entries so far was added.
use Rattle.std.proofs.Common.{◌≡◌, ◌++◌}
use Rattle.std.specs.List.{flat_map}
use Rattle.call_ways.specs.Candidates.{of_entry}
use Rattle.call_ways.specs.Numbers.{numbers}
use Rattle.call_ways.proofs.candidates.add_entries.Given as goal

abbrev pub invariant-loop-place : goal.invariant-loop-place
invariant-loop-place l = l.list.items ≡ l.fn.list.items ++ flat_map of_entry (numbers l.place)
