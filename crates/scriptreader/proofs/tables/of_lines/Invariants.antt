use Rattle.std.proofs.Common.{◌≡◌, map, drop}
use Rattle.std.specs.Map.Iter.{deref_pair}
use Rattle.toml.specs.View.{members_view}
use Rattle.scriptreader.specs.Documents.{lines_of, added_to}
use Rattle.scriptreader.proofs.tables.of_lines.Given as goal

abbrev pub invariant-loop-entry : goal.invariant-loop-entry
invariant-loop-entry l =
    added_to l.found.items (lines_of (members_view (map deref_pair (drop l.entry-index l.entry-items)))) ≡ lines_of (members_view (map deref_pair l.entry-items))
