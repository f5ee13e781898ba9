use Rattle.std.proofs.Common.{◌≡◌, [], map, drop}
use Rattle.std.specs.List.{list_any}
use Rattle.typed_values.specs.Names.{repeats_after}
use Rattle.scriptreader.specs.DeclaredNames.{event_text}
use Rattle.scriptreader.proofs.duplicates.lists_event_twice.Given as goal

abbrev pub invariant-loop-list : goal.invariant-loop-list
invariant-loop-list l =
    list_any (λ list. repeats_after [] (map event_text list.items)) (drop l.list-index l.lists) ≡ list_any (λ list. repeats_after [] (map event_text list.items)) l.lists
