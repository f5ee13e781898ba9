use Rattle.std.proofs.Common.{◌≡◌, drop}
use Rattle.std.specs.List.{list_all}
use Rattle.scriptreader.specs.Faults.{item_known}
use Rattle.scriptreader.proofs.uses.knows_events.Given as goal

abbrev pub invariant-loop-list : goal.invariant-loop-list
invariant-loop-list l = list_all (λ e. list_all (λ i. item_known l.scope i) e.items) (drop l.list-index l.lists) ≡ list_all (λ e. list_all (λ i. item_known l.scope i) e.items) l.lists
