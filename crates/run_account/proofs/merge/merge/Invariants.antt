-- The events so far, and the merge of what is left of the histories from their places on, are the whole merge.
use Rattle.std.proofs.Common.{◌≡◌, ◌-◌, length, map}
use Rattle.mg_model.specs.Shards.{cut_at_restarts, merged}
use Rattle.run_account.specs.Merging.{left_from}
use Rattle.run_account.proofs.MergedAssociations.{IsMerging}
use Rattle.run_account.proofs.merge.merge.Given as goal

abbrev pub invariant-loop : goal.invariant-loop
invariant-loop l =
    let histories = map (λ history. history.items) l.histories in
    record {
      sized : length l.places.items ≡ length l.histories;
      so_far : IsMerging (merged (map cut_at_restarts histories) l.restarts) l.events.items (left_from l.places.items histories) (l.restarts - l.counter);
    }
