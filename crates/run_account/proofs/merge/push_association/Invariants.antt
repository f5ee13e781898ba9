-- The parts of the histories so far are pushed, and their places stand past them.
use Rattle.std.proofs.Common.{map}
use Rattle.run_account.specs.Merging.{left_from}
use Rattle.run_account.proofs.MergedPlaces.{IsMovingOn}
use Rattle.run_account.proofs.merge.push_association.Given as goal

abbrev pub invariant-loop-index : goal.invariant-loop-index
invariant-loop-index l =
    let histories = map (λ history. history.items) l.histories in
    IsMovingOn l.fn.events.items (left_from l.fn.places histories) l.events.items (left_from l.places histories) l.index
