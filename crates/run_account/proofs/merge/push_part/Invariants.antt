-- What is pushed so far, and what is left of the history from the next place on.
use Rattle.std.proofs.Common.{length, ◌-◌, drop}
use Rattle.run_account.proofs.MergedPlaces.{IsPushing}
use Rattle.run_account.proofs.merge.push_part.Given as goal

abbrev pub invariant-loop-next : goal.invariant-loop-next
invariant-loop-next l = IsPushing l.fn.events.items (drop l.place l.history) l.events.items (drop l.next l.history)

abbrev pub decreases-loop-next : goal.decreases-loop-next
decreases-loop-next l = length l.history - l.next
