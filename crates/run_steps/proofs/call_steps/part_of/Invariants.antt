-- Those of the events so far.
use Rattle.std.proofs.Common.{◌≡◌, take}
use Rattle.std.specs.List.{filter}
use Rattle.run_steps.specs.CallsTold.{is_part_of}
use Rattle.run_steps.proofs.call_steps.part_of.Given as goal

abbrev pub invariant-loop-event : goal.invariant-loop-event
invariant-loop-event l = l.part.items ≡ filter (is_part_of l.number) (take l.event-index l.history)
