-- None of the steps so far leads to another state.
use Rattle.closure.specs.Shown.{shown}
use Rattle.call_ways.proofs.Below.{NoneBelow}
use Rattle.call_ways.specs.Seen.{LeadsAway}
use Rattle.call_ways.proofs.sights.lead_away.Given as goal

abbrev pub invariant-loop-step : goal.invariant-loop-step
invariant-loop-step l = NoneBelow (LeadsAway (shown l.steps) l.state) l.step-index
