-- The events of the call in its trail, or none where there is no such trail.
use Rattle.std.proofs.Common.{◌∙◌, ◌≤◌, ◌<◌, ◌++◌, List, length, map, sym, ap, arith}
use Rattle.std.specs.Prelude.{◌%◌}
use Rattle.mg_model.specs.declared.events.Event.{Event}
use Rattle.mg_model.specs.Numbers.{plan_calls}
use Rattle.agent.specs.Calls.{value_of}
use Rattle.run_shards.specs.Parts.{of_call}
use Rattle.run_account.specs.Merging.{one_history}
use Rattle.run_account.specs.Runs.{OutcomeValue}
use Rattle.run_shards.specs.PlannedCall.{PlannedCall}
use Rattle.run_account.proofs.AgreedTrails.{none_past, of_planned_call}
use Rattle.run_account.proofs.outcome.Outcome.transcript.Goals as goal

pub returns-then-number-len : goal.returns-then-number-len
returns-then-number-len c =
    let planned_calls = c.self.inside.planned_calls in
    let history = one_history (map (λ history. history.items) c.self.inside.histories.items) c.self.inside.restarts in
    let call = c.args.call.0 in
    let past : length planned_calls.items ≤ call % plan_calls = omega (arith, c.if-number-len.true, c.len.ensures, planned_calls.ok.0) in
    c.new-events.ensures.items ∙ sym (none_past planned_calls.items history call c.self.invariant past)
    ∙ ap (λ (v : OutcomeValue). of_call call v.history) c.self.view_is

pub returns : goal.returns
returns c =
    let planned_calls = c.self.inside.planned_calls in
    let history = one_history (map (λ history. history.items) c.self.inside.histories.items) c.self.inside.restarts in
    let call = c.args.call.0 in
    let planned = c.index-planned.result.now in
    let within : call % plan_calls < length planned_calls.items = omega (arith, c.if-number-len.false, c.len.ensures, planned_calls.ok.0) in
    c.in_ok-push_of-2.ensures
    ∙ ap (λ (events : List Event). events ++ of_call call c.transcript.result.now)
    (c.in_ok-push_of.ensures ∙ ap (λ (events : List Event). events ++ of_call call c.as_slice.result.now) c.new-events.ensures.items)
    ∙ ap (λ (events : List Event). of_call call events ++ of_call call c.transcript.result.now) c.as_slice.ensures.value
    ∙ ap (λ (events : List Event). of_call call planned.log.trail.items ++ of_call call events) c.transcript.ensures
    ∙ ap (λ (one : PlannedCall). of_call call one.log.trail.items ++ of_call call (value_of one.next).transcript) c.index-planned.ensures
    ∙ of_planned_call planned_calls.items history call c.self.invariant planned within
    ∙ ap (λ (v : OutcomeValue). of_call call v.history) c.self.view_is
