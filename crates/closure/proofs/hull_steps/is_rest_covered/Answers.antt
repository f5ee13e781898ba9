-- Those of each line are, and where the timer leads.
use Rattle.std.proofs.Common.{◌∙◌, ℕ, map, ap, arith}
use Rattle.mg_model.specs.Tables.{state_of}
use Rattle.configuration.specs.Config.{configuration_of}
use Rattle.closure.proofs.HullSteps.{rest_covered}
use Rattle.closure.proofs.hull_steps.is_rest_covered.Goals as goal

pub returns : goal.returns
returns c holds =
    rest_covered c.args.script.now c.args.cert.now (map configuration_of c.args.hull.now) (configuration_of c.args.one.now) c.requires
    (omega (arith, c.lines-lines.ensures.value, c.lines-lines.ensures.few))
    (rw c.all.ensures at (c.is_line_covered.ensures c.if-not-is_line_covered.false))
    (rw c.all.ensures at (c.is_line_covered-2.ensures c.if-not-is_line_covered-2.false))
    (rw c.all.ensures at (c.is_line_covered-3.ensures c.if-not-is_line_covered-3.false))
    (rw c.all.ensures at (c.is_line_covered-4.ensures c.if-not-is_line_covered-4.false))
    c.timer_of-timer.result (c.timer_of-timer.ensures ∙ ap (λ (state : ℕ). (state_of c.args.script.now state).timer) c.state.ensures)
    (c.is_entered.ensures holds)
