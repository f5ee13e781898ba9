-- What is counted of a call of the plan, as a log counts it. This profile's own.
use Rattle.std.specs.Prelude.{◌≡◌, ℕ, [], ◌∷◌, ◌++◌, map}
use Rattle.mg_model.specs.Script.{Script}
use Rattle.mg_reports.specs.Logs.{Counted}
use Rattle.planned_calls.specs.ReportLines.{gone_line}
use Rattle.planned_calls.specs.declared.call_count.CallCount.{CallCount}
use Rattle.planned_calls.specs.declared.call_count.RetiredCall.{RetiredCall}

abbrev pub counts_of : Script → CallCount → Counted
counts_of script c = record { retired = map (gone_line script) c.gone.items; events = c.events; idle = c.idle }

-- the one that stood is gone, in this state, and another stands with one event
pub record IsRenewed (a : CallCount) (state : ℕ) (b : CallCount) : Type 0 where
  pub last : RetiredCall
  pub gone : b.gone.items ≡ a.gone.items ++ last ∷ []
  pub of_state : last.state ≡ state
  pub of_events : last.events ≡ a.events
  pub of_idle : last.idle ≡ a.idle
  pub events : b.events ≡ 1
  pub idle : b.idle ≡ 0
