-- What holds of every plan that is read. A reader should check that no line is of two calls, or twice of one.
use Rattle.std.specs.Prelude.{◌≡◌, ◌≤◌, false, length, Contains}
use Rattle.mg_model.specs.Plans.{PlanCall, Plan}
use Rattle.mg_model.specs.Script.{Script}
use Rattle.plans.specs.PlanValue.{is_too_large}
use Rattle.plans.specs.Tables.{names_line_twice}

pub record IsPlanFor (script : Script) (plan : Plan) : Type 0 where
  pub some_shard : 1 ≤ plan.shards
  pub few_shards : plan.shards ≤ 16
  pub all_lines : (call : PlanCall) → Contains plan.calls call → length call.lines ≡ length script.lines
  pub once : names_line_twice plan.calls ≡ false
  pub within : is_too_large plan ≡ false
