use Rattle.std.proofs.Common.{◌≡◌, ◌++◌, map, drop}
use Rattle.std.specs.List.{flat_map}
use Rattle.mg_model.specs.Plans.{PlanCall}
use Rattle.plans.proofs.lines.all_lines.Given as goal

-- the lines so far, and those of the calls that are left, are all
abbrev pub invariant-loop-call : goal.invariant-loop-call
invariant-loop-call l =
    map (λ line. line.0) l.lines.items ++ flat_map (λ (call : PlanCall). call.lines) (drop l.call-index l.calls)
    ≡ flat_map (λ (call : PlanCall). call.lines) l.calls
