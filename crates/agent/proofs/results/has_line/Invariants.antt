-- The line is among those that are left exactly where it is among all.
use Rattle.std.proofs.Common.{◌≡◌, Some, map, drop}
use Rattle.mg_names.specs.declared.identifiers.LineNo.{LineNo}
use Rattle.mg_model.specs.Agent.{is_listed}
use Rattle.agent.proofs.results.has_line.Given as goal

abbrev pub invariant-loop-other : goal.invariant-loop-other
invariant-loop-other l =
    is_listed (map (λ (line : LineNo). line.0) (drop l.other-index l.gone)) (Some l.line)
    ≡ is_listed (map (λ (line : LineNo). line.0) l.gone) (Some l.line)
