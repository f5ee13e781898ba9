-- The lines of those so far, numbered from 0.
use Rattle.std.proofs.Common.{◌≡◌, ◌++◌, map, take}
use Rattle.mg_model.specs.Script.{Script}
use Rattle.planned_calls.specs.ReportLines.{gone_line, line_of, number_of, numbers_from}
use Rattle.planned_calls.proofs.lines.push_gone.Given as goal

abbrev pub invariant-loop-begun : goal.invariant-loop-begun
invariant-loop-begun l = record {
  told : (script : Script) → map (line_of script) l.lines.items ≡ map (line_of script) l.fn.lines.items ++ map (gone_line script) (take l.begun l.gone);
  numbered : map number_of l.lines.items ≡ map number_of l.fn.lines.items ++ numbers_from l.call 0 l.begun;
}
