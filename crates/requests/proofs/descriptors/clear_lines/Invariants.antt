use Rattle.std.proofs.Common.{◌≡◌, ℕ, map, drop}
use Rattle.mg_names.specs.declared.identifiers.LineNo.{LineNo}
use Rattle.line_events.specs.Rows.{row_of}
use Rattle.requests.specs.Commands.{rows_cleared}
use Rattle.requests.proofs.descriptors.clear_lines.Given as goal

-- what is left to clear makes of the rows now what the whole makes of the rows at the start
abbrev pub invariant-loop-line : goal.invariant-loop-line
invariant-loop-line l = (n : ℕ) → rows_cleared (map (λ (line : LineNo). line.0) (drop l.line-index l.gone)) (row_of l.lines) n ≡ rows_cleared (map (λ (line : LineNo). line.0) l.gone) (row_of l.fn.lines) n
