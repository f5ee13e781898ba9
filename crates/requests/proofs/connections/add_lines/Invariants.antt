use Rattle.std.proofs.Common.{◌≡◌, ℕ, drop}
use Rattle.line_events.specs.Rows.{row_of}
use Rattle.requests.specs.Commands.{filled}
use Rattle.requests.proofs.connections.add_lines.Given as goal

-- what is left to add makes of the rows now what the whole makes of the rows at the start
abbrev pub invariant-loop-line : goal.invariant-loop-line
invariant-loop-line l = (n : ℕ) → filled (drop l.line-index l.lines) (row_of l.rows) n ≡ filled l.lines (row_of l.fn.rows) n
