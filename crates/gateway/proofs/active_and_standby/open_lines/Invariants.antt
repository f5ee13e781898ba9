use Rattle.std.proofs.Common.{◌≡◌, ℕ, drop}
use Rattle.mg_names.specs.declared.identifiers.TermId.{TermId}
use Rattle.requests.specs.Connected.{board_in, line_in, has_line}
use Rattle.gateway.specs.Standby.{rows_idled, lines_armed}
use Rattle.gateway.proofs.active_and_standby.open_lines.Given as goal

-- what is left to do makes of the connections now what the whole makes of them at the start
abbrev pub invariant-loop-line : goal.invariant-loop-line
invariant-loop-line l = record {
  rows : (t : TermId) → rows_idled (drop l.line-index l.lines) (board_in l.connections).row t ≡ rows_idled l.lines (board_in l.fn.connections).row t;
  cut : (board_in l.connections).cut ≡ (board_in l.fn.connections).cut;
  used_context : (board_in l.connections).used_context ≡ (board_in l.fn.connections).used_context;
  used_ephemeral : (board_in l.connections).used_ephemeral ≡ (board_in l.fn.connections).used_ephemeral;
  class : (board_in l.connections).class ≡ (board_in l.fn.connections).class;
  there : (n : ℕ) → has_line (board_in l.connections) n ≡ has_line (board_in l.fn.connections) n;
  lines : (n : ℕ) → lines_armed (board_in l.fn.connections) (drop l.line-index l.lines) (line_in l.connections) n ≡ lines_armed (board_in l.fn.connections) l.lines (line_in l.fn.connections) n;
}
