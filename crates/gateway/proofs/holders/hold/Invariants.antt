use Rattle.std.proofs.Common.{◌≡◌, ◌&&◌, ℕ, Some, drop, is_some, if◌then◌else◌}
use Rattle.contexts.specs.BoardValue.{names_line}
use Rattle.gateway.specs.Calls.{line_entry}
use Rattle.gateway.proofs.holders.hold.Given as goal

abbrev pub invariant-loop-line : goal.invariant-loop-line
invariant-loop-line l = (n : ℕ) → (if names_line (drop l.line-index l.lines) n && is_some (line_entry l.holders.entries n) then Some (Some l.call) else line_entry l.holders.entries n) ≡ (if names_line l.lines n && is_some (line_entry l.fn.holders.entries n) then Some (Some l.call) else line_entry l.fn.holders.entries n)
