-- The lines so far, and those that are left, are all of them.
use Rattle.std.proofs.Common.{◌≡◌, ◌++◌, false}
use Rattle.std.specs.Prelude.{string_bytes}
use Rattle.run_reports.specs.RunAnswers.{call_lines}
use Rattle.run_facts.specs.Saying.{quoted_from}
use Rattle.run_facts.proofs.QuotedLines.{quoted_rest}
use Rattle.run_facts.proofs.quoted_lines.quoted_lines.Given as goal

abbrev pub invariant-loop-line : goal.invariant-loop-line
invariant-loop-line l = string_bytes l.text ++ quoted_rest l.script l.is_next l.lines l.line-index ≡ quoted_from false (call_lines l.script l.lines)
