-- The lines so far.
use Rattle.std.proofs.Common.{◌≡◌, take}
use Rattle.std.specs.Prelude.{string_bytes}
use Rattle.run_facts.proofs.ReportTexts.{texts}
use Rattle.run_facts.proofs.line_text.report_text.Given as goal

abbrev pub invariant-loop-line : goal.invariant-loop-line
invariant-loop-line l = string_bytes l.text ≡ texts l.script (take l.line-index l.lines)
