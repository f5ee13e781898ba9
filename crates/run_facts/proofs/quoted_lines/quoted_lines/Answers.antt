-- The line is told behind those before it, and at the end none is left.
use Rattle.std.proofs.Common.{◌∙◌, ◌++◌, false, ap}
use Rattle.std.specs.Prelude.{string_bytes}
use Rattle.check_lines.specs.Output.{Text}
use Rattle.run_reports.specs.RunAnswers.{call_lines}
use Rattle.run_facts.specs.Saying.{quoted_from}
use Rattle.run_facts.proofs.QuotedLines.{all_quoted, one_more_quoted}
use Rattle.run_facts.proofs.quoted_lines.quoted_lines.Goals as goal

pub loop-line-preserved : goal.loop-line-preserved
loop-line-preserved c =
    let a = c.args in
    let before = string_bytes c.loop-line.text in
    one_more_quoted a.script.now c.loop-line.is_next a.lines.now c.loop-line.line-index before (quoted_from false (call_lines a.script.now a.lines.now))
    c.loop-line.invariant _ (string_bytes c.push_str.new.self) c.loop-line-test.true
    (c.in_ok-push_str.ensures.bytes ∙ ap (λ (told : Text). before ++ told) (c.as_str.ensures.value ∙ c.in_ok-told.ensures.ok))

pub returns : goal.returns
returns c =
    let a = c.args in
    all_quoted a.script.now c.loop-line.is_next a.lines.now c.loop-line.line-index (string_bytes c.loop-line.text)
    (quoted_from false (call_lines a.script.now a.lines.now)) c.loop-line.invariant c.loop-line-test.false
