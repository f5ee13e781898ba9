-- One line after the other.
use Rattle.std.proofs.Common.{List, Ok, subst, arith}
use Rattle.std.proofs.lemmas.Result.{err_from_is_err_and}
use Rattle.program_rim.specs.Devices.{Passes}
use Rattle.program_rim.specs.declared.source.DeviceFault.{DeviceFault}
use Rattle.runner.specs.Line.{Line}
use Rattle.run_reports.proofs.ReportLemmas.{all_written, line_failed, line_more, texts, up_to_end}
use Rattle.run_reports.proofs.report.write_lines.Goals as goal

pub returns-in_err-put_line-clause-bytes : goal.returns-in_err-put_line-clause-bytes
returns-in_err-put_line-clause-bytes g c =
    let p = err_from_is_err_and c.from_residual.result c.from_residual.ensures.1 in
    let contents = g.W.Sink.contents in
    let sent = line_failed DeviceFault (contents c.args.sink.now) (contents c.loop-line.sink) (contents c.put_line.new.sink) c.args.script.now c.args.lines.now
    c.loop-line.line-index _ c.loop-line.gathered c.put_line.new.gathered c.in_err-put_line.field-0.0 c.loop-line-test.true
    c.loop-line.invariant.bytes c.in_err-put_line.ensures.bytes in
    rw (p.1) (sent.0, sent.1)

pub loop-line-preserved : goal.loop-line-preserved
loop-line-preserved g c =
    let contents = g.W.Sink.contents in
    record {
      bytes = line_more DeviceFault (contents c.args.sink.now) (contents c.loop-line.sink) (contents c.put_line.new.sink) c.args.script.now c.args.lines.now
          c.loop-line.line-index _ c.loop-line.gathered c.put_line.new.gathered c.loop-line-test.true
          c.loop-line.invariant.bytes c.in_ok-put_line.ensures.bytes;
      counted = omega (arith, c.in_ok-put_line.ensures.counted, c.loop-line.invariant.counted);
    }

pub returns-clause-bytes : goal.returns-clause-bytes
returns-clause-bytes g c =
    let contents = g.W.Sink.contents in
    let all = up_to_end c.args.lines.now c.loop-line.line-index c.loop-line-test.false in
    let sent = subst (λ (lines : List Line). Passes {E = DeviceFault} (contents c.args.sink.now) (contents c.loop-line.sink) (texts c.args.script.now lines) (Ok tt)
    c.loop-line.gathered) all c.loop-line.invariant.bytes in
    all_written DeviceFault (contents c.args.sink.now) (contents c.loop-line.sink) (contents c.flush.new.sink) (texts c.args.script.now c.args.lines.now)
    c.loop-line.gathered c.flush.result c.flush.new.self sent c.flush.ensures.bytes c.flush.ensures.none
