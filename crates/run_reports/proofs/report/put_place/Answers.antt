-- The state, and then the phase.
use Rattle.std.proofs.Common.{◌++◌, codes}
use Rattle.std.proofs.lemmas.Result.{err_from_is_err_and}
use Rattle.program_rim.proofs.Gathering.{cut_short, next_text}
use Rattle.program_rim.specs.declared.source.DeviceFault.{DeviceFault}
use Rattle.run_reports.proofs.report.put_place.Goals as goal

pub returns-in_err-put_two-clause-bytes : goal.returns-in_err-put_two-clause-bytes
returns-in_err-put_two-clause-bytes g c =
    let p = err_from_is_err_and c.from_residual.result c.from_residual.ensures.1 in
    let sent = c.in_err-put_two.ensures.bytes in
    let more = codes " " ++ c.args.phase.now in
    rw (p.1) (sent.0, sent.1 ++ more, sent.2, cut_short c.args.gathered.now (codes " " ++ c.args.state.now) more sent.0 sent.1 sent.3, tt)

pub returns-clause-bytes : goal.returns-clause-bytes
returns-clause-bytes g c =
    let contents = g.W.Sink.contents in
    next_text DeviceFault (contents c.args.sink.now) (contents c.put_two.new.sink) (contents c.put_two-2.new.sink) c.args.gathered.now
    (codes " " ++ c.args.state.now) (codes " " ++ c.args.phase.now) c.put_two.new.self c.put_two-2.result c.put_two-2.new.self
    c.in_ok-put_two.ensures.bytes c.put_two-2.ensures.bytes
