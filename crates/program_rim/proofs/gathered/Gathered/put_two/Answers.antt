-- One text, and then the other.
use Rattle.std.proofs.Common.{◌++◌}
use Rattle.std.proofs.lemmas.Result.{err_from_is_err_and}
use Rattle.program_rim.proofs.Gathering.{cut_short, next_text}
use Rattle.program_rim.specs.declared.source.DeviceFault.{DeviceFault}
use Rattle.program_rim.proofs.gathered.Gathered.put_two.Goals as goal

pub returns-in_err-put-clause-bytes : goal.returns-in_err-put-clause-bytes
returns-in_err-put-clause-bytes g c =
    let p = err_from_is_err_and c.from_residual.result c.from_residual.ensures.1 in
    let sent = c.in_err-put.ensures.bytes in
    rw (p.1) (sent.0, sent.1 ++ c.args.second.now, sent.2, cut_short c.args.self.now c.args.first.now c.args.second.now sent.0 sent.1 sent.3, tt)

pub returns-clause-bytes : goal.returns-clause-bytes
returns-clause-bytes g c =
    let contents = g.W.Sink.contents in
    next_text DeviceFault (contents c.args.sink.now) (contents c.put.new.sink) (contents c.put-2.new.sink) c.args.self.now c.args.first.now c.args.second.now
    c.put.new.self c.put-2.result c.put-2.new.self c.in_ok-put.ensures.bytes c.put-2.ensures.bytes
