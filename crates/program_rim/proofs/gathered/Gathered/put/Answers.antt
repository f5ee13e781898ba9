-- Where there is no room, what is gathered is written, and then the text.
use Rattle.std.proofs.Common.{◌++◌, subst}
use Rattle.std.proofs.lemmas.Result.{err_from_is_err_and}
use Rattle.program_rim.specs.Devices.{WritesFront}
use Rattle.program_rim.specs.declared.source.DeviceFault.{DeviceFault}
use Rattle.program_rim.proofs.Gathering.{before_more, then_written}
use Rattle.program_rim.proofs.gathered.Gathered.put.Goals as goal

pub returns-in_err-flush-clause-bytes : goal.returns-in_err-flush-clause-bytes
returns-in_err-flush-clause-bytes g c =
    let p = err_from_is_err_and c.from_residual.result c.from_residual.ensures.1 in
    let sent = c.in_err-flush.ensures.bytes in
    let told = before_more c.args.self.now c.args.text.now sent.0 sent.1 sent.3 in
    rw (p.1) (sent.0, sent.1 ++ c.args.text.now, sent.2, told, tt)

pub returns-then-text-remaining_capacity-clause-bytes : goal.returns-then-text-remaining_capacity-clause-bytes
returns-then-text-remaining_capacity-clause-bytes g c =
    let contents = g.W.Sink.contents in
    then_written DeviceFault (contents c.args.sink.now) (contents c.flush.new.sink) (contents c.write_all.new.sink) c.args.self.now c.args.text.now
    c.flush.new.self c.write_all.result c.in_ok-flush.ensures.bytes c.in_ok-flush.ensures.none
    (subst (λ text. WritesFront (contents c.flush.new.sink) (contents c.write_all.new.sink) c.write_all.result text) c.as_bytes.ensures.value c.write_all.ensures.bytes)
