-- The events, the idle steps and the end of the line.
use Rattle.std.proofs.Common.{◌++◌, ◌∷◌, [], ℕ, Err, codes, decimal}
use Rattle.std.proofs.lemmas.Result.{err_from_is_err_and}
use Rattle.program_rim.proofs.Gathering.{cut_short, next_text}
use Rattle.program_rim.specs.declared.source.DeviceFault.{DeviceFault}
use Rattle.check_lines.specs.Output.{Text}
use Rattle.run_reports.proofs.report.put_counts.Goals as goal

abbrev end : Text
end = 10 ∷ []

abbrev events_text : ℕ → Text
events_text events = codes " events=" ++ decimal events

abbrev idle_text : ℕ → Text
idle_text idle = codes " idle=" ++ decimal idle

pub returns-in_err-put_number-clause-bytes : goal.returns-in_err-put_number-clause-bytes
returns-in_err-put_number-clause-bytes g c =
    let p = err_from_is_err_and c.from_residual.result c.from_residual.ensures.1 in
    let sent = c.in_err-put_number.ensures.bytes in
    let more : Text = idle_text c.args.idle ++ end in
    rw (p.1) (sent.0, sent.1 ++ more, sent.2, cut_short c.args.gathered.now (events_text c.args.events) more sent.0 sent.1 sent.3, tt)

pub returns-in_err-put_number-2-clause-bytes : goal.returns-in_err-put_number-2-clause-bytes
returns-in_err-put_number-2-clause-bytes g c =
    let p = err_from_is_err_and c.from_residual-in_err-put_number-2.result c.from_residual-in_err-put_number-2.ensures.1 in
    let contents = g.W.Sink.contents in
    let second = c.in_err-put_number-2.ensures.bytes in
    let cut = cut_short c.put_number.new.gathered (idle_text c.args.idle) end second.0 second.1 second.3 in
    let sent = next_text DeviceFault (contents c.args.sink.now) (contents c.put_number.new.sink) (contents c.put_number-2.new.sink) c.args.gathered.now
    (events_text c.args.events) (idle_text c.args.idle ++ end) c.put_number.new.gathered (Err c.in_err-put_number-2.field-0.0) []
    c.in_ok-put_number.ensures.bytes (second.0, second.1 ++ end, second.2, cut, tt) in
    rw (p.1) (sent.0, sent.1, sent.2, sent.3, tt)

pub returns-clause-bytes : goal.returns-clause-bytes
returns-clause-bytes g c =
    let contents = g.W.Sink.contents in
    let more = next_text DeviceFault (contents c.put_number.new.sink) (contents c.put_number-2.new.sink) (contents c.put.new.sink) c.put_number.new.gathered
    (idle_text c.args.idle) end c.put_number-2.new.gathered c.put.result c.put.new.self
    c.in_ok-put_number-2.ensures.bytes c.put.ensures.bytes in
    next_text DeviceFault (contents c.args.sink.now) (contents c.put_number.new.sink) (contents c.put.new.sink) c.args.gathered.now
    (events_text c.args.events) (idle_text c.args.idle ++ end) c.put_number.new.gathered c.put.result c.put.new.self
    c.in_ok-put_number.ensures.bytes more
