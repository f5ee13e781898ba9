-- The number, where the call is, and its counts.
use Rattle.std.proofs.Common.{◌≡◌, ◌∙◌, ◌++◌, [], Err, sym, ap, ap₂}
use Rattle.std.proofs.lemmas.Result.{err_from_is_err_and}
use Rattle.mg_model.specs.Script.{Script}
use Rattle.mg_model.specs.Tables.{state_of}
use Rattle.runner.specs.ReportLines.{phase_text}
use Rattle.runner.specs.Line.{Line}
use Rattle.program_rim.proofs.Gathering.{cut_short, next_text}
use Rattle.program_rim.specs.declared.source.DeviceFault.{DeviceFault}
use Rattle.check_lines.specs.Output.{Text, counts_text, number_text, place_text}
use Rattle.run_reports.proofs.report.put_line.Goals as goal

abbrev number : Line → Text
number l = number_text l.call l.begun

abbrev place : Script → Line → Text
place script l = place_text (state_of script l.state).name (phase_text l.phase)

abbrev counts : Line → Text
counts l = counts_text l.events l.idle

pub returns-in_err-put_call-clause-bytes : goal.returns-in_err-put_call-clause-bytes
returns-in_err-put_call-clause-bytes g c =
    let p = err_from_is_err_and c.from_residual.result c.from_residual.ensures.1 in
    let sent = c.in_err-put_call.ensures.bytes in
    let l = c.args.line.now in
    let more : Text = place c.args.script.now l ++ counts l in
    rw (p.1) (sent.0, sent.1 ++ more, sent.2, cut_short c.args.gathered.now (number l) more sent.0 sent.1 sent.3, tt)

-- the state and the phase, as they were handed on
same_place : (script : Script) (l : Line) (state phase : Text) → state ≡ (state_of script l.state).name → phase ≡ phase_text l.phase
    → place_text state phase ≡ place script l
same_place script l state phase p q = ap₂ place_text p q

pub returns-in_err-put_place-clause-bytes : goal.returns-in_err-put_place-clause-bytes
returns-in_err-put_place-clause-bytes g c =
    let p = err_from_is_err_and c.from_residual-in_err-put_place.result c.from_residual-in_err-put_place.ensures.1 in
    let contents = g.W.Sink.contents in
    let l = c.args.line.now in
    let given : Text = place_text c.state_name.result.now c.text.result.now in
    let second = c.in_err-put_place.ensures.bytes in
    let cut = cut_short c.put_call.new.gathered given (counts l) second.0 second.1 second.3 in
    let sent = next_text DeviceFault (contents c.args.sink.now) (contents c.put_call.new.sink) (contents c.put_place.new.sink) c.args.gathered.now
    (number l) (given ++ counts l) c.put_call.new.gathered (Err c.in_err-put_place.field-0.0) []
    c.in_ok-put_call.ensures.bytes (second.0, second.1 ++ counts l, second.2, cut, tt) in
    rw (p.1) (
      sent.0,
      sent.1,
      sent.2,
      ap (λ (t : Text). c.args.gathered.now ++ (number l ++ (t ++ counts l)))
          (sym (same_place c.args.script.now l _ _ c.state_name.ensures c.text.ensures)) ∙ sent.3,
      tt,
    )

pub returns-clause-bytes : goal.returns-clause-bytes
returns-clause-bytes g c =
    let contents = g.W.Sink.contents in
    let l = c.args.line.now in
    let given : Text = place_text c.state_name.result.now c.text.result.now in
    let more = next_text DeviceFault (contents c.put_call.new.sink) (contents c.put_place.new.sink) (contents c.put_counts.new.sink) c.put_call.new.gathered
    given (counts l) c.put_place.new.gathered c.put_counts.result c.put_counts.new.gathered
    c.in_ok-put_place.ensures.bytes c.put_counts.ensures.bytes in
    let sent = next_text DeviceFault (contents c.args.sink.now) (contents c.put_call.new.sink) (contents c.put_counts.new.sink) c.args.gathered.now
    (number l) (given ++ counts l) c.put_call.new.gathered c.put_counts.result c.put_counts.new.gathered
    c.in_ok-put_call.ensures.bytes more in (
      sent.0,
      sent.1,
      sent.2,
      ap (λ (t : Text). c.args.gathered.now ++ (number l ++ (t ++ counts l)))
          (sym (same_place c.args.script.now l _ _ c.state_name.ensures c.text.ensures)) ∙ sent.3,
      sent.4,
    )
