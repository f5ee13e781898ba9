-- The number of the call of the plan, and behind it that of the call that began within it.
use Rattle.std.proofs.Common.{◌∙◌, ◌++◌, ℕ, codes, decimal, sym, ap}
use Rattle.std.proofs.lemmas.Bool.{ne_eqb}
use Rattle.std.proofs.lemmas.Result.{err_from_is_err_and}
use Rattle.program_rim.proofs.Gathering.{cut_short, next_text}
use Rattle.program_rim.specs.declared.source.DeviceFault.{DeviceFault}
use Rattle.check_lines.specs.Output.{Text, begun_text}
use Rattle.run_reports.proofs.report.put_call.Goals as goal

abbrev named : ℕ → Text
named call = codes "call " ++ decimal call

pub returns-in_err-put_number-clause-bytes : goal.returns-in_err-put_number-clause-bytes
returns-in_err-put_number-clause-bytes g c =
    let p = err_from_is_err_and c.from_residual.result c.from_residual.ensures.1 in
    let sent = c.in_err-put_number.ensures.bytes in
    let more : Text = begun_text c.args.begun in
    rw (p.1) (
      sent.0,
      sent.1 ++ more,
      sent.2,
      ap (λ n. c.args.gathered.now ++ (named n ++ more)) (sym c.from.ensures)
          ∙ cut_short c.args.gathered.now (named c.from.result) more sent.0 sent.1 sent.3,
      tt,
    )

pub returns-clause-bytes : goal.returns-clause-bytes
returns-clause-bytes g c =
    let contents = g.W.Sink.contents in
    let more : Text = codes "." ++ decimal c.args.begun in
    let sent = next_text DeviceFault (contents c.args.sink.now) (contents c.put_number.new.sink) (contents c.put_number-2.new.sink) c.args.gathered.now
    (named c.from.result) more c.put_number.new.gathered c.put_number-2.result c.put_number-2.new.gathered
    c.in_ok-put_number.ensures.bytes c.put_number-2.ensures.bytes in
    rw (ne_eqb c.args.begun 0 c.if-begun-eq0.false) (sent.0, sent.1, sent.2, ap (λ n. c.args.gathered.now ++ (named n ++ more)) (sym c.from.ensures) ∙ sent.3, sent.4)
