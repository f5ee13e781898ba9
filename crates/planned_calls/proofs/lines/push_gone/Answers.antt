-- One line more has the next number.
use Rattle.std.proofs.Common.{◌∙◌, ◌++◌, ℕ, List, [], ◌∷◌, get_or, map, take, sym, ap}
use Rattle.std.proofs.lemmas.List.{append_assoc, map-append, take_more}
use Rattle.mg_model.specs.Reports.{ReportLine}
use Rattle.planned_calls.specs.ReportLines.{gone_line, line_of, number_of, numbers_from}
use Rattle.planned_calls.specs.declared.call_count.RetiredCall.{RetiredCall}
use Rattle.planned_calls.proofs.NumberedLines.{numbered_next}
use Rattle.planned_calls.proofs.lines.push_gone.Goals as goal

pub loop-begun-preserved : goal.loop-begun-preserved
loop-begun-preserved c =
    let before = map number_of c.args.lines.now.items in
    let call = c.args.call in
    let k = c.loop-begun.begun in
    let gone = c.args.gone.now in
    let first : RetiredCall = record { state = 0; events = 0; idle = 0 } in
    let one = get_or gone k first in
    record {
      told = λ script.
          ap (map (line_of script)) c.in_ok-push.ensures.items
          ∙ map-append (line_of script) c.loop-begun.lines.items (_ ∷ [])
          ∙ ap (λ (lines : List ReportLine). lines ++ gone_line script one ∷ []) (c.loop-begun.invariant.told script)
          ∙ append_assoc (map (line_of script) c.args.lines.now.items) (map (gone_line script) (take k gone)) (gone_line script one ∷ [])
          ∙ ap (λ (lines : List ReportLine). map (line_of script) c.args.lines.now.items ++ lines)
          (sym (ap (map (gone_line script)) (take_more gone k first c.loop-begun-test.true) ∙ map-append (gone_line script) (take k gone) (one ∷ [])));
      numbered = ap (map number_of) c.in_ok-push.ensures.items
          ∙ map-append number_of c.loop-begun.lines.items (_ ∷ [])
          ∙ ap (λ (numbers : List (ℕ × ℕ)). numbers ++ (call, k) ∷ []) c.loop-begun.invariant.numbered
          ∙ append_assoc before (numbers_from call 0 k) ((call, k) ∷ [])
          ∙ ap (λ (numbers : List (ℕ × ℕ)). before ++ numbers) (sym (numbered_next call k));
    }
