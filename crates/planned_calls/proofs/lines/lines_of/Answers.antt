-- The lines of those that are gone, and then that of the call that stands.
use Rattle.std.proofs.Common.{◌≡◌, ◌∙◌, ◌++◌, List, [], ◌∷◌, length, map, refl, ap}
use Rattle.std.proofs.lemmas.List.{map-append}
use Rattle.mg_model.specs.Reports.{ReportLine}
use Rattle.planned_calls.specs.ReportLines.{gone_line, line_of, number_of, numbers_from}
use Rattle.planned_calls.specs.declared.call_count.RetiredCall.{RetiredCall}
use Rattle.planned_calls.specs.declared.lines.Line.{Line}
use Rattle.planned_calls.proofs.NumberedLines.{numbered_lines}
use Rattle.planned_calls.proofs.lines.lines_of.Goals as goal

pub returns : goal.returns
returns c =
    let gone = c.as_slice-gone.result.now in
    let is : gone ≡ c.args.count.now.gone.items = c.as_slice-gone.ensures.value in
    let front = c.push_gone.new.lines.items in
    let last : Line = record {
      call = c.args.call;
      begun = length gone;
      state = c.args.state;
      phase = c.args.phase;
      events = c.args.count.now.events;
      idle = c.args.count.now.idle;
    } in (
      (λ script.
          ap (map (line_of script)) c.in_ok-push.ensures.items
          ∙ map-append (line_of script) front (last ∷ [])
          ∙ ap (λ (lines : List ReportLine). lines ++ line_of script last ∷ [])
          (c.in_ok-push_gone.ensures.told script ∙ ap (λ (old : List Line). map (line_of script) old ++ map (gone_line script) gone) c.new-lines.ensures.items)
          ∙ ap (λ (before : List RetiredCall). map (gone_line script) before ++ line_of script last ∷ []) is),
      numbered_lines c.args.call (length gone) front c.push.new.self.items last
          (c.in_ok-push_gone.ensures.numbered
          ∙ ap (λ (old : List Line). map number_of old ++ numbers_from c.args.call 0 (length gone)) c.new-lines.ensures.items)
          refl c.in_ok-push.ensures.items,
    )
