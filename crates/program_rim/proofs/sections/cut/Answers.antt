-- Line after line, up to the first divider.
use Rattle.std.proofs.Common.{◌≡◌, ◌≤◌, length, false, arith, subst, sym}
use Rattle.std.proofs.lemmas.List.{take_rest, length-drop}
use Rattle.program_rim.proofs.Lines.{cut-start, cut-line}
use Rattle.program_rim.specs.Sections.{is_divider}
use Rattle.program_rim.proofs.sections.cut.Goals as goal

pub loop-start-init : goal.loop-start-init
loop-start-init c = record {
  within = omega arith;
  cut = cut-start c.args.text.now;
}

pub loop-start-preserved : goal.loop-start-preserved
loop-start-preserved c =
    let text = c.args.text.now in
    let start = c.loop-start.start in
    let inside = subst (λ rest. c.line_end.result ≤ length rest) (take_rest text start) c.line_end.ensures.within in
    rw c.split_at.ensures.front_len (record {
      within = omega (arith, inside, length-drop start text);
      cut = cut-line text _ start c.line_end.result (take_rest text start) c.loop-start.invariant.cut c.line_end.ensures.line
          (subst (λ line. is_divider line ≡ false) c.split_at.ensures.front (sym c.if-is_divider_line.ensures));
    })
