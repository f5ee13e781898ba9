-- A second divider makes a third section.
use Rattle.program_rim.proofs.Lines.{pair-more}
use Rattle.program_rim.proofs.sections.two_sections.Goals as goal

pub returns-in-Some : goal.returns-in-Some
returns-in-Some c =
    pair-more c.args.input.now c.in_ok-script.rest.now c.in-Some.field-0.1.now _ _ c.in_ok-script.ensures c.in-Some.ensures
