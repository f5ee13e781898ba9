-- The first line ends at the first line feed.
use Rattle.std.proofs.Common.{sym}
use Rattle.program_rim.proofs.Lines.{lines-feed, lines-none}
use Rattle.program_rim.proofs.sections.line_end.Goals as goal

pub returns-in-Some-clause-line : goal.returns-in-Some-clause-line
returns-in-Some-clause-line c = lines-feed _ _ (sym c.in-Some.ensures)

pub returns-in-None-clause-line : goal.returns-in-None-clause-line
returns-in-None-clause-line c = lines-none _ (sym c.in-None.ensures) c.requires
