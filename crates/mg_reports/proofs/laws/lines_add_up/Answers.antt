-- The law.
use Rattle.mg_reports.proofs.AddedUp.{lines_add}
use Rattle.mg_reports.proofs.laws.lines_add_up.Goals as goal

pub returns : goal.returns
returns c = lines_add
