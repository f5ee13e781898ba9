-- The script and its two reports.
use Rattle.mg_examples.proofs.ReportsDiffer.{reports_differ}
use Rattle.mg_examples.proofs.runs.reports_can_differ.Goals as goal

pub returns : goal.returns
returns c = reports_differ
