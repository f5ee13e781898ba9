-- The examples, one for each obligation.
use Rattle.mg_examples.proofs.ClearNeeded.{clear_needed}
use Rattle.mg_examples.proofs.LiveNeeded.{live_needed}
use Rattle.mg_examples.proofs.MarkNeeded.{mark_needed}
use Rattle.mg_examples.proofs.OpeningNeeded.{opening_needed}
use Rattle.mg_examples.proofs.ResetNeeded.{reset_needed}
use Rattle.mg_examples.proofs.StepNeeded.{step_needed}
use Rattle.mg_examples.proofs.UnboundNeeded.{unbound_needed}
use Rattle.mg_examples.proofs.runs.each_obligation_is_needed.Goals as goal

pub returns-clause-opening : goal.returns-clause-opening
returns-clause-opening c = opening_needed

pub returns-clause-steps : goal.returns-clause-steps
returns-clause-steps c = step_needed

pub returns-clause-marks : goal.returns-clause-marks
returns-clause-marks c = mark_needed

pub returns-clause-cleared : goal.returns-clause-cleared
returns-clause-cleared c = clear_needed

pub returns-clause-unbound : goal.returns-clause-unbound
returns-clause-unbound c = unbound_needed

pub returns-clause-reset : goal.returns-clause-reset
returns-clause-reset c = reset_needed

pub returns-clause-live : goal.returns-clause-live
returns-clause-live c = live_needed
