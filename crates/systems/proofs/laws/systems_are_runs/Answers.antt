-- The law.
use Rattle.systems.proofs.Deeds.{runs_from}
use Rattle.systems.proofs.OpenedCalls.{calls_opened}
use Rattle.systems.proofs.laws.systems_are_runs.Goals as goal

pub returns : goal.returns
returns c script calls n s t opened made =
    let opening = calls_opened script calls s opened in (opening.is_opening, runs_from script n s t opening.are_of opening.are_open made)
