-- A world of a run is good where every run is.
use Rattle.systems.specs.Systems.{world_of}
use Rattle.systems.proofs.Deeds.{runs_from}
use Rattle.systems.proofs.OpenedCalls.{calls_opened}
use Rattle.systems.proofs.laws.systems_are_good.Goals as goal

pub returns : goal.returns
returns c script calls n s t good opened made =
    let opening = calls_opened script calls s opened in
    let run = runs_from script n s t opening.are_of opening.are_open made in
    good calls run.0 (world_of s) (world_of t) opening.is_opening run.1
