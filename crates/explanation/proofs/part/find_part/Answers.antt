-- What was come to is all that calls come to.
use Rattle.explanation.proofs.part.find_part.Goals as goal

pub part_of-requires : goal.part_of-requires
part_of-requires c = record { all = rw c.in-Some.is at c.in_ok-reached.ensures.all }
