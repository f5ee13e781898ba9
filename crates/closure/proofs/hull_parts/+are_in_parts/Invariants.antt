-- A part may be parted less deep.
use Rattle.closure.proofs.hull_parts.+are_in_parts.Given as goal

abbrev pub decreases-are_in_parts : goal.decreases-are_in_parts
decreases-are_in_parts l = l.depth
