-- All points are in their hull.
use Rattle.closure.proofs.kept_block.is_block_marked.Goals as goal

pub returns : goal.returns
returns c holds k small = c.are_joined_marked.ensures holds _ (c.in-Ok.ensures k small)
