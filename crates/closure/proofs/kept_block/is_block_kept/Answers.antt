-- All points are in their hull, whatever names are bound.
use Rattle.std.proofs.Common.{arith}
use Rattle.closure.proofs.kept_block.is_block_kept.Goals as goal

pub returns : goal.returns
returns c holds k small formed = c.are_named_kept.ensures holds _ (c.in-Ok.ensures k small) (λ m none. absurd (omega (arith, none))) formed
