-- Each read adds what it gave to what was read before.
use Rattle.std.proofs.KnownBytes.{Consumes-trans}
use Rattle.program_rim.proofs.input.read_all.Goals as goal

pub returns-then-is_err-clause-bytes : goal.returns-then-is_err-clause-bytes
returns-then-is_err-clause-bytes g c =
    (_, Consumes-trans _ _ _ _ _ c.loop-chunk.invariant.bytes c.in-Ok.ensures.bytes.0)
