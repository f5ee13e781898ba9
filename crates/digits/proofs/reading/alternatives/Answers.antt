use Rattle.std.proofs.Common.{arith}
use Rattle.digits.proofs.Parts.{parts-bytes}
use Rattle.digits.proofs.reading.alternatives.Goals as goal

pub each-requires : goal.each-requires
each-requires c = rw (c.as_slice.ensures.value, c.in_ok-parts.ensures) (omega (arith, parts-bytes c.args.text.now, c.requires))
