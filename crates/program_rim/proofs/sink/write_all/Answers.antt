-- One more write appends the next bytes of the text.
use Rattle.std.proofs.Common.{arith}
use Rattle.program_rim.proofs.Bytes.{Appends-next}
use Rattle.program_rim.proofs.sink.write_all.Goals as goal

pub loop-written-preserved : goal.loop-written-preserved
loop-written-preserved g c = record {
  within = omega (arith, c.in_ok-written.ensures.within);
  bytes = Appends-next _ _ _ _ _ _ c.loop-written.invariant.bytes c.in_ok-written.ensures.bytes;
  counted = omega (arith, c.in_ok-written.ensures.counted);
}
