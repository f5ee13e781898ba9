-- Each flag and each fate as it was asked.
use Rattle.std.proofs.Common.{refl}
use Rattle.call_ways.proofs.crossings.tell.Goals as goal

pub returns : goal.returns
returns c = record {
  arrow_is = refl;
  any = c.has_any.ensures;
  empty = c.has_empty.ensures;
  sending = c.has_sending.ensures;
  fates = c.in_ok-fates.ensures;
}
