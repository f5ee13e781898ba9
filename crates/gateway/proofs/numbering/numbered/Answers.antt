use Rattle.std.proofs.Common.{arith, length-append, [], ◌∷◌}
use Rattle.gateway.proofs.NoteLemmas.{sent_step}
use Rattle.gateway.proofs.numbering.numbered.Goals as goal

pub loop-noted-preserved : goal.loop-noted-preserved
loop-noted-preserved c = record {
  number = omega (arith, length-append c.loop-noted.yielded (c.in-Some.noted ∷ []));
  sent = sent_step _ _ _ c.loop-noted.number c.loop-noted.yielded c.in-Some.noted _ _ _ c.loop-noted.invariant.number c.loop-noted.invariant.sent (rw (c.id.ensures.call, c.id.ensures.association) at c.new.ensures) c.in_ok-push.ensures.items;
}
