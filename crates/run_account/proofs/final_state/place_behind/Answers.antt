-- One event more of the call.
use Rattle.std.proofs.Common.{◌≡◌, ◌+◌, ℕ, arith, rules, subst}
use Rattle.run_shards.specs.Taking.{trail_of}
use Rattle.run_account.specs.FinalStates.{AreAllOf}
use Rattle.run_account.proofs.CountLemmas.{all_more}
use Rattle.run_account.proofs.final_state.place_behind.Goals as goal

pub loop-preserved : goal.loop-preserved
loop-preserved c =
    let trail = trail_of c.args.planned.now in
    let told = c.if-not-happened_to.ensures.yes (search rules) in
    let next : c.loop.place + 1 ≡ c.in_ok-place.place = omega (arith, c.in_ok-place.ensures) in
    record {
      all = subst (λ (n : ℕ). AreAllOf trail c.args.number.0 c.args.from (c.loop.counter + 1) n) next
          (all_more trail c.args.from c.loop.counter c.loop.place c.args.number told.0 told.1 c.loop.invariant.all);
      next = omega (arith, c.loop.invariant.next, next);
    }
