-- A call that its shard shows is told as it stands there.
use Rattle.std.proofs.Common.{ℕ, inl, subst}
use Rattle.run_shards.specs.Standings.{StandsAs}
use Rattle.run_account.specs.OtherLines.{IsOtherStanding, stands_otherwise}
use Rattle.run_account.proofs.FinalLines.{open_as}
use Rattle.run_account.proofs.final_state.is_left.Goals as goal

pub returns-in-Some-clause-yes : goal.returns-in-Some-clause-yes
returns-in-Some-clause-yes c told w is =
    inl (open_as c.args.script.now c.args.shard.now w c.args.number.0 c.association.result.0 c.in-Some.standing c.args.line.now is (c.in-Some.ensures w is)
    c.association.ensures c.requires (c.is_open_as.ensures.state told) (c.is_open_as.ensures.phase told))

pub returns-in-Some-clause-no : goal.returns-in-Some-clause-no
returns-in-Some-clause-no c told =
    stands_otherwise c.in-Some.standing (λ w is. subst (λ (n : ℕ). StandsAs w n c.in-Some.standing) c.requires (c.in-Some.ensures w is))
    (subst (λ (n : ℕ). IsOtherStanding c.args.script.now c.in-Some.standing n c.args.line.now) c.association.ensures (c.is_open_as.ensures.no told))
