-- The history of each shard stands at the shard's place.
use Rattle.std.proofs.Common.{length, arith}
use Rattle.run_account.proofs.LeftHistories.{read_alike}
use Rattle.run_account.proofs.histories.histories.Goals as goal

pub returns : goal.returns
returns g c =
    let histories = c.in_ok-histories.histories in
    let shards = c.args.shards in
    read_alike (λ history. history.items) (λ v. v.history) histories.items shards.items
    (omega (arith, c.in_ok-histories.ensures.len, histories.ok.0, shards.ok.0))
    (λ k d below. let given = (c.in_ok-histories.ensures.each k d below).1 in record { other = given.job; stands = given.job_is; alike = given.call.met })
