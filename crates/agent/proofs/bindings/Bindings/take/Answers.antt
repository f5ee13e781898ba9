-- A Subtract unbinds whatever the number of the request.
use Rattle.agent.proofs.bindings.Bindings.take.Goals as goal

pub returns-in-Subtract : goal.returns-in-Subtract
returns-in-Subtract c = rw c.in-Subtract.is (c.lose.ensures c.in-Subtract.context c.args.done.now c.args.number)

pub returns-in-SubtractAll : goal.returns-in-SubtractAll
returns-in-SubtractAll c = rw c.in-SubtractAll.is (c.lose_all.ensures c.args.number)
