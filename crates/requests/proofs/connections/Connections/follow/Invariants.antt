use Rattle.requests.specs.Connected.{board_in, line_in, start_in}
use Rattle.requests.proofs.FollowLemmas.{IsUnderWay}
use Rattle.requests.proofs.connections.Connections.follow.Given as goal

-- so many commands are done
abbrev pub invariant-loop-place : goal.invariant-loop-place
invariant-loop-place l =
    IsUnderWay l.request.number l.fn.chosen (start_in l.fn.self) l.request.commands l.commands l.results l.place (board_in l.connections) (line_in l.connections)
