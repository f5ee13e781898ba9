use Rattle.std.proofs.Common.{ℕ, subst, take, rules}
use Rattle.requests.specs.Commands.{IsRepeated}
use Rattle.requests.specs.Connected.{board_in, line_in}
use Rattle.requests.specs.Views.{command_of}
use Rattle.requests.proofs.FollowLemmas.{has_command, is_legal, goes_on_so, ends_so}
use Rattle.requests.proofs.connections.Connections.follow.Goals as goal

pub bounds-commands-place : goal.bounds-commands-place
bounds-commands-place c = has_command _ _ _ _ _ _ _ _ _ c.loop-place.invariant c.loop-place-test.true

pub repeat-requires : goal.repeat-requires
repeat-requires c = is_legal _ _ _ _ _ _ _ _ _ c.loop-place.invariant c.loop-place-test.true c.index-commands-place.result (search rules)

pub loop-place-preserved : goal.loop-place-preserved
loop-place-preserved c =
    goes_on_so _ _ _ _ _ _ _ _ _ c.loop-place.invariant c.loop-place-test.true c.index-commands-place.result (search rules) c.index-results-place.result (search rules) _ _
    (subst (λ (number : ℕ). IsRepeated (board_in c.loop-place.connections) (line_in c.loop-place.connections) (command_of c.index-commands-place.result)
    (take c.loop-place.place c.args.results.now) c.index-results-place.result number (board_in c.repeat.new.self) (line_in c.repeat.new.self)) c.number-number.ensures
    (c.if-not-repeat.ensures (search rules)))

pub returns : goal.returns
returns c = ends_so _ _ _ _ _ _ _ _ _ c.loop-place.invariant c.loop-place-test.false c.settle.new.self c.settle.ensures.board c.settle.ensures.lines
