-- The connections on which it runs are equal to those that are asked.
use Rattle.requests.specs.Views.{line_notes}
use Rattle.test_layers.proofs.EqualStarts.{ended_with, from_equal}
use Rattle.test_layers.proofs.runs.ran.Goals as goal

pub returns : goal.returns
returns c =
    let equal = c.in_ok-equal.equal in
    let ended = c.in_ok-ended.ended in
    from_equal equal c.args.connections.now c.args.request.now c.args.chosen ended.1.results.items c.in_ok-equal.ensures.board c.in_ok-equal.ensures.lines
    (ended_with equal ended.0 c.args.request.now c.args.chosen ended.1.results.items (line_notes ended.1.notes.items) ended.1.failure c.in_ok-ended.ensures)
