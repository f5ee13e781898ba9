-- The request had these results from connections that are equal to those that follow it.
use Rattle.std.proofs.Common.{List, sym, subst}
use Rattle.mg_model.specs.Items.{Done}
use Rattle.requests.specs.Connected.{HasResults}
use Rattle.test_layers.proofs.EqualStarts.{from_equal}
use Rattle.test_layers.proofs.runs.followed.Goals as goal

pub follow-requires : goal.follow-requires
follow-requires c =
    let equal = c.in_ok-equal.equal in
    subst (λ (results : List Done). HasResults equal c.args.request.now c.args.chosen results) (sym c.as_slice.ensures.value)
    (from_equal c.args.connections.now equal c.args.request.now c.args.chosen _ (sym c.in_ok-equal.ensures.board) (sym c.in_ok-equal.ensures.lines) c.in_ok-outcome.ensures)
