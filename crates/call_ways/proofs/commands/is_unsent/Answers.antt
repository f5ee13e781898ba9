-- Each fate as the arrows tell of it.
use Rattle.call_ways.proofs.Telling.{unsent_is}
use Rattle.call_ways.proofs.commands.is_unsent.Goals as goal

pub returns : goal.returns
returns c = λ script entries are.
    unsent_is script entries c.args.crossings.now are c.args.state c.args.place c.is_met-left_out.result c.is_met-not_reached.result
    c.is_met-refused.result c.is_met-done.result c.is_met-left_out.ensures c.is_met-not_reached.ensures c.is_met-refused.ensures
    c.is_met-done.ensures c.is_first_alone.result c.is_first_alone.ensures
