-- There is a first one, or none.
use Rattle.call_ways.proofs.Passing.{any_in}
use Rattle.call_ways.proofs.crossings.has_any.Goals as goal

pub returns : goal.returns
returns c = any_in c.args.configs.now
