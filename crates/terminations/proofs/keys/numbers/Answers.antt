use Rattle.terminations.proofs.KeyLemmas.{lists_keys}
use Rattle.terminations.proofs.keys.numbers.Goals as goal

pub returns : goal.returns
returns g c = lists_keys c.args.from.now c.in_ok-found.found.items c.in_ok-found.ensures.unique c.in_ok-found.ensures.keys c.in_ok-found.ensures.sorted
