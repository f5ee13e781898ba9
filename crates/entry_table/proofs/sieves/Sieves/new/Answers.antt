-- No group has a sieve.
use Rattle.entry_table.proofs.LeftLemmas.{left_of_bare}
use Rattle.entry_table.proofs.sieves.Sieves.new.Goals as goal

pub returns-clause-left : goal.returns-clause-left
returns-clause-left c = left_of_bare (record { count = c.args.count; groups = c.loop-group.groups.items }) c.loop-group.invariant.bare
