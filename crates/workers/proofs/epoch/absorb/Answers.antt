-- What the worker was done with is back.
use Rattle.std.proofs.Common.{[]}
use Rattle.std.proofs.lemmas.List.Elements.{All-head}
use Rattle.call_queues.specs.Passing.{OwnersGet}
use Rattle.workers.specs.Working.{PassesUntroubled}
use Rattle.workers.proofs.GivenValues.{given_ok}
use Rattle.workers.proofs.OverLemmas.{none_of}
use Rattle.workers.proofs.epoch.absorb.Goals as goal

pub returns-clause-back : goal.returns-clause-back
returns-clause-back c = λ test before all.
    given_ok (λ (value : Unit {0}). OwnersGet c.args.owners.now.items c.args.worked.worker_queues.items c.absorb_all.new.owners.items) c.absorb_all.result
    c.in_ok-given.field-0 c.in_ok-given.ensures c.absorb_all.ensures.back test before
    (All-head (PassesUntroubled test) c.args.worked [] all (none_of c.args.worked.trouble c.in_default.not-Some))
