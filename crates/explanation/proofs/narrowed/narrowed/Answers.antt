-- One configuration more; at the end, all.
use Rattle.explanation.proofs.Narrowing.{holds_all, one_more}
use Rattle.explanation.proofs.narrowed.narrowed.Goals as goal

pub loop-config-preserved : goal.loop-config-preserved
loop-config-preserved c =
    one_more c.args.entry.now c.args.configs.now c.loop-config.found c.in_ok-found.found c.loop-config.config-index c.config-item.result
    c.loop-config-test.true c.config-item.is c.loop-config.invariant c.in_ok-found.ensures.has c.in_ok-found.ensures.keeps c.in_ok-found.ensures.state

pub returns : goal.returns
returns c =
    holds_all c.args.entry.now c.args.configs.now c.loop-config.found c.loop-config.config-index c.loop-config-test.false c.loop-config.invariant
