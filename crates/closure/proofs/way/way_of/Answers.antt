-- What is counted is kept and marked.
use Rattle.configuration.specs.Config.{configuration_of}
use Rattle.entry_table.specs.Shown.{shown_all}
use Rattle.closure.proofs.FormedCounts.{block_passed}
use Rattle.closure.proofs.way.way_of.Goals as goal

pub returns : goal.returns
returns c =
    block_passed c.args.script.now c.args.cert.now (shown_all c.args.components.now) (configuration_of c.args.config.now) c.count_formed.result
    c.count_formed.ensures.few (c.count_formed.ensures.counted c.args.script.now c.args.cert.now)
    (c.is_block_kept.ensures c.if-not-is_block_kept.false) (c.is_block_marked.ensures c.if-not-is_block_marked.false)
