-- What is seen is shown.
use Rattle.std.proofs.Common.{◌↔◌, IsTrue, IfOk, List, subst}
use Rattle.configuration.specs.Packed.{Words}
use Rattle.call_ways.specs.Seen.{IsSeen}
use Rattle.call_ways.proofs.Reaching.{shown_told}
use Rattle.call_ways.proofs.sights.is_shown.Goals as goal

pub returns : goal.returns
returns c =
    shown_told c.args.script.now c.args.reached.now c.is_seen.result c.args.sight.now
    (subst (λ (configs : List Words). IfOk c.is_seen.result (λ holds. IsTrue holds ↔ IsSeen c.args.script.now configs c.args.sight.now))
    c.configs.ensures c.is_seen.ensures)
