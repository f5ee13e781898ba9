-- What is seen of the line's list.
use Rattle.std.proofs.Common.{◌↔◌, ◌<◌, IsTrue, IfOk, List, length, arith, subst}
use Rattle.configuration.specs.Packed.{Words}
use Rattle.call_ways.specs.declared.sights.Sight.TheVariants as sight
use Rattle.call_ways.specs.Seen.{IsSeen}
use Rattle.call_ways.proofs.Warned.{line_deaf}
use Rattle.call_ways.proofs.warnings.is_line_deaf.Goals as goal

pub returns : goal.returns
returns c =
    let within : c.args.line < length c.args.script.now.lines = omega (arith, c.if-index-lines.false, c.index.ensures.value, c.lines.ensures.value) in
    line_deaf c.args.script.now c.args.reached.now c.is_seen.result c.args.state c.args.line within
    (subst (λ (configs : List Words). IfOk c.is_seen.result (λ holds. IsTrue holds ↔ IsSeen c.args.script.now configs (sight.Deafens c.args.state c.args.line)))
    c.configs.ensures c.is_seen.ensures)
