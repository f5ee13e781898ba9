use Rattle.std.proofs.Common.{arith}
use Rattle.digits.proofs.Remaining.{all_remain}
use Rattle.digits.proofs.collector.Collector.start.Goals as goal

pub returns-clause-follows : goal.returns-clause-follows
returns-clause-follows c = rw c.new.ensures (all_remain c.args.map.now c.alternatives.ensures.short, λ n lt. absurd (omega arith))
