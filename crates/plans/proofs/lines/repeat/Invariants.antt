use Rattle.std.proofs.Common.{take, drop}
use Rattle.plans.proofs.LineLemmas.{numbers_of, Holds, GoesOn}
use Rattle.plans.proofs.lines.repeat.Given as goal

-- the set holds the lines so far, none of which came twice
abbrev pub invariant-loop-line : goal.invariant-loop-line
invariant-loop-line l =
    Holds l.seen.keys (numbers_of (take l.line-index l.lines))
    × GoesOn (numbers_of (take l.line-index l.lines)) (numbers_of (drop l.line-index l.lines)) (numbers_of l.lines)
