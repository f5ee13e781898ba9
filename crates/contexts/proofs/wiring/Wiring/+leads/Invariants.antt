use Rattle.std.proofs.Common.{◌-◌, length, drop}
use Rattle.contexts.specs.Paths.{arrived, LeadsByOne}
use Rattle.contexts.specs.TiedBoard.{board_of}
use Rattle.contexts.proofs.PathLemmas.{most}
use Rattle.contexts.proofs.wiring.Wiring.+leads.Given as goal

-- the numbers that are not on the trail
abbrev pub decreases-leads : goal.decreases-leads
decreases-leads l = most l.self.now.table.ephemerals - length (arrived l.trail.now)

-- if media goes on by one of the members, it goes on by one of those that are left
abbrev pub invariant-loop-t : goal.invariant-loop-t
invariant-loop-t l = LeadsByOne (board_of l.self) (arrived l.trail) l.from l.to l.t-items → LeadsByOne (board_of l.self) (arrived l.trail) l.from l.to (drop l.t-index l.t-items)
