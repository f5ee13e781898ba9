-- The line is among the slots that are left exactly where it is among all.
use Rattle.std.proofs.Common.{◌≡◌, [], ◌∷◌, length, drop}
use Rattle.mg_model.specs.Agent.{line_in}
use Rattle.mg_model.specs.Tables.{below, line_places}
use Rattle.agent.specs.Parts.{agent_in}
use Rattle.agent.proofs.bindings.Bindings.line_of.Given as goal

abbrev pub invariant-loop-slot : goal.invariant-loop-slot
invariant-loop-slot l = record {
  count : l.lines ≡ length l.script.lines;
  left : line_in (agent_in l.self) l.line.0 (below l.lines (drop l.slot-index (0 ∷ 1 ∷ 2 ∷ 3 ∷ []))) ≡ line_in (agent_in l.self) l.line.0 (line_places l.script);
}
