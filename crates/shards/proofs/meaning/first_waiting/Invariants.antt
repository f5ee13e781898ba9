-- The first among all is the first of those that are left.
use Rattle.std.proofs.Common.{◌≡◌, drop}
use Rattle.std.specs.List.{find}
use Rattle.mg_model.specs.Reports.{is_waiting}
use Rattle.agent.specs.AgentValue.{agent_of}
use Rattle.shards.proofs.meaning.first_waiting.Given as goal

abbrev pub invariant-loop-note : goal.invariant-loop-note
invariant-loop-note l = find (is_waiting (agent_of l.agent)) (drop l.note-index l.notes) ≡ find (is_waiting (agent_of l.agent)) l.notes
