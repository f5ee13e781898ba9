use Rattle.gateway.proofs.CreatorLemmas.{NotedTo}
use Rattle.gateway.proofs.creators.note.Given as goal

-- what was noted of the results up to here
abbrev pub invariant-loop-done : goal.invariant-loop-done
invariant-loop-done l = NotedTo l.results l.done-index l.call l.fn.creators.entries l.creators.entries
