-- The note at the place is settled too.
use Rattle.std.proofs.Common.{◌∙◌, sym}
use Rattle.agent.specs.AgentValue.{agent_of}
use Rattle.shards.proofs.SettledNotes.{settled_more}
use Rattle.shards.proofs.meaning.settled_from.Goals as goal

pub loop-place-preserved : goal.loop-place-preserved
loop-place-preserved c =
    settled_more (agent_of c.args.agent.now) c.args.notes.now c.loop-place.place c.index-notes-place.result c.loop-place-test.true c.index-notes-place.is
    (sym c.is_settled.ensures ∙ c.if-not-is_settled.false) c.loop-place.invariant
