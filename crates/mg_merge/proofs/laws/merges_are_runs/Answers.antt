-- The law.
use Rattle.mg_merge.proofs.Shards.Merging.{merges}
use Rattle.mg_merge.proofs.laws.merges_are_runs.Goals as goal

pub returns : goal.returns
returns c = merges
