-- Where a call that is open in a shard is. A reader should check that it is said of whatever world the shard shows, and that nothing is told only where no
-- call of this number is open there.
use Rattle.std.specs.Prelude.{◌≡◌, ℕ, Option, Some, None}
use Rattle.mg_model.specs.Agent.{Agent, is_resting}
use Rattle.mg_model.specs.World.{World}
use Rattle.shards.specs.Shards.{IsWorldOf, ShardValue}
use Rattle.shards.specs.declared.standing.Standing.{Standing}

-- what is told of an agent
pub record Stands (a : Agent) (s : Standing) : Type 0 where
  pub association : s.association.0 ≡ a.association
  pub state : s.state ≡ a.state
  pub at_rest : s.is_resting ≡ is_resting a.phase

-- the agent of a call is there
pub record StandsAs (w : World) (call : ℕ) (s : Standing) : Type 0 where
  pub agent : Agent
  pub open_call : w.agent call ≡ Some agent
  pub association : s.association.0 ≡ agent.association
  pub state : s.state ≡ agent.state
  pub at_rest : s.is_resting ≡ is_resting agent.phase

abbrev pub IsStanding : World → ℕ → Option Standing → Type 0
IsStanding w call None = w.agent call ≡ None
IsStanding w call (Some s) = StandsAs w call s

abbrev pub TellsStanding : ShardValue → ℕ → Option Standing → Type 0
TellsStanding v call told = (w : World) → IsWorldOf v w → IsStanding w call told
