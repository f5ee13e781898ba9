-- Where a call is, as its line of a report would say it. This profile's own.
use Rattle.std.specs.Prelude.{◌≡◌, ◌==◌}
use Rattle.agent.specs.AgentValue.{agent_of}
use Rattle.agent.specs.Calls.{value_of, variant_of}
use Rattle.agent.specs.declared.call.Next.{Next}
use Rattle.planned_calls.specs.ReportLines.{phase_in}
use Rattle.planned_calls.specs.Shards.{ShardValue}
use Rattle.taken_steps.specs.declared.position.Position.{Position}

pub record IsPlaced (v : ShardValue) (a : Next) (p : Position) : Type 0 where
  pub state : p.state ≡ (agent_of (value_of a).agent).state
  pub phase : p.phase ≡ phase_in ((agent_of (value_of a).agent).association == v.gateway.association) (variant_of a)
