-- Two agents that are the same but for a renaming of identifiers. A reader should check that each part of an agent is compared, and that its names are
-- bound to what stands for one another, or in neither.
use Rattle.std.specs.Prelude.{◌≡◌, ℕ, Option, Some, None}
use Rattle.mg_model.specs.Agent.{Agent, Phase, awaits_reply, awaits_pass, resting}
use Rattle.mg_alike.specs.Messages.{RequestsAlike}
use Rattle.mg_alike.specs.Renaming.{Renaming, OptionsAlike}

abbrev pub PhasesAlike : Renaming → Phase → Phase → Type 0
PhasesAlike r (awaits_reply one) (awaits_reply other) = RequestsAlike r one other
PhasesAlike r awaits_pass awaits_pass = Unit {0}
PhasesAlike r resting resting = Unit {0}
PhasesAlike r _ _ = ⊥

pub record AgentsAlike (r : Renaming) (a b : Agent) : Type 0 where
  pub call : b.call ≡ a.call
  pub state : b.state ≡ a.state
  pub phase : PhasesAlike r a.phase b.phase
  pub association : b.association ≡ a.association
  pub lines : b.lines ≡ a.lines
  pub contexts : (j : ℕ) → OptionsAlike r.contexts (a.contexts j) (b.contexts j)
  pub ephemerals : (k : ℕ) → OptionsAlike r.ephemerals (a.ephemerals k) (b.ephemerals k)
  pub next : b.next ≡ a.next
  pub expected : b.expected ≡ a.expected
  pub accepted : b.accepted ≡ a.accepted

-- a step that both take, to agents that are alike, or that neither can take
abbrev pub StepsAlike : Renaming → Option Agent → Option Agent → Type 0
StepsAlike r None None = Unit {0}
StepsAlike r (Some a) (Some b) = AgentsAlike r a b
StepsAlike r None (Some b) = ⊥
StepsAlike r (Some a) None = ⊥
