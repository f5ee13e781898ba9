-- The parts of an agent that its code goes by, as the definition has them. A reader should check that what is built by the bindings
-- alone names no other part of an agent.
use Rattle.std.specs.Prelude.{ℕ, false, if◌then◌else◌, List, Option, Some, None, slice_index_or}
use Rattle.mg_model.specs.declared.commands.Command.{Command}
use Rattle.mg_model.specs.declared.commands.Command.TheVariants.{AddLine, AddEphemeral, ModifyLine, ModifyEphemeral, MoveLine, MoveEphemeral, Subtract, SubtractAll, SetTopology}
use Rattle.mg_model.specs.Agent.{Agent, Made, is_listed, resting}
use Rattle.agent.specs.declared.bindings.Bindings.{Bindings}
use Rattle.agent.specs.declared.created_at.CreatedAt as declared

-- an agent with these bindings, of which nothing else is said
unfoldable pub agent_in : Bindings → Agent
agent_in b = record {
  call = 0;
  state = 0;
  phase = resting;
  association = 0;
  lines = λ i. slice_index_or b.lines i 0;
  contexts = λ j. slice_index_or b.contexts j None;
  ephemerals = λ k. slice_index_or b.ephemerals k None;
  next = 0;
  expected = λ i. slice_index_or b.expected i None;
  accepted = λ n. false;
}

-- what was created so far in a request
unfoldable pub made_of : declared.CreatedAt → Made
made_of m = record {
  contexts = λ j. slice_index_or m.contexts j None;
  ephemerals = λ k. slice_index_or m.ephemerals k None;
}

-- an agent with the bindings of another
abbrev pub bound_as : Agent → Agent → Agent
bound_as a b = record a { lines = b.lines; contexts = b.contexts; ephemerals = b.ephemerals; expected = b.expected }

-- a table, as a function of a slot
abbrev pub read_in : List (Option ℕ) → ℕ → Option ℕ
read_in table = λ k. slice_index_or table k None

-- what is left bound where these numbers are gone
abbrev pub without_listed : List ℕ → (ℕ → Option ℕ) → ℕ → Option ℕ
without_listed gone bound = λ k. if is_listed gone (bound k) then None else bound k

-- what is left expected where these lines went to the null context
abbrev pub without_lines : List ℕ → (ℕ → ℕ) → (ℕ → Option ℕ) → ℕ → Option ℕ
without_lines gone lines expected = λ i. if is_listed gone (Some (lines i)) then None else expected i

-- ---- kinds of commands

abbrev pub IsAdd : Command → Type 0
IsAdd (AddLine create j i o) = Unit {0}
IsAdd (AddEphemeral create j k o) = Unit {0}
IsAdd command = ⊥

abbrev pub IsModify : Command → Type 0
IsModify (ModifyLine place i o) = Unit {0}
IsModify (ModifyEphemeral place k o) = Unit {0}
IsModify command = ⊥

abbrev pub IsMove : Command → Type 0
IsMove (MoveLine j i o) = Unit {0}
IsMove (MoveEphemeral j k o) = Unit {0}
IsMove command = ⊥

abbrev pub IsEnding : Command → Type 0
IsEnding (Subtract j t) = Unit {0}
IsEnding (SubtractAll j) = Unit {0}
IsEnding (SetTopology j t u topology) = Unit {0}
IsEnding command = ⊥
