-- What an agent shows, lists and numbers alone, and from it the agent of the model. A reader should check that each part of the
-- agent of the model is read from the part of that name, and that past the end of a list nothing is bound or expected.
use Rattle.std.specs.Prelude.{ℕ, List, Option, None, slice_index_or}
use Rattle.delivery.specs.Inboxes.{Accepted, inbox_of}
use Rattle.mg_model.specs.Agent.{Agent, Phase, awaits_reply, awaits_pass, resting}
use Rattle.agent.specs.declared.phase.Phase as declared
use Rattle.agent.specs.declared.phase.Phase.TheVariants.{AwaitsReply, AwaitsPass, Resting}

pub record AgentValue : Type 0 where
  pub call : ℕ
  pub state : ℕ
  pub phase : Phase
  -- the line of the gateway for each line of the script
  pub lines : List ℕ
  -- what each name of the script is bound to
  pub contexts : List (Option ℕ)
  pub ephemerals : List (Option ℕ)
  -- the number of the next request
  pub next : ℕ
  -- of each line the RequestID that is expected in its notes
  pub expected : List (Option ℕ)
  -- the association, and the numbers of the notes that were accepted in it
  pub inbox : Accepted

-- the agent of the model
unfoldable pub agent_of : AgentValue → Agent
agent_of v = record {
  call = v.call;
  state = v.state;
  phase = v.phase;
  association = v.inbox.association;
  lines = λ i. slice_index_or v.lines i 0;
  contexts = λ j. slice_index_or v.contexts j None;
  ephemerals = λ k. slice_index_or v.ephemerals k None;
  next = v.next;
  expected = λ i. slice_index_or v.expected i None;
  accepted = (inbox_of v.inbox).accepted;
}

-- what is waited for
abbrev pub phase_of : declared.Phase → Phase
phase_of (AwaitsReply request) = awaits_reply request
phase_of AwaitsPass = awaits_pass
phase_of Resting = resting
