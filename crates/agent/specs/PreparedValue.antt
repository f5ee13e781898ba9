-- What a step that is prepared shows, and the agents that it leads to. A reader should check that what is finished has every part of what
-- is prepared, and that what is cancelled differs from the agent in the one note alone.
use Rattle.std.specs.Prelude.{ℕ, false, List, Option, Some, None, slice_index_or}
use Rattle.mg_model.specs.Agent.{Agent, Phase, inbox_of}
use Rattle.mg_model.specs.Delivery.{without_accepted}

pub record PreparedValue : Type 0 where
  -- the state that is entered, what is waited for there, and the number of the next request
  pub state : ℕ
  pub phase : Phase
  pub next : ℕ
  -- the line of the gateway for each line of the script, what each name is bound to, and the RequestID that is expected of each line
  pub lines : List ℕ
  pub contexts : List (Option ℕ)
  pub ephemerals : List (Option ℕ)
  pub expected : List (Option ℕ)
  -- a newer association, where the call heard of one
  pub association : Option ℕ
  -- the number of the note that is accepted, where a note reached the call
  pub note : Option ℕ

-- in a newer association, where there is one, nothing is accepted
abbrev pub in_newer : Agent → Option ℕ → Agent
in_newer a None = a
in_newer a (Some association) = record a { association = association; accepted = λ n. false }

-- the agent once the step is put in place
unfoldable pub finished : Agent → PreparedValue → Agent
finished a prepared = record (in_newer a prepared.association) {
  state = prepared.state;
  phase = prepared.phase;
  lines = λ i. slice_index_or prepared.lines i 0;
  contexts = λ j. slice_index_or prepared.contexts j None;
  ephemerals = λ k. slice_index_or prepared.ephemerals k None;
  next = prepared.next;
  expected = λ i. slice_index_or prepared.expected i None;
}

-- a note, where there is one, isn't accepted
abbrev pub without_note : Agent → Option ℕ → Agent
without_note a None = a
without_note a (Some number) = record a { accepted = (without_accepted (inbox_of a) number).accepted }

-- the agent once the step is taken back
abbrev pub cancelled : Agent → PreparedValue → Agent
cancelled a prepared = without_note a prepared.note
