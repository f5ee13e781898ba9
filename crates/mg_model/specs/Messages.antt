-- Messages between a call's agent and the gateway: requests with their commands, replies with the results, and notes
-- (H.248.1 section 8 on transactions, 7.2.7 on Notify). A reader should check that a command may name what an earlier one
-- of its request created, by that command's place, and that all else is by identifiers.
use Rattle.std.specs.Prelude.{ℕ, List, Option}
use Rattle.mg_names.specs.declared.modes.Mode.{Mode}
use Rattle.mg_names.specs.declared.topologies.Topology.{Topology}
use Rattle.mg_model.specs.declared.failures.Failure.{Failure}
use Rattle.mg_model.specs.declared.line_events.SignalSet.{SignalSet}
use Rattle.mg_model.specs.declared.references.ContextRef.{ContextRef}
use Rattle.mg_model.specs.declared.references.RemoteRef.{RemoteRef}
use Rattle.mg_model.specs.declared.references.TerminationRef.{TerminationRef}
use Rattle.mg_model.specs.Items.{Done}
use Rattle.mg_model.specs.LineEvents.{ListItem, Note}

-- what a command sets; Events and Signals descriptors are for lines alone
pub record Descriptors : Type 0 where
  pub mode : Option Mode
  pub remote : Option RemoteRef
  pub events : Option (List ListItem)
  pub signals : Option SignalSet

pub data RequestCommand : Type 0 where
  add_line : ContextRef → ℕ → Descriptors → RequestCommand
  add_ephemeral : ContextRef → Descriptors → RequestCommand
  modify : ContextRef → TerminationRef → Descriptors → RequestCommand
  move : ContextRef → TerminationRef → Descriptors → RequestCommand
  subtract : ContextRef → TerminationRef → RequestCommand
  subtract_all : ContextRef → RequestCommand
  set_topology : ContextRef → TerminationRef → TerminationRef → Topology → RequestCommand

-- a request of a call, in an association, with the number of its transaction
pub record Request : Type 0 where
  pub call : ℕ
  pub association : ℕ
  pub number : ℕ
  pub commands : List RequestCommand

-- the reply: the results of the commands that were done, and the place of the one that failed with its code, if one did
pub record Reply : Type 0 where
  pub call : ℕ
  pub association : ℕ
  pub number : ℕ
  pub results : List Done
  pub failure : Option Failure

-- a note on its way, with its number among the notes of its call
pub record SentNote : Type 0 where
  pub call : ℕ
  pub association : ℕ
  pub number : ℕ
  pub line : ℕ
  pub note : Note
