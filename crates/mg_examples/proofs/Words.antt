-- The words of the model that the proofs here cite, brought in from one place.
pub use Rattle.mg_model.specs.Accepted.{HasOne, IsCommandOf, IsContext, IsEntryOf, IsScript, IsSlot, IsStateOf, create_once, is_contexts, is_cuts, is_events}
pub use Rattle.mg_model.specs.Accepted.{is_modes, is_plays, is_spots}
pub use Rattle.mg_model.specs.Agent.{Agent, heard, noted, opened, passed, replied, timed}
pub use Rattle.mg_model.specs.Board.{Board, ContextExists, IsSettled, exists, mode_in, mode_of, null_row, place_in, place_of, remote_of, row_with, same_term}
pub use Rattle.mg_model.specs.Configuration.{Configuration, IsWellFormed, is_in, is_live, is_null, is_same, stands_in, value_of}
pub use Rattle.mg_model.specs.Delivery.{fresh}
pub use Rattle.mg_model.specs.Effects.{with_pair}
pub use Rattle.mg_model.specs.Entries.{Allows, Choice, Component, Entry, Includes, IsCovered, choices_of, chosen, contexts, cuts, events, link_choice, links}
pub use Rattle.mg_model.specs.Entries.{modes, numbered, plays, same_choice, size_of, spots}
pub use Rattle.mg_model.specs.Gateway.{Gateway, MayBegin, after_request, begun, board_restarted, offer_to, outcome_of, restarted, row_restarted, sent_notes}
pub use Rattle.mg_model.specs.Gateway.{start_of, with_line, with_notes}
pub use Rattle.mg_model.specs.Items.{Chosen, Done, IsExecuted, IsLegal, Lists, given, is_context_number, rank, row_at}
pub use Rattle.mg_model.specs.LineEvents.{LineRow, ListItem, new_line, silent}
pub use Rattle.mg_model.specs.Messages.{Descriptors, Reply, Request, RequestCommand, SentNote, add_line, subtract}
pub use Rattle.mg_model.specs.Numbers.{choose, null}
pub use Rattle.mg_model.specs.Obligations.{Asks, AtPoint, Claim, ComesBefore, CreatedAreUnbound, CreatedUnbound, Duty, EndedCleared, EndedIsCleared, Holds}
pub use Rattle.mg_model.specs.Obligations.{IsCleared, JoinedAreMarked, JoinedMarked, KeyBefore, NamesAreLive, NamesLive, NamesStep, NoneBroken, OfPoint}
pub use Rattle.mg_model.specs.Obligations.{OpeningCovered, ResetCovered, StepCovered, entry_named, key_of, obligation_of, point_named}
pub use Rattle.mg_model.specs.RequestRun.{Fails, Running, Succeeds, after_command, item_at}
pub use Rattle.mg_model.specs.Script.{Script, State}
pub use Rattle.mg_model.specs.Steps.{Step, names_unbound, opening, reset, steps_of, unused, with_link, with_state}
pub use Rattle.mg_model.specs.Tables.{is_armed_list, is_empty, is_marked, items_of, line_places, state_of}
pub use Rattle.mg_model.specs.World.{AgentSteps, AreDistinct, Begins, IsFirst, IsGood, IsLineOf, IsOpening, LineOccurs, Opened, World, agent_steps, armed_line}
pub use Rattle.mg_model.specs.World.{execute, hear, note, on_a_line, pass, reply, timer, with_gateway}
pub use Rattle.mg_model.specs.declared.commands.Command.{Command}
pub use Rattle.mg_model.specs.declared.commands.Command.TheVariants.{AddLine, Subtract}
pub use Rattle.mg_model.specs.declared.commands.EventsName.{EventsName}
pub use Rattle.mg_model.specs.declared.commands.EventsName.TheVariants.{Armed, Empty, Own}
pub use Rattle.mg_model.specs.declared.commands.Termination.{Termination}
pub use Rattle.mg_model.specs.declared.commands.Termination.TheVariants.{Ephemeral}
pub use Rattle.mg_model.specs.declared.components.Remote.TheVariants.{Gone, To, Unset}
pub use Rattle.mg_model.specs.declared.components.Spot.{Spot}
pub use Rattle.mg_model.specs.declared.components.Spot.TheVariants.{Absent, In, Null}
pub use Rattle.mg_model.specs.declared.events.Event.{Event}
pub use Rattle.mg_model.specs.declared.events.Event.TheVariants.{Restart}
pub use Rattle.mg_model.specs.declared.references.ContextRef.{ContextRef}
pub use Rattle.mg_model.specs.declared.references.ContextRef.TheVariants.{MadeAt, Number}
pub use Rattle.mg_model.specs.declared.rows.Row.{Row}
pub use Rattle.mg_model.specs.declared.transitions.Pair.{Pair}
pub use Rattle.mg_names.specs.declared.codes.Code.TheVariants.{AlreadyInContext, InsufficientResources, InternalFailure, NotInContext, UnknownContext}
pub use Rattle.mg_names.specs.declared.codes.Code.TheVariants.{UnknownTermination}
pub use Rattle.mg_names.specs.declared.context_values.ContextValue.{ContextValue}
pub use Rattle.mg_names.specs.declared.context_values.ContextValue.TheVariants.{Free, Live, Stale}
pub use Rattle.mg_names.specs.declared.identifiers.TermId.{TermId}
pub use Rattle.mg_names.specs.declared.identifiers.TermId.TheVariants.{Eph}
pub use Rattle.mg_names.specs.declared.modes.Mode.{Mode}
pub use Rattle.mg_names.specs.declared.modes.Mode.TheVariants.{Inactive, SendReceive}
pub use Rattle.mg_names.specs.declared.phases.LinkPhase.{LinkPhase}
pub use Rattle.mg_names.specs.declared.phases.LinkPhase.TheVariants.{Answered, Failed, Resting, Sent}
