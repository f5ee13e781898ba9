-- The words of the model that the proofs of these laws cite, and the small lemmas on tests, options and lists, brought in from one place.
pub use Rattle.std.proofs.lemmas.Bool.{and_from, cases_Bool, cases_lt, eq-eqb, eqb-false, eqb-true, false_from_ne_true, or_left, or_right, true_from_ne_false}
pub use Rattle.std.proofs.lemmas.Bool.Decides.{nat_tests}
pub use Rattle.std.proofs.lemmas.List.{append_assoc, append_cancel_left}
pub use Rattle.std.proofs.lemmas.List.Elements.{All-cons, All-contains_itself, All-head, All-nil, All-push, All-tail, All-weaker, Contains-append_cases}
pub use Rattle.std.proofs.lemmas.List.Elements.{Contains-append_left, Contains-append_right, filter_agree}
pub use Rattle.std.proofs.lemmas.Option.{get_or_from_slice_get, slice_get_past, slice_get_within, unwrap_or-slice_get}
pub use Rattle.std.specs.List.{All, filter, find, flat_map, list_any}
pub use Rattle.mg_model.specs.Accepted.{IsCommandOf, IsEntryOf, IsScript, IsSlot}
pub use Rattle.mg_model.specs.Agent.{Agent, Made, Phase, added_to, after_result, after_results, answers, awaits_pass, awaits_reply, begun, bound_by, bound_if}
pub use Rattle.mg_model.specs.Agent.{built_by, command_of, commands_of, context_or, context_ref, entered, entered_if, entered_or_rests, entered_or_stays}
pub use Rattle.mg_model.specs.Agent.{entered_with, ephemeral_descriptors, ephemeral_or, ephemeral_ref, expected_if, forgotten, heard, inbox_of, is_listed}
pub use Rattle.mg_model.specs.Agent.{is_resting, leads_on, line_descriptors, line_in, made_after, may_accept, none_made, noted, opened, passed, passed_in}
pub use Rattle.mg_model.specs.Agent.{place_ref, remote_ref, replied, replied_to, request_of, resting, same_number, target_of, termination_ref, timed}
pub use Rattle.mg_model.specs.Board.{Board, ContextExists, IsSettled, exists, mode_in, mode_of, null_row, place_in, place_of, remote_in, remote_of, row_with}
pub use Rattle.mg_model.specs.Board.{same_term}
pub use Rattle.mg_model.specs.Configuration.{Configuration, is_free}
pub use Rattle.mg_model.specs.Delivery.{Offer, arrival, discard, fresh, is_new, kept, offer, offer_by, with_accepted}
pub use Rattle.mg_model.specs.Entries.{Entry}
pub use Rattle.mg_model.specs.Failures.{code_of}
pub use Rattle.mg_model.specs.Gateway.{CallLink, Gateway, IsExecutedBy, MayBegin, after_request, board_restarted, creator_after, handed_over, last_executed}
pub use Rattle.mg_model.specs.Gateway.{link_restarted, notes_from, numbered, offer_to, outcome_of, reply_of, restarted, row_restarted, sent_notes, start_of}
pub use Rattle.mg_model.specs.Gateway.{with_line, with_notes}
pub use Rattle.mg_model.specs.Items.{Applies, Chosen, Done, IsExecuted, IsFresh, IsLegal, IsResult, IsRising, IsUsedUp, LacksContext, Lists, creates_context}
pub use Rattle.mg_model.specs.Items.{creates_ephemeral, effect, given, is_context_number, is_ephemeral_number, is_misplaced, is_taken, lacks_termination}
pub use Rattle.mg_model.specs.Items.{names_nothing, only_if, placed, rank, remote_refused, remote_set, row_at, subtracted, subtracts, target}
pub use Rattle.mg_model.specs.LineEvents.{LineRow, Note, Outcome, cleared}
pub use Rattle.mg_model.specs.Media.{is_number}
pub use Rattle.mg_model.specs.Messages.{Descriptors, Reply, Request, RequestCommand, SentNote, add_ephemeral, add_line, modify, move, set_topology, subtract}
pub use Rattle.mg_model.specs.Messages.{subtract_all}
pub use Rattle.mg_model.specs.Numbers.{all, choose, first_association, last_association, last_number, no_ephemeral, null, plan_calls, the_association, the_call}
pub use Rattle.mg_model.specs.Numbers.{the_context, the_line}
pub use Rattle.mg_model.specs.Obligations.{IsLive, NoneBroken}
pub use Rattle.mg_model.specs.Plans.{Plan, PlanCall, epochs_of, number_begun, opened_as, restarts_among, restarts_asked, restarts_of_all, restarts_of_others}
pub use Rattle.mg_model.specs.Plans.{steps_in}
pub use Rattle.mg_model.specs.Reports.{IsReported, Means, MeansNote, MeansReply, MeansRequest, Progress, ReportLine, StepHappens, StepIsIdle, after_event}
pub use Rattle.mg_model.specs.Reports.{is_of, is_waiting, line_now, line_retired, phase_word, refusal_at, start_as}
unfoldable pub use Rattle.mg_model.specs.Reports.{AreReported, IsPlacing, StepsRun}
pub use Rattle.mg_model.specs.Request.{Names, built, place_known, remote_option_known, termination_known, uses_known}
pub use Rattle.mg_model.specs.RequestRun.{Fails, IsRefusedWith, LineDescriptors, MayRefuse, RaisedNote, Running, Succeeds, after_command, chosen_at, context_at}
pub use Rattle.mg_model.specs.RequestRun.{described_row, descriptors_for, ephemeral_at, has_new_events, is_line, item_at, line_after, note_from, of_termination}
pub use Rattle.mg_model.specs.RequestRun.{on_line, raised, remote_at, standing, termination_at, with_descriptors}
unfoldable pub use Rattle.mg_model.specs.RequestRun.{RunsFrom}
pub use Rattle.mg_model.specs.Script.{Script, State}
pub use Rattle.mg_model.specs.Shards.{AgreesWith, AreApart, AreLeft, HasIdentifiersLeft, History, IsContextLeft, IsEphemeralLeft, IsEventOf, IsShardRun, Shard}
pub use Rattle.mg_model.specs.Shards.{all_calls, histories, merged, together}
unfoldable pub use Rattle.mg_model.specs.Shards.{AreAllApart, RunsWithin, cut_at_restarts, merged_from, restarts_in}
pub use Rattle.mg_model.specs.Tables.{is_empty, line_places, no_state, state_of, target_in}
pub use Rattle.mg_model.specs.Updates.{with_at}
pub use Rattle.mg_model.specs.World.{AgentSteps, AreDistinct, AreOpenedLines, Begins, Executes, HasEnded, IsFirst, IsLineOf, IsNoteOf, IsOpening, IsRepeat}
pub use Rattle.mg_model.specs.World.{IsReplyOf, IsRequestOf, LineOccurs, Occurs, OccursTo, Opened, World, agent_steps, armed_line, begin, execute, hear, note}
pub use Rattle.mg_model.specs.World.{on_a_line, pass, reply, sent_in, timer, with_gateway}
unfoldable pub use Rattle.mg_model.specs.World.{Runs}
pub use Rattle.mg_model.specs.declared.commands.Command.{Command}
pub use Rattle.mg_model.specs.declared.commands.Command.TheVariants.{AddEphemeral, AddLine, ModifyEphemeral, ModifyLine, MoveEphemeral, MoveLine}
pub use Rattle.mg_model.specs.declared.commands.EphemeralOptions.{EphemeralOptions}
pub use Rattle.mg_model.specs.declared.commands.LineOptions.{LineOptions}
pub use Rattle.mg_model.specs.declared.commands.Place.{Place}
pub use Rattle.mg_model.specs.declared.commands.Place.TheVariants.{Context, NullContext}
pub use Rattle.mg_model.specs.declared.commands.RemoteOption.{RemoteOption}
pub use Rattle.mg_model.specs.declared.commands.RemoteOption.TheVariants.{NoneGiven, Peer}
pub use Rattle.mg_model.specs.declared.commands.Termination.{Termination}
pub use Rattle.mg_model.specs.declared.components.Remote.{Remote}
pub use Rattle.mg_model.specs.declared.components.Remote.TheVariants.{Gone, Unset}
pub use Rattle.mg_model.specs.declared.components.Spot.{Spot}
pub use Rattle.mg_model.specs.declared.components.Spot.TheVariants.{Absent, In, Null}
pub use Rattle.mg_model.specs.declared.events.CallEvent.{CallEvent}
pub use Rattle.mg_model.specs.declared.events.Event.{Event}
pub use Rattle.mg_model.specs.declared.events.Event.TheVariants.{OfCall, Restart}
pub use Rattle.mg_model.specs.declared.failures.ChosenRefusal.{ChosenRefusal}
pub use Rattle.mg_model.specs.declared.failures.Failure.{Failure}
pub use Rattle.mg_model.specs.declared.failures.Refusal.{Refusal}
pub use Rattle.mg_model.specs.declared.items.Added.{Added}
pub use Rattle.mg_model.specs.declared.items.Item.{Item}
pub use Rattle.mg_model.specs.declared.items.Item.TheVariants.{Add, Modify, Move, SetTopology, Subtract, SubtractAll}
pub use Rattle.mg_model.specs.declared.items.RemoteSetting.{RemoteSetting}
pub use Rattle.mg_model.specs.declared.items.RemoteSetting.TheVariants.{Ephemeral, Nothing}
pub use Rattle.mg_model.specs.declared.items.Settings.{Settings}
pub use Rattle.mg_model.specs.declared.line_events.Hook.TheVariants.{Off, On}
pub use Rattle.mg_model.specs.declared.line_events.LineEvent.{LineEvent}
pub use Rattle.mg_model.specs.declared.line_events.LineEvent.TheVariants.{Digit, Flash, Hook, Pause, SignalEnd}
pub use Rattle.mg_model.specs.declared.plans.PlanStep.{PlanStep}
pub use Rattle.mg_model.specs.declared.plans.PlanStep.TheVariants.{Dials, Ends, Flashes, GoesOff, GoesOn, Hears, Passes, Pauses, Restarts, TakesNote}
pub use Rattle.mg_model.specs.declared.plans.PlanStep.TheVariants.{TakesReply, TimesOut}
pub use Rattle.mg_model.specs.declared.references.ContextRef.{ContextRef}
pub use Rattle.mg_model.specs.declared.references.ContextRef.TheVariants.{MadeAt, Number}
pub use Rattle.mg_model.specs.declared.references.EphemeralRef.{EphemeralRef}
pub use Rattle.mg_model.specs.declared.references.RemoteRef.{RemoteRef}
pub use Rattle.mg_model.specs.declared.references.RemoteRef.TheVariants.{To}
pub use Rattle.mg_model.specs.declared.references.TerminationRef.{TerminationRef}
pub use Rattle.mg_model.specs.declared.rows.Row.{Row}
pub use Rattle.mg_names.specs.declared.codes.Code.{Code}
pub use Rattle.mg_names.specs.declared.codes.Code.TheVariants.{AlreadyInContext, InsufficientResources, InternalFailure, NotInContext, UnknownContext}
pub use Rattle.mg_names.specs.declared.codes.Code.TheVariants.{UnknownTermination}
pub use Rattle.mg_names.specs.declared.context_values.ContextValue.{ContextValue}
pub use Rattle.mg_names.specs.declared.identifiers.CallNo.{CallNo}
pub use Rattle.mg_names.specs.declared.identifiers.ContextId.{ContextId}
pub use Rattle.mg_names.specs.declared.identifiers.LineNo.{LineNo}
pub use Rattle.mg_names.specs.declared.identifiers.TermId.{TermId}
pub use Rattle.mg_names.specs.declared.identifiers.TermId.TheVariants.{Eph, Line}
pub use Rattle.mg_names.specs.declared.modes.Mode.{Mode}
pub use Rattle.mg_names.specs.declared.modes.Mode.TheVariants.{Inactive}
pub use Rattle.mg_names.specs.declared.topologies.Topology.{Topology}
pub use Rattle.mg_model.proofs.Cases.{and_first, and_second, at_another, at_one, by_test, denied, different, false_not_true, neither_first, none_is_some}
pub use Rattle.mg_model.proofs.Cases.{neither_second, none_of, not_both, not_refused, same_itself, same_test, some_is_none, some_of, the_some, where_false}
pub use Rattle.mg_model.proofs.Cases.{where_true}
pub use Rattle.mg_model.proofs.Single.{first_in, first_or_later, in_joined, later_in, none_in, nothing_in, only_here, only_one}
