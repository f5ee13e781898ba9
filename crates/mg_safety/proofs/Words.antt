-- The words of std and of the model that the proofs here cite, brought in from one place. Declares nothing.
pub use Rattle.std.proofs.Common.{if◌then◌else◌, ◌&&◌, ◌*◌, ◌++◌, ◌+◌, ◌<◌, ◌==◌, ◌||◌, ◌∙◌, ◌∷◌, ◌≡◌, ◌≤◌, ◌⊎◌, Bool, Contains, IsTrue, List, None, Option}
pub use Rattle.std.proofs.Common.{Some, [], ap, append_assoc, arith, false, get_or, inl, inr, is_some, length, length-append, ltb-true, map, nat_lt, not, refl}
pub use Rattle.std.proofs.Common.{slice_index_or, subst, subst₂, suc, sym, true, true≢false, zero, ℕ}
pub use Rattle.std.specs.Prelude.{filter, nat_le, option_and_then, option_map, slice_get, unwrap_or}
pub use Rattle.std.proofs.Math.Nat.{eq-or-lt_of_le, mul-le-mul_right}
pub use Rattle.std.proofs.Math.Path.{fun_ext}
pub use Rattle.std.proofs.lemmas.Bool.{and_from, and_parts, cases_Bool, cases_eq, cases_lt, eq-eqb, eqb-false, eqb-true, false_from_ne_true, lt-ltb, or_left}
pub use Rattle.std.proofs.lemmas.Bool.{or_right, true_from_ne_false}
pub use Rattle.std.proofs.lemmas.Grind.{common_steps}
pub use Rattle.std.proofs.lemmas.List.Elements.{All-append, All-cons, All-contains, All-head, All-nil, All-tail, Contains-append_cases, Contains-append_left}
pub use Rattle.std.proofs.lemmas.List.Elements.{Contains-append_right}
pub use Rattle.std.proofs.lemmas.List.Folds.{Any-from_list_any, list_any_at}
pub use Rattle.std.specs.List.{All, flat_map, list_all, list_any}
pub use Rattle.mg_names.specs.declared.codes.Code.TheVariants.{AlreadyInContext, NotInContext, UnknownContext, UnknownTermination}
pub use Rattle.mg_names.specs.declared.context_values.ContextValue.{ContextValue}
pub use Rattle.mg_names.specs.declared.context_values.ContextValue.TheVariants.{Free, Live, Stale}
pub use Rattle.mg_names.specs.declared.identifiers.TermId.{TermId}
pub use Rattle.mg_names.specs.declared.identifiers.TermId.TheVariants.{Eph, Line}
pub use Rattle.mg_names.specs.declared.kinds.Kind.{Kind}
pub use Rattle.mg_names.specs.declared.modes.Mode.{Mode}
pub use Rattle.mg_names.specs.declared.modes.Mode.TheVariants.{Inactive}
pub use Rattle.mg_names.specs.declared.phases.LinkPhase.TheVariants.{Answered, Failed, Resting, Sent}
pub use Rattle.mg_names.specs.declared.signals.Signal.{Signal}
pub use Rattle.mg_names.specs.declared.signals.Signal.TheVariants.{BusyTone, CongestionTone, DialTone, Ring, RingingTone}
pub use Rattle.mg_names.specs.declared.strictness.Strict.TheVariants.{Exact}
pub use Rattle.mg_names.specs.declared.topologies.Topology.{Topology}
pub use Rattle.mg_model.proofs.Agents.{is_resting_is, no_results}
pub use Rattle.mg_model.proofs.Cases.{all_three, and_first, and_second, at_another, at_one, by_test, denied, different, false_either_way, false_not_true}
pub use Rattle.mg_model.proofs.Cases.{neither_first, neither_second, none_is_some, none_of, not_both, not_refused, same_itself, same_test, same_turned}
pub use Rattle.mg_model.proofs.Cases.{some_is_none, some_of, the_some, three_parts, where_false, where_true}
pub use Rattle.mg_model.proofs.Offered.{fresh_at, fresh_is_open, kept_at, number_of}
pub use Rattle.mg_model.proofs.OpenedLines.{line_armed, line_held, line_stands}
pub use Rattle.mg_model.proofs.Single.{any_too, first_in, first_or_later, in_joined, later_in, none_in, nothing_in, only_here, only_one}
pub use Rattle.mg_model.proofs.Terminations.{is_in_is, is_same_is, is_same_self, is_same_turned, same_term_is, same_term_self, same_term_turned}
pub use Rattle.mg_model.specs.Accepted.{IsCommandOf, IsContext, IsEntryOf, IsRemote, IsScript, IsSlot, IsStateOf, create_once, creates_apart, is_apart}
pub use Rattle.mg_model.specs.Accepted.{is_contexts, is_cuts, is_events, is_links, is_modes, is_plays, is_remotes, is_spots}
pub use Rattle.mg_model.specs.Agent.{Agent, Made, Phase, added_to, after_result, after_results, answers, at_place, awaits_pass, awaits_reply, begun, bound_by}
pub use Rattle.mg_model.specs.Agent.{bound_if, built_by, command_of, commands_of, context_or, context_ref, entered, entered_if, entered_or_rests}
pub use Rattle.mg_model.specs.Agent.{entered_or_stays, entered_with, ephemeral_or, ephemeral_ref, expected_if, forgotten, heard, inbox_of, is_listed}
pub use Rattle.mg_model.specs.Agent.{is_resting, leads_on, line_descriptors, line_in, made_after, may_accept, none_made, noted, opened, passed, passed_in}
pub use Rattle.mg_model.specs.Agent.{place_ref, remote_ref, replied, replied_to, request_of, resting, same_number, target_of, termination_ref, timed}
pub use Rattle.mg_model.specs.Board.{Board, ContextExists, IsSettled, exists, mode_in, mode_of, null_row, place_in, place_of, remote_in, remote_of, same_term}
pub use Rattle.mg_model.specs.Configuration.{Configuration, IsWellFormed, is_free, is_in, is_live, is_null, is_present, is_same, is_to, settled, stands_in}
pub use Rattle.mg_model.specs.Configuration.{terminations, value_of, with_of}
pub use Rattle.mg_model.specs.Delivery.{Inbox, arrival, arrives_new, is_new, is_old, was_seen}
pub use Rattle.mg_model.specs.Effects.{cuts_backward, cuts_forward, effect, is_elsewhere, is_legal, place_exists, plays_after, put_in, remote_after}
pub use Rattle.mg_model.specs.Effects.{remote_legal, remote_set, spot_after, stands_at, with_ephemeral_options, with_line_options, with_pair, without_cuts_of}
pub use Rattle.mg_model.specs.Effects.{without_terminations}
pub use Rattle.mg_model.specs.Entries.{Allows, Choice, Component, Entry, Includes, IsCovered, IsPointOf, choices_of, chosen, context_choice, contexts}
pub use Rattle.mg_model.specs.Entries.{cut_choice, cuts, events, events_choice, link_choice, links, mode_choice, modes, plays, plays_choice, product}
pub use Rattle.mg_model.specs.Entries.{remote_choice, remotes, same_choice, spot_choice, spots}
pub use Rattle.mg_model.specs.Gateway.{CallLink, Gateway, IsExecutedBy, MayBegin, after_request, board_restarted, creator_after, handed_over, last_executed}
pub use Rattle.mg_model.specs.Gateway.{notes_from, outcome_of, reply_of, restarted, row_restarted, sent_notes, start_of, with_line, with_notes}
pub use Rattle.mg_model.specs.Items.{Chosen, Done, IsExecuted, Lists, first_receives, given, is_context_number, is_ephemeral_number, names_nothing, row_at}
pub use Rattle.mg_model.specs.Items.{second_receives, subtracted, subtracts, target, with_cut, with_ephemeral, without, without_cuts}
pub use Rattle.mg_model.specs.LineEvents.{LineRow, ListItem, Note, Outcome, armed, cleared, detected, dialled, dialled_by, flashed, hooked, is_flash, is_hook}
pub use Rattle.mg_model.specs.LineEvents.{is_on, is_standing, kind_by, kind_of, map_in, note_by, note_of, paused, paused_by, same_hook, signal_ended, silent}
pub use Rattle.mg_model.specs.LineEvents.{stays, taken, without_signal}
pub use Rattle.mg_model.specs.ListContents.{list_item, list_of, names_signal, set_of}
pub use Rattle.mg_model.specs.Media.{AreJoined, crosses, goes_over, hops, is_number, receives, sends, share_context}
pub use Rattle.mg_model.specs.Messages.{Reply, Request, RequestCommand, SentNote}
pub use Rattle.mg_model.specs.Numbers.{all, choose, last_number, null}
pub use Rattle.mg_model.specs.Obligations.{CreatedAreUnbound, CreatedUnbound, EndedCleared, EndedIsCleared, IsLive, JoinedAreMarked, JoinedMarked, NamesAreLive}
pub use Rattle.mg_model.specs.Obligations.{NamesLive, NoneBroken, OfPoint, OpeningCovered, ResetCovered, StepCovered}
pub use Rattle.mg_model.specs.Paths.{is_shared, passes_in, passes_out}
pub use Rattle.mg_model.specs.Request.{Names, built, created_context, created_ephemeral, names_after, place_known, remote_option_known, termination_known}
pub use Rattle.mg_model.specs.Request.{uses_known, with_name}
pub use Rattle.mg_model.specs.RequestRun.{LineDescriptors, RaisedNote, Running, Succeeds, after_command, context_at, described_row, descriptors_for}
pub use Rattle.mg_model.specs.RequestRun.{ephemeral_at, has_new_events, is_line, item_at, line_after, note_from, note_on, on_line, raised, remote_at, standing}
pub use Rattle.mg_model.specs.RequestRun.{termination_at, with_descriptors, with_events, with_signals}
pub use Rattle.mg_model.specs.Script.{DigitMap, Script, State}
pub use Rattle.mg_model.specs.Steps.{Step, all_kinds, bound_names, creates_unbound, entering, executed, execution, names_unbound, observation, observations}
pub use Rattle.mg_model.specs.Steps.{opening, refusals, reply_step, request_in, reset, steps_by_link, steps_of, unused, with_link, with_state}
pub use Rattle.mg_model.specs.Tables.{below, is_armed_list, is_empty, is_marked, item_raises, items_of, line_places, no_state, raises, signals_of, state_of}
pub use Rattle.mg_model.specs.Tables.{target_in}
pub use Rattle.mg_model.specs.Updates.{with_at}
pub use Rattle.mg_model.specs.World.{AgentSteps, Begins, Executes, HasEnded, IsFirst, IsGood, IsMarkedPair, IsOpening, IsReleased, IsRepeat, IsRequestOf}
pub use Rattle.mg_model.specs.World.{LineOccurs, Occurs, OccursTo, Opened, World, agent_steps, armed_line, sent_in, with_gateway}
pub use Rattle.mg_model.specs.declared.commands.Command.{Command}
pub use Rattle.mg_model.specs.declared.commands.Command.TheVariants.{AddEphemeral, AddLine, ModifyEphemeral, ModifyLine, MoveEphemeral, MoveLine, SetTopology}
pub use Rattle.mg_model.specs.declared.commands.Command.TheVariants.{Subtract, SubtractAll}
pub use Rattle.mg_model.specs.declared.commands.EphemeralOptions.{EphemeralOptions}
pub use Rattle.mg_model.specs.declared.commands.EventsName.{EventsName}
pub use Rattle.mg_model.specs.declared.commands.EventsName.TheVariants.{Armed, Empty}
pub use Rattle.mg_model.specs.declared.commands.LineOptions.{LineOptions}
pub use Rattle.mg_model.specs.declared.commands.Place.{Place}
pub use Rattle.mg_model.specs.declared.commands.Place.TheVariants.{Context, NullContext}
pub use Rattle.mg_model.specs.declared.commands.RemoteOption.{RemoteOption}
pub use Rattle.mg_model.specs.declared.commands.RemoteOption.TheVariants.{NoneGiven, Peer}
pub use Rattle.mg_model.specs.declared.commands.Termination.{Termination}
pub use Rattle.mg_model.specs.declared.components.Remote.{Remote}
pub use Rattle.mg_model.specs.declared.components.Remote.TheVariants.{Gone, To, Unset}
pub use Rattle.mg_model.specs.declared.components.Spot.{Spot}
pub use Rattle.mg_model.specs.declared.components.Spot.TheVariants.{Absent, In, Null}
pub use Rattle.mg_model.specs.declared.events.CallEvent.{CallEvent}
pub use Rattle.mg_model.specs.declared.events.Event.{Event}
pub use Rattle.mg_model.specs.declared.events.Event.TheVariants.{OfCall, Restart}
pub use Rattle.mg_model.specs.declared.failures.ChosenRefusal.{ChosenRefusal}
pub use Rattle.mg_model.specs.declared.failures.Failure.{Failure}
pub use Rattle.mg_model.specs.declared.items.Item.{Item}
pub use Rattle.mg_model.specs.declared.items.Item.TheVariants.{Add, Modify, Move}
pub use Rattle.mg_model.specs.declared.items.Settings.{Settings}
pub use Rattle.mg_model.specs.declared.line_events.Hook.{Hook}
pub use Rattle.mg_model.specs.declared.line_events.Hook.TheVariants.{Off, On}
pub use Rattle.mg_model.specs.declared.line_events.LineEvent.{LineEvent}
pub use Rattle.mg_model.specs.declared.line_events.SignalSet.{SignalSet}
pub use Rattle.mg_model.specs.declared.rows.Row.{Row}
pub use Rattle.mg_model.specs.declared.steps.StepName.{StepName}
pub use Rattle.mg_model.specs.declared.steps.StepName.TheVariants.{Execute, Observe, Refuse, Timer}
pub use Rattle.mg_model.specs.declared.transitions.EventItem.{EventItem}
pub use Rattle.mg_model.specs.declared.transitions.EventItem.TheVariants.{Digits, Flash, OffHook, OnHook}
