-- Two calls at once, under a script and entries that break no obligation. So the promise over runs isn't hollow: all its premises can be
-- met together, and in a run that it speaks of two calls talk. Eight events, in which the calls take turns: in each call line a goes off
-- hook, the note of it leads to the state `talk`, its request is executed, and the reply is taken. A reader should check that each premise
-- of the promise is here, that each event says what it seems to say, and that the last world joins two pairs of lines.
use Rattle.std.specs.Prelude.{◌+◌, List, [], ◌∷◌, None}
use Rattle.std.specs.List.{All}
use Rattle.mg_model.specs.declared.line_events.Hook.TheVariants as hooks
use Rattle.mg_model.specs.declared.line_events.LineEvent.TheVariants as event
use Rattle.mg_model.specs.declared.transitions.Pair.{Pair}
use Rattle.mg_model.specs.Accepted.{IsScript, IsEntryOf}
use Rattle.mg_model.specs.Media.{AreJoined}
use Rattle.mg_model.specs.Obligations.{NoneBroken}
use Rattle.mg_model.specs.declared.events.Event.{Event}
use Rattle.mg_model.specs.World.{World, on_a_line, note, execute, reply, Opened, IsOpening, Runs}
use Rattle.mg_examples.specs.Talk.{call}
use Rattle.mg_examples.specs.TalkEntries.{reachable}
use Rattle.mg_examples.specs.TwoLines.{calling}

-- `talk` marks the lines a and b as talking
abbrev pub both_lines : List Pair
both_lines = record { first = 0; second = 1 } ∷ []

-- beside the call 7 on the lines 1 and 2: call 8, with line a on line 3 and line b on line 4
abbrev pub other_call : Opened
other_call = record { call = 8; lines = λ i. i + 3 }

abbrev pub to_two_talks : List Event
to_two_talks =
    on_a_line 7 1 (event.Hook hooks.Off) ∷ on_a_line 8 3 (event.Hook hooks.Off) ∷ note 7 1 ∷ note 8 1 ∷ execute 7 1 None ∷ execute 8 1 None ∷ reply 8 1 ∷ reply 7 1 ∷ []

-- the script and the entries are accepted and break no obligation; these events are a run from an opening with the two calls, and its last
-- world joins the lines of each
pub record TwoCallsTalk : Type 0 where
  pub accepted : IsScript (calling both_lines)
  pub listed : All (IsEntryOf (calling both_lines)) reachable
  pub none_broken : NoneBroken (calling both_lines) reachable
  pub opening : World
  pub end : World
  pub opens : IsOpening (calling both_lines) (call ∷ other_call ∷ []) opening
  pub runs : Runs (calling both_lines) to_two_talks opening end
  pub joined : AreJoined end.gateway.board 1 2
  pub also_joined : AreJoined end.gateway.board 3 4
