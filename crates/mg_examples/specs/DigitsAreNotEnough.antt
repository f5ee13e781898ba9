-- That the law that a call at rest can be moved (`CallsCanBeMoved` of `mg_safety`) needs its premise of what leads the call on: a list that names digits
-- alone, in a state that says where a number leads, isn't enough. A reader should check that the law's other premises are here, that the events say what they
-- seem to say (the user stops after one digit, and the note of that leads nowhere), and that any events of the call may follow.
use Rattle.std.specs.Prelude.{◌≡◌, ℕ, ◌+◌, ◌≤◌, true, false, List, [], ◌∷◌, Some, None}
use Rattle.std.specs.List.{All}
use Rattle.mg_names.specs.declared.kinds.Kind.TheVariants.{Full}
use Rattle.mg_names.specs.declared.symbols.Symbol.TheVariants.{One}
use Rattle.mg_model.specs.declared.events.Event.{Event}
use Rattle.mg_model.specs.declared.line_events.Hook.TheVariants as hooks
use Rattle.mg_model.specs.declared.line_events.LineEvent.TheVariants as event
use Rattle.mg_model.specs.declared.transitions.EventItem.TheVariants.{Digits}
use Rattle.mg_model.specs.Accepted.{IsScript, IsEntryOf}
use Rattle.mg_model.specs.Agent.{Agent, resting}
use Rattle.mg_model.specs.Numbers.{last_number}
use Rattle.mg_model.specs.Obligations.{NoneBroken}
use Rattle.mg_model.specs.Tables.{state_of, target_in}
use Rattle.mg_model.specs.World.{World, IsOpening, Runs, is_of_call, on_a_line, note, execute, reply}
use Rattle.mg_examples.specs.Dials.{dials, dial_entries, eleven}
use Rattle.mg_examples.specs.Talk.{call}

-- line a goes off hook, the call enters `dial`, and its request is executed and answered; the user dials 1 and then nothing more, and the note of that is taken
abbrev pub to_a_pause : List Event
to_a_pause =
    on_a_line 7 1 (event.Hook hooks.Off) ∷ note 7 1 ∷ execute 7 1 None ∷ reply 7 1
    ∷ on_a_line 7 1 (event.Digit One) ∷ on_a_line 7 1 event.Pause ∷ note 7 2 ∷ []

-- a call is at rest in a state
pub record RestsIn (w : World) (call state : ℕ) : Type 0 where
  pub agent : Agent
  pub open_call : w.agent call ≡ Some agent
  pub in_state : agent.state ≡ state
  pub rests : agent.phase ≡ resting

-- these events are a run from an opening with the call alone. At its end the call, of the gateway's association, rests in `dial`, which isn't an end; the list
-- of its line a is the map alone, `dial` says where the note of a number leads, and numbers are left. Whatever events of the call follow, it rests in `dial`
pub record DigitsAreNotEnough : Type 0 where
  pub accepted : IsScript dials
  pub listed : All (IsEntryOf dials) dial_entries
  pub none_broken : NoneBroken dials dial_entries
  pub opening : World
  pub end : World
  pub opens : IsOpening dials (call ∷ []) opening
  pub runs : Runs dials to_a_pause opening end
  pub waits : RestsIn end 7 1
  pub no_end : (state_of dials 1).is_end ≡ false
  pub current : waits.agent.association ≡ end.gateway.association
  pub list : (end.gateway.line (waits.agent.lines 0)).list ≡ Digits eleven ∷ []
  pub leads : target_in (state_of dials 1).on 0 Full ≡ Some 2
  pub next : waits.agent.next ≤ last_number
  pub notes : (end.gateway.link 7).notes + 2 ≤ last_number
  pub stands_still : (events : List Event) (later : World) → All (λ (event : Event). is_of_call 7 event ≡ true) events → Runs dials events end later
      → RestsIn later 7 1
