-- The call that holds a line, where an event of the line has a number for the note that it raises. A reader should check that nothing is found only where the
-- event can't happen.
use Rattle.std.specs.Prelude.{◌≡◌, ℕ, ◌+◌, ◌≤◌, true, Option, Some, None}
use Rattle.mg_model.specs.declared.line_events.LineEvent.{LineEvent}
use Rattle.mg_model.specs.Gateway.{outcome_of}
use Rattle.mg_model.specs.Numbers.{last_number}
use Rattle.line_events.specs.Raising.{is_raised}
use Rattle.requests.specs.Connected.{line_in}
use Rattle.gateway.specs.declared.happen.Holder.{Holder}
use Rattle.gateway.specs.Answers.{CannotOccur}
use Rattle.gateway.specs.Calls.{OpenCall, call_in}
use Rattle.gateway.specs.GatewayValue.{GatewayValue, holder_in}

-- it is open and its last note has this number, after which one is left where the event raises a note
pub record IsHolder (w : GatewayValue) (line : ℕ) (event : LineEvent) (h : Holder) : Type 0 where
  pub state : OpenCall
  pub holds : holder_in w line ≡ Some h.call
  pub is_state : call_in w.calls h.call ≡ Some state
  pub last_is : h.last ≡ state.notes
  pub most : h.last ≤ last_number
  pub room : is_raised (outcome_of (line_in w.connected line) event) ≡ true → h.last + 1 ≤ last_number

abbrev pub HasHolder : GatewayValue → ℕ → LineEvent → Option Holder → Type 0
HasHolder w line event (Some h) = IsHolder w line event h
HasHolder w line event None = CannotOccur w line event
