-- That the law that a call which waits can be led on (`CallsCanGoOn` of `mg_safety`) needs its premise of `fault`: a script whose state `talk` has commands and says
-- nowhere where a failure leads. It is a script by `IsScript`, and its entries break no obligation; the reader refuses it. A reader should check that the law's
-- other premises are here, and that the events say what they seem to say: the gateway refuses the first command, and then no reply leads the call on.
use Rattle.std.specs.Prelude.{◌≡◌, ◌+◌, ◌≤◌, List, [], ◌∷◌, length, Option, Some, None}
use Rattle.std.specs.List.{All}
use Rattle.mg_model.specs.declared.events.Event.{Event}
use Rattle.mg_model.specs.declared.failures.ChosenRefusal.{ChosenRefusal}
use Rattle.mg_model.specs.declared.failures.Refusal.TheVariants.{InternalFailure}
use Rattle.mg_model.specs.declared.line_events.Hook.TheVariants as hooks
use Rattle.mg_model.specs.declared.line_events.LineEvent.TheVariants as event
use Rattle.mg_model.specs.Accepted.{IsScript, IsEntryOf}
use Rattle.mg_model.specs.Agent.{Agent, awaits_reply}
use Rattle.mg_model.specs.Messages.{Request}
use Rattle.mg_model.specs.Numbers.{last_number}
use Rattle.mg_model.specs.Obligations.{NoneBroken}
use Rattle.mg_model.specs.Script.{Script}
use Rattle.mg_model.specs.Shards.{AreLeft, IsContextLeft, IsEphemeralLeft}
use Rattle.mg_model.specs.World.{World, IsOpening, Runs, on_a_line, note, execute, reply}
use Rattle.mg_examples.specs.Talk.{call}
use Rattle.mg_examples.specs.TalkEntries.{reachable}
use Rattle.mg_examples.specs.TwoLines.{calling, idle, stopped, talk, to_talk_off_hook}
use Rattle.mg_examples.specs.TwoTalks.{both_lines}

-- `calling`, but for the `fault` of `talk`
abbrev pub without_fault : Script
without_fault = record (calling both_lines) { states = idle to_talk_off_hook ∷ record (talk both_lines) { fault = None } ∷ stopped ∷ [] }

abbrev pub refused_at_once : Option ChosenRefusal
refused_at_once = Some (record { place = 0; refusal = InternalFailure })

-- line a goes off hook, the note of it is taken, and the gateway refuses the first command of the request
abbrev pub to_a_refusal : List Event
to_a_refusal = on_a_line 7 1 (event.Hook hooks.Off) ∷ note 7 1 ∷ execute 7 1 refused_at_once ∷ []

-- these events are a run from an opening with the call alone. At its end the call waits for the reply to its request, numbers are left for that request and for
-- another, and the request can't reach the gateway once more and its reply the call
pub record FaultsAreNeeded : Type 0 where
  pub accepted : IsScript without_fault
  pub listed : All (IsEntryOf without_fault) reachable
  pub none_broken : NoneBroken without_fault reachable
  pub opening : World
  pub end : World
  pub agent : Agent
  pub request : Request
  pub opens : IsOpening without_fault (call ∷ []) opening
  pub runs : Runs without_fault to_a_refusal opening end
  pub open_call : end.agent 7 ≡ Some agent
  pub current : agent.association ≡ end.gateway.association
  pub waits : agent.phase ≡ awaits_reply request
  pub contexts : AreLeft (IsContextLeft end.gateway.board) (length request.commands)
  pub ephemerals : AreLeft (IsEphemeralLeft end.gateway.board) (length request.commands)
  pub notes : (end.gateway.link 7).notes + length request.commands ≤ last_number
  pub next : agent.next ≤ last_number
  pub stands_still : (later : World) → Runs without_fault (execute 7 request.number None ∷ reply 7 request.number ∷ []) end later → ⊥
