-- That no line plays what its telephone was not given on the way. A reader should check that nothing is asked but an opening and a run, of any number of calls; and
-- that the configuration is of the call's state, and its request has come as far.
use Rattle.std.specs.Prelude.{◌≡◌, ◌<◌, ℕ, Bool, true, List, Some, length}
use Rattle.std.specs.List.{All}
use Rattle.mg_names.specs.declared.signals.Signal.{Signal}
use Rattle.mg_model.specs.declared.events.Event.{Event}
use Rattle.mg_model.specs.Accepted.{IsScript, IsEntryOf}
use Rattle.mg_model.specs.Agent.{Agent}
use Rattle.mg_model.specs.Configuration.{Configuration}
use Rattle.mg_model.specs.Entries.{Entry}
use Rattle.mg_model.specs.LineEvents.{plays}
use Rattle.mg_model.specs.Obligations.{NoneBroken}
use Rattle.mg_model.specs.Script.{Script}
use Rattle.mg_model.specs.World.{World, Opened, IsOpening, Runs}
use Rattle.mg_safety.specs.Followed.{IsLinkOf}
use Rattle.call_ends.specs.declared.telephone.Manner.TheVariants.{Anyhow}
use Rattle.call_ends.specs.declared.telephone.Telephone.{Telephone}
use Rattle.call_ends.specs.Telephones.{ComesFrom, start_point}

-- a call that opens with the receiver of line i lifted or down reaches the configuration with this telephone, and the line was given the signal
pub record IsGiven (script : Script) (entries : List Entry) (a : Agent) (i : ℕ) (signal : Signal) (lifted : Bool) (c : Configuration) (phone : Telephone) : Type 0 where
  pub comes : ComesFrom Anyhow script entries i (start_point script lifted) (c, phone)
  pub state : c.state ≡ a.state
  pub link : IsLinkOf a.phase c.link
  pub given : plays phone.told signal ≡ true

-- whatever is lost, repeated, late or restarted: what plays on a line of a call of the gateway's association was given to it on a way that calls come, whether its
-- receiver was lifted or down as the call opened
abbrev pub RunsTell : Type 0
RunsTell =
    (script : Script) (entries : List Entry) → IsScript script → All (IsEntryOf script) entries → NoneBroken script entries
    → (calls : List Opened) (events : List Event) (opening end : World) → IsOpening script calls opening → Runs script events opening end
    → (call : ℕ) (a : Agent) → end.agent call ≡ Some a → a.association ≡ end.gateway.association
    → (i : ℕ) → i < length script.lines → (signal : Signal) → plays (end.gateway.line (a.lines i)).playing signal ≡ true
    → (lifted : Bool) → (c : Configuration) × ((phone : Telephone) × IsGiven script entries a i signal lifted c phone)
