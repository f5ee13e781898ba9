-- How a call is brought to its end, so that no call stands still for ever. A reader should check that nothing is taken for granted but what can be made to
-- happen: a request is executed as far as its commands are legal, a reply that was sent is sent once more, a timer ends, a receiver is lifted or put down; that
-- digits, a flash and a refusal that the gateway may choose aren't among it; and that a call is at its end only at rest.
use Rattle.std.specs.Prelude.{◌≡◌, ℕ, ◌+◌, ◌*◌, ◌≤◌, Bool, true, false, if◌then◌else◌, IsTrue, List, [], ◌∷◌, length, Some, Contains}
use Rattle.std.specs.List.{All}
use Rattle.mg_names.specs.declared.kinds.Kind.{Kind}
use Rattle.mg_names.specs.declared.kinds.Kind.TheVariants.{On, Of, Fl, Full, Part}
use Rattle.mg_names.specs.declared.phases.LinkPhase.{LinkPhase}
use Rattle.mg_names.specs.declared.phases.LinkPhase.TheVariants.{Sent, Answered, Failed, Resting}
use Rattle.mg_model.specs.declared.commands.Command.{Command}
use Rattle.mg_model.specs.declared.events.Event.{Event}
use Rattle.mg_model.specs.declared.steps.StepName.{StepName}
use Rattle.mg_model.specs.declared.steps.StepName.TheVariants.{Refuse, Execute, Reply, Observe, Timer}
use Rattle.mg_model.specs.Accepted.{HasFewCommands, IsEntryOf, IsScript, most_commands}
use Rattle.mg_model.specs.Agent.{Agent}
use Rattle.mg_model.specs.Configuration.{Configuration}
use Rattle.mg_model.specs.Effects.{is_legal, effect}
use Rattle.mg_model.specs.Entries.{Entry, IsCovered}
use Rattle.mg_model.specs.Numbers.{last_number}
use Rattle.mg_model.specs.Obligations.{NoneBroken}
use Rattle.mg_model.specs.Script.{Script}
use Rattle.mg_model.specs.Shards.{AreLeft, IsContextLeft, IsEphemeralLeft}
use Rattle.mg_model.specs.Steps.{request_in, steps_of, with_link}
use Rattle.mg_model.specs.Tables.{state_of}
use Rattle.mg_model.specs.World.{World, Opened, IsOpening, Runs, HasEnded, is_of_call}
use Rattle.mg_safety.specs.Followed.{IsShownBy}

-- ---- moves that can be made to happen

-- what a request comes to where the gateway chooses no refusal: each command is done, up to the first that is illegal
abbrev pub undisturbed : Script → Configuration → List Command → Configuration
undisturbed script c [] = with_link c Answered
undisturbed script c (command ∷ more) =
    if is_legal c command then undisturbed script (effect script c command) more else with_link c Failed

abbrev pub is_of_receiver : Kind → Bool
is_of_receiver On = true
is_of_receiver Of = true
is_of_receiver Fl = false
is_of_receiver Full = false
is_of_receiver Part = false

-- at rest: the timer ends, or a receiver is lifted or put down and the note of it comes. A note that is lost is raised anew by turning the receiver; that of a
-- digit map isn't, since a completed map collects nothing more
abbrev pub can_be_made : StepName → Bool
can_be_made Timer = true
can_be_made (Observe line kind) = is_of_receiver kind
can_be_made Reply = false
can_be_made Execute = false
can_be_made (Refuse place) = false

-- a step of a configuration of which this is so leads to another one
abbrev pub StepsBy : Script → (StepName → Bool) → Configuration → Configuration → Type 0
StepsBy script by c d = (name : StepName) × (IsTrue (by name) × Contains (steps_of script c) (name, d))

abbrev pub is_reply : StepName → Bool
is_reply Reply = true
is_reply Timer = false
is_reply (Observe line kind) = false
is_reply Execute = false
is_reply (Refuse place) = false

abbrev pub LeadsIn : Script → Configuration → LinkPhase → Configuration → Type 0
LeadsIn script c Sent d = d ≡ undisturbed script c (request_in script c c.state)
LeadsIn script c Answered d = StepsBy script is_reply c d
LeadsIn script c Failed d = StepsBy script is_reply c d
LeadsIn script c Resting d = ((state_of script c.state).is_end ≡ false) × StepsBy script can_be_made c d

-- from a configuration a call can be led on to another one
abbrev pub Leads : Script → Configuration → Configuration → Type 0
Leads script c d = LeadsIn script c c.link d

-- the call has ended there: it is at rest, in a state that is marked as an end
abbrev pub IsAtEnd : Script → Configuration → Type 0
IsAtEnd script c = (c.link ≡ Resting) × IsTrue (state_of script c.state).is_end

-- these configurations, one after the other, bring a call from one to its end
unfoldable pub Brings : Script → List Configuration → Configuration → Type 0
Brings script [] c = IsAtEnd script c
Brings script (d ∷ more) c = Leads script c d × Brings script more d

abbrev pub CanEnd : Script → Configuration → Type 0
CanEnd script c = (way : List Configuration) × Brings script way c

-- ---- what that is worth in a world

-- numbers are left for so many moves: for the commands of a request, each of which creates at most one context and one ephemeral and raises at most one note,
-- a transaction, and two notes of a receiver
pub record NumbersLast (w : World) (call : ℕ) (a : Agent) (moves : ℕ) : Type 0 where
  pub contexts : AreLeft (IsContextLeft w.gateway.board) (most_commands * moves)
  pub ephemerals : AreLeft (IsEphemeralLeft w.gateway.board) (most_commands * moves)
  pub notes : (w.gateway.link call).notes + (most_commands + 2) * moves ≤ last_number
  pub transactions : a.next + moves ≤ last_number

-- events of the call alone, so many at most, bring it to its end
pub record CanBeEnded (script : Script) (w : World) (call most : ℕ) : Type 0 where
  pub events : List Event
  pub end : World
  pub agent : Agent
  pub few : length events ≤ most
  pub own : All (λ (event : Event). is_of_call call event ≡ true) events
  pub runs : Runs script events w end
  pub open_call : end.agent call ≡ Some agent
  pub ended : HasEnded script end agent

-- each move takes three events at most: what brings a call from a configuration to its end brings it there in a world that shows the configuration
abbrev pub IsWorth : Script → World → ℕ → Agent → Configuration → Type 0
IsWorth script w call a c = (way : List Configuration) → Brings script way c → NumbersLast w call a (length way) → CanBeEnded script w call (3 * length way)

-- whatever is lost, repeated, late or restarted: a call of the gateway's association is shown by a configuration that some entry has, and what brings a call from
-- there to its end brings this one there in that world
abbrev pub CallsCanBeEnded : Type 0
CallsCanBeEnded =
    (script : Script) (entries : List Entry) → IsScript script → All (IsEntryOf script) entries → NoneBroken script entries → HasFewCommands script
    → (calls : List Opened) (events : List Event) (opening end : World) → IsOpening script calls opening → Runs script events opening end
    → (call : ℕ) (a : Agent) → end.agent call ≡ Some a → a.association ≡ end.gateway.association
    → (c : Configuration) × (IsCovered entries c × (IsShownBy script end a c × IsWorth script end call a c))
