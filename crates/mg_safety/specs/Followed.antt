-- What of a call the world at the end of a run shows. A reader should check that nothing is said of a call of an older association, and that lines hear each
-- other on the gateway only by a path that the configuration has.
use Rattle.std.specs.Prelude.{◌≡◌, ℕ, ◌<◌, false, ◌⊎◌, length}
use Rattle.mg_names.specs.declared.phases.LinkPhase.{LinkPhase}
use Rattle.mg_names.specs.declared.phases.LinkPhase.TheVariants.{Sent, Answered, Failed, Resting}
use Rattle.mg_model.specs.Agent.{Agent, Phase, awaits_reply, awaits_pass, resting}
use Rattle.mg_model.specs.Configuration.{Configuration}
use Rattle.mg_model.specs.LineEvents.{silent}
use Rattle.mg_model.specs.ListContents.{list_of}
use Rattle.mg_model.specs.Media as media
use Rattle.mg_model.specs.Paths as paths
use Rattle.mg_model.specs.Script.{Script}
use Rattle.mg_model.specs.World.{World}

-- how far the request of a state has come, by the phase of the call's agent: a reply that it awaits may be kept already
abbrev pub IsLinkOf : Phase → LinkPhase → Type 0
IsLinkOf (awaits_reply request) link = (link ≡ Sent) ⊎ ((link ≡ Answered) ⊎ (link ≡ Failed))
IsLinkOf awaits_pass link = link ≡ Answered
IsLinkOf resting link = link ≡ Resting

-- the world shows a configuration of the call of an agent
pub record IsShownBy (script : Script) (w : World) (a : Agent) (c : Configuration) : Type 0 where
  pub state : c.state ≡ a.state
  pub link : IsLinkOf a.phase c.link
  -- what each line reports, and that one is silent of which the configuration says so
  pub lists : (i : ℕ) → i < length script.lines → (w.gateway.line (a.lines i)).list ≡ list_of script (c.events i)
  pub silent : (i : ℕ) → i < length script.lines → c.plays i ≡ false → (w.gateway.line (a.lines i)).playing ≡ silent
  -- media goes from one of its lines to another only where the configuration has a path
  pub hears : (i j : ℕ) → i < length script.lines → j < length script.lines → media.HasPath w.gateway.board (a.lines i) (a.lines j) → paths.HasPath c i j
