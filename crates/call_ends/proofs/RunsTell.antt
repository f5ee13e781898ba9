-- What plays on a line of a call was given to it on a way that calls come: in what is left of the run where that signal alone is told, the line plays, so it
-- may play in the configuration that shows the call there, so the signal is among what it was given last.
use Rattle.std.proofs.Common.{List, [], ap, inl, inr, refl, subst, sym, ◌∙◌, ◌∷◌, ◌≡◌, ◌⊎◌}
use Rattle.std.proofs.lemmas.Bool.{true_from_ne_false}
use Rattle.std.specs.Prelude.{option_map}
use Rattle.mg_names.specs.declared.phases.LinkPhase as phases
use Rattle.mg_names.specs.declared.signals.Signal.{Signal}
use Rattle.mg_model.specs.declared.events.Event.{Event}
use Rattle.mg_model.specs.declared.line_events.SignalSet.{SignalSet}
use Rattle.mg_model.specs.Accepted.{IsScript}
use Rattle.mg_model.specs.Agent.{Phase, awaits_pass, awaits_reply, resting}
use Rattle.mg_model.specs.Configuration.{Configuration}
use Rattle.mg_model.specs.LineEvents.{plays}
use Rattle.mg_model.specs.Script.{Script}
use Rattle.mg_model.specs.World.{Occurs, Runs, World}
use Rattle.mg_model.proofs.Cases.{not_both}
use Rattle.mg_safety.proofs.Certificate.Closed.{closed}
use Rattle.mg_safety.proofs.Events.Openings.{openings_sound}
use Rattle.mg_safety.proofs.GoodWorlds.EveryRun.{runs_sound}
use Rattle.mg_safety.proofs.GoodWorlds.Following.{followed_by}
use Rattle.mg_safety.proofs.Invariant.Sound.{IsSound, Listed}
use Rattle.mg_safety.proofs.Invariant.Statements.{IsClosed}
use Rattle.mg_safety.specs.Followed.{IsLinkOf}
use Rattle.call_ends.proofs.OneSignal.Closed.{IsLeft, left_closed}
use Rattle.call_ends.proofs.OneSignal.Effects.{plays_silent, with_plays}
use Rattle.call_ends.proofs.OneSignal.Messages.{agent_alone, phase_alone}
use Rattle.call_ends.proofs.OneSignal.Openings.{accepted_alone, opening_alone}
use Rattle.call_ends.proofs.OneSignal.Sets.{plays_alone, script_alone}
use Rattle.call_ends.proofs.OneSignal.Worlds.{event_alone, world_alone}
use Rattle.call_ends.specs.RunsTell.{RunsTell}

module _ (g : Signal) (script : Script) (Among : Listed) (is_script : IsScript (script_alone g script)) (closes : IsClosed (script_alone g script) Among) where
  -- what is left of each world of the run is sound
  left_sound : (events : List Event) (w end : World) → IsSound (script_alone g script) Among (world_alone g w) → Runs script events w end
      → IsSound (script_alone g script) Among (world_alone g end)
  unfolding Runs
  left_sound [] w end sound runs = subst (λ (x : World). IsSound (script_alone g script) Among (world_alone g x)) (sym runs) sound
  left_sound (event ∷ more) w end sound (next, (occurs, rest)) = left_sound more next end (by (event_alone g script w event next occurs)) rest
    where
      by : Occurs (script_alone g script) (world_alone g w) event (world_alone g next) ⊎ (world_alone g next ≡ world_alone g w)
          → IsSound (script_alone g script) Among (world_alone g next)
      by (inl too) =
          runs_sound (script_alone g script) Among is_script closes (event ∷ []) (world_alone g w) (world_alone g next) sound (world_alone g next, (too, refl))
      by (inr same) = subst (IsSound (script_alone g script) Among) (sym same) sound

link_too : (g : Signal) (phase : Phase) (link : phases.LinkPhase) → IsLinkOf (phase_alone g phase) link → IsLinkOf phase link
link_too g (awaits_reply request) link is = is
link_too g awaits_pass link is = is
link_too g resting link is = is

pub runs_tell : RunsTell
runs_tell script entries is_script listed none_broken calls events opening end opens runs call a there now i within g is_played lifted =
    let kept = left_closed g script entries i lifted (closed script entries is_script listed none_broken) in
    let accepted = accepted_alone g script is_script in
    let opened = openings_sound (script_alone g script) (IsLeft g script entries i lifted) accepted kept calls (world_alone g opening)
    (opening_alone g script calls opening opens) in
    let sound = left_sound g script (IsLeft g script entries i lifted) accepted kept events opening end opened runs in
    let found = followed_by (script_alone g script) (IsLeft g script entries i lifted) kept (world_alone g end) sound call (agent_alone g a)
    (ap (option_map (agent_alone g)) there) now in
    let was = found.1.0.covered in
    let shown = found.1.1 in
    let same : found.0 ≡ with_plays was.c found.0.plays = was.is in (
      was.c,
      (
        was.phone,
        record {
          comes = was.comes;
          state = sym (ap (λ (d : Configuration). d.state) same) ∙ shown.state;
          link = subst (IsLinkOf a.phase) (ap (λ (d : Configuration). d.link) same) (link_too g a.phase found.0.link shown.link);
          given = true_from_ne_false (plays was.phone.told g) (λ never.
              not_both (plays_alone g (end.gateway.line (a.lines i)).playing ∙ is_played)
              (ap (λ (set : SignalSet). plays set g) (shown.silent i within (was.heard.told ∙ never)) ∙ sym (plays_silent g)));
        },
      ),
    )
