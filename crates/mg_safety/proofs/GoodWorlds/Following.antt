-- Each call of the gateway's association is shown by a configuration that may stand: one that an entry has, or one that calls come to.
use Rattle.std.proofs.Common.{◌≡◌, ◌∙◌, ℕ, List, Option, Some, None, sym, ap, subst, arith, ◌⊎◌, inl, inr}
use Rattle.mg_names.specs.declared.phases.LinkPhase.{LinkPhase}
use Rattle.mg_model.specs.declared.events.Event.{Event}
use Rattle.mg_model.specs.declared.failures.Failure.{Failure}
use Rattle.mg_model.specs.Accepted.{IsScript}
use Rattle.mg_model.specs.Agent.{Agent, Phase, awaits_reply}
use Rattle.mg_model.specs.Configuration.{Configuration}
use Rattle.mg_model.specs.Gateway.{Gateway}
use Rattle.mg_model.specs.Messages.{Request}
use Rattle.mg_model.specs.Script.{Script}
use Rattle.mg_model.specs.World.{World, Opened, IsOpening, Runs}
use Rattle.mg_safety.specs.Followed.{IsLinkOf, IsShownBy}
use Rattle.mg_safety.proofs.Agents.EffectiveAgent.{same_lines}
use Rattle.mg_safety.proofs.Events.Openings.{openings_sound}
use Rattle.mg_safety.proofs.GoodWorlds.EveryRun.{runs_sound}
use Rattle.mg_safety.proofs.GoodWorlds.Good.{path_between}
use Rattle.mg_safety.proofs.Invariant.Sound.{IsAt, IsCurrent, IsLost, IsSound, Listed, Stands, link_of}
use Rattle.mg_safety.proofs.Invariant.Statements.{IsClosed}

-- ---- how far a request has come

answered : (phase : Phase) (failure : Option Failure) (link : LinkPhase) (request : Request) → phase ≡ awaits_reply request → link ≡ link_of failure
    → IsLinkOf phase link
answered phase None link request is link_is = subst (λ (p : Phase). IsLinkOf p link) (sym is) (inr (inl link_is))
answered phase (Some failure) link request is link_is = subst (λ (p : Phase). IsLinkOf p link) (sym is) (inr (inr link_is))

link_at : (script : Script) (g : Gateway) (a e : Agent) (link : LinkPhase) → IsAt script g a e link → IsLinkOf a.phase link
link_at script g a e link (inl sent) = subst (λ (p : Phase). IsLinkOf p link) (sym sent.outstanding.phase) (inl sent.link_is)
link_at script g a e link (inr (inl kept)) = answered a.phase kept.answer.failure link kept.request kept.outstanding.phase kept.link_is
link_at script g a e link (inr (inr (inl passing))) = subst (λ (p : Phase). IsLinkOf p link) (sym passing.phase) passing.link_is
link_at script g a e link (inr (inr (inr rests))) = subst (λ (p : Phase). IsLinkOf p link) (sym rests.phase) rests.link_is

-- ---- a call of the gateway's association

module _ (script : Script) (Among : Listed) (closes : IsClosed script Among) (w : World) (sound : IsSound script Among w) (call : ℕ) (a : Agent)
    (there : w.agent call ≡ Some a) where
  pub current_part : a.association ≡ w.gateway.association → IsCurrent script Among w.gateway a
  current_part now = by_part (sound.calls call a there).part
    where
      by_part : IsCurrent script Among w.gateway a ⊎ IsLost script w.gateway a → IsCurrent script Among w.gateway a
      by_part (inl is) = is
      by_part (inr lost) = let older = lost.association in absurd (omega (arith, older, now))

  -- by the configuration that the gateway shows of it
  pub shown_by : (current : IsCurrent script Among w.gateway a) → IsShownBy script w a current.c
  shown_by current = record {
    state = current.state;
    link = link_at script w.gateway a current.e current.c.link current.at;
    lists = λ i within. ap (λ (own : ℕ → ℕ). (w.gateway.line (own i)).list) (sym lines) ∙ current.lines_shown.events i within;
    silent = λ i within plays. ap (λ (own : ℕ → ℕ). (w.gateway.line (own i)).playing) (sym lines) ∙ current.lines_shown.silent i within plays;
    hears = λ i j first second path. path_between script Among closes w sound call a there current i j first second path;
  }
    where
      lines : current.e.lines ≡ a.lines
      lines = same_lines script w.gateway a current.e current.c.link current.at

  pub followed_by : a.association ≡ w.gateway.association → (c : Configuration) × (Stands script Among c × IsShownBy script w a c)
  followed_by now = let current = current_part now in (current.c, (current.stands, shown_by current))

-- ---- runs

pub followed : (script : Script) (Among : Listed) → IsScript script → IsClosed script Among
    → (calls : List Opened) (events : List Event) (opening end : World) → IsOpening script calls opening → Runs script events opening end
    → (call : ℕ) (a : Agent) → end.agent call ≡ Some a → a.association ≡ end.gateway.association
    → (c : Configuration) × (Stands script Among c × IsShownBy script end a c)
followed script Among is_script closes calls events opening end opens runs call a there now =
    followed_by script Among closes end
    (runs_sound script Among is_script closes events opening end (openings_sound script Among is_script closes calls opening opens) runs)
    call a there now
