-- What an agent does of itself keeps the world sound: an empty request passes, and its timer ends.
use Rattle.mg_safety.proofs.Invariant.Sound.{Listed}
use Rattle.mg_safety.proofs.Words.{◌≡◌, ◌∙◌, ◌<◌, ℕ, Some, None, refl, sym, subst, arith, inl, inr, Contains-append_right, Contains, ◌⊎◌, Answered}
use Rattle.mg_safety.proofs.Words.{Resting, Agent, Phase, awaits_reply, awaits_pass, resting, entered_or_rests, entered_if, passed_in, passed, is_resting}
use Rattle.mg_safety.proofs.Words.{timed, Gateway, last_executed, Request, Script, entering, observations, flat_map, state_of, line_places, World}
use Rattle.mg_safety.proofs.Words.{AgentSteps, none_is_some, is_resting_is, by_test, Option}
use Rattle.mg_names.specs.declared.phases.LinkPhase as phases
use Rattle.mg_model.specs.declared.steps.StepName.TheVariants as names
use Rattle.mg_model.specs.Steps as steps
use Rattle.mg_safety.proofs.InvariantWords.{naming, Seen, LinesShown, owned_in, IsPassing, IsResting, IsAt, IsCurrent, IsLost, CallIsSound, IsClosed}
use Rattle.mg_safety.proofs.InvariantWords.{KeepsSound}
use Rattle.mg_safety.proofs.Agents.Entering.{not_passing, not_resting, IsBetween}
use Rattle.mg_safety.proofs.Agents.AgentSteps.{Goes, agent_goes}
use Rattle.mg_safety.proofs.Agents.AgentParts.{step_of, target_entered, answer_led, rests_follows, if_follows, quiet, goes_on, lost_goes}

-- ---- a current call between two steps

-- the number of its next request is above those that were executed
pub not_executed : (script : Script) (Among : Listed) (w : World) (call : ℕ) (a : Agent) → CallIsSound script Among w call a
    → last_executed w.gateway a.call < a.next
not_executed script Among w call a sound = subst (λ n. last_executed w.gateway n < a.next) (sym sound.numbered) sound.next

-- the agent e has all of the present one that a configuration is shown by
pub between_of : (script : Script) (Among : Listed) (g : Gateway) (a e : Agent) (k : IsCurrent script Among g a)
    → k.e ≡ e → e.call ≡ a.call → e.association ≡ a.association → e.next ≡ a.next → last_executed g a.call < a.next → IsBetween script g e k.c
between_of script Among g a e k effective call association next above = record {
  association = association ∙ k.association;
  next = subst (λ n. last_executed g n < e.next) (sym call) (omega (arith, next, above));
  of_script = k.stands.of_script;
  shown = subst (λ n. Seen script (owned_in g n) (naming e) g.board k.c) (sym call)
      (subst (λ (x : Agent). Seen script (owned_in g a.call) (naming x) g.board k.c) effective k.shown);
  lines_shown = subst (λ (x : Agent). LinesShown script x g.line k.c) effective k.lines_shown;
}

-- ---- an empty request passes

pub passes : (script : Script) (a b : Agent) (phase : Phase) → passed_in script a phase ≡ Some b
    → (phase ≡ awaits_pass) × (entered_or_rests script a (state_of script a.state).ok ≡ Some b)
passes script a b awaits_pass is = (refl, is)
passes script a b phase is = absurd (none_is_some b is)

-- a phase in which nothing is outstanding
pub pass_quiet : (phase : Phase) → phase ≡ awaits_pass → (request : Request) → phase ≡ awaits_reply request → ⊥
pass_quiet phase passing request is = not_passing request (sym passing ∙ is)

pub rest_quiet : (phase : Phase) → phase ≡ resting → (request : Request) → phase ≡ awaits_reply request → ⊥
rest_quiet phase rests request is = not_resting request (sym rests ∙ is)

-- where the phase is so, the call is at this point of its request
pub at_pass : (script : Script) (g : Gateway) (a e : Agent) (link : phases.LinkPhase) → a.phase ≡ awaits_pass → IsAt script g a e link → IsPassing a e link
at_pass script g a e link is (inl sent) = absurd (pass_quiet a.phase is sent.request sent.outstanding.phase)
at_pass script g a e link is (inr (inl answered)) = absurd (pass_quiet a.phase is answered.request answered.outstanding.phase)
at_pass script g a e link is (inr (inr (inl passing))) = passing
at_pass script g a e link is (inr (inr (inr rests))) = let apart : resting ≡ awaits_pass = sym rests.phase ∙ is in absurd (cc)

pub at_rest : (script : Script) (g : Gateway) (a e : Agent) (link : phases.LinkPhase) → a.phase ≡ resting → IsAt script g a e link → IsResting a e link
at_rest script g a e link is (inl sent) = absurd (rest_quiet a.phase is sent.request sent.outstanding.phase)
at_rest script g a e link is (inr (inl answered)) = absurd (rest_quiet a.phase is answered.request answered.outstanding.phase)
at_rest script g a e link is (inr (inr (inl passing))) = let apart : awaits_pass ≡ resting = sym passing.phase ∙ is in absurd (cc)
at_rest script g a e link is (inr (inr (inr rests))) = rests

pass_goes : (script : Script) (Among : Listed) → IsClosed script Among → (w : World) (call : ℕ) (a b : Agent) → CallIsSound script Among w call a
    → passed script a ≡ Some b → Goes script Among w.gateway a b
pass_goes script Among closed w call a b sound is = by_part sound.part
  where
    by_part : IsCurrent script Among w.gateway a ⊎ IsLost script w.gateway a → Goes script Among w.gateway a b
    by_part (inl k) =
        let taken = passes script a b a.phase is in
        let passing = at_pass script w.gateway a k.e k.c.link taken.0 k.at in
        goes_on script Among w.gateway a a b refl refl (omega arith) refl (rests_follows script a (state_of script a.state).ok b taken.1)
        (quiet w.gateway a (pass_quiet a.phase taken.0))
        (inl (answer_led script Among w.gateway a k.c (state_of script a.state).ok b
        (between_of script Among w.gateway a a k passing.effective refl refl refl (not_executed script Among w call a sound)) k.state
        (λ step among. step_of script Among closed k.c Answered step k.stands passing.link_is
        (subst (λ n. Contains (steps.reply_step script k.c (state_of script n).ok) step) (sym k.state) among)) taken.1).current)
    by_part (inr lost) =
        let taken = passes script a b a.phase is in
        lost_goes script Among w.gateway a a b lost refl refl refl refl (rests_follows script a (state_of script a.state).ok b taken.1)

pub pass_sound : (call : ℕ) → KeepsSound (λ script w after. AgentSteps w call (passed script) after)
pass_sound call script Among is_script closed w after sound s = agent_goes script Among w after call (passed script) sound s
    (pass_goes script Among closed w call s.before s.agent (sound.calls call s.before s.open_call) s.steps)

-- ---- the timer ends

pub times : (script : Script) (a b : Agent) → timed script a ≡ Some b → (a.phase ≡ resting) × (entered_if script a (state_of script a.state).timer ≡ Some b)
times script a b =
    let led = entered_if script a (state_of script a.state).timer in
    by_test (λ (o : Option Agent). o ≡ Some b → (a.phase ≡ resting) × (led ≡ Some b)) led None (is_resting a.phase)
    (λ e is. (is_resting_is a.phase e, is)) (λ e is. absurd (none_is_some b is))

timer_goes : (script : Script) (Among : Listed) → IsClosed script Among → (w : World) (call : ℕ) (a b : Agent) → CallIsSound script Among w call a
    → timed script a ≡ Some b → Goes script Among w.gateway a b
timer_goes script Among closed w call a b sound is = by_part sound.part
  where
    by_part : IsCurrent script Among w.gateway a ⊎ IsLost script w.gateway a → Goes script Among w.gateway a b
    by_part (inl k) =
        let taken = times script a b is in
        let rest = at_rest script w.gateway a k.e k.c.link taken.0 k.at in
        goes_on script Among w.gateway a a b refl refl (omega arith) refl (if_follows script a (state_of script a.state).timer b taken.1)
        (quiet w.gateway a (rest_quiet a.phase taken.0))
        (inl (target_entered script Among w.gateway a k.c names.Timer (state_of script a.state).timer b
        (between_of script Among w.gateway a a k rest.effective refl refl refl (not_executed script Among w call a sound))
        (λ step among. step_of script Among closed k.c Resting step k.stands rest.link_is
        (Contains-append_right (flat_map (observations script k.c) (line_places script))
        (entering script k.c names.Timer (state_of script k.c.state).timer) step
        (subst (λ n. Contains (entering script k.c names.Timer (state_of script n).timer) step) (sym k.state) among))) taken.1).current)
    by_part (inr lost) =
        let taken = times script a b is in
        lost_goes script Among w.gateway a a b lost refl refl refl refl (if_follows script a (state_of script a.state).timer b taken.1)

pub timer_sound : (call : ℕ) → KeepsSound (λ script w after. AgentSteps w call (timed script) after)
timer_sound call script Among is_script closed w after sound s = agent_goes script Among w after call (timed script) sound s
    (timer_goes script Among closed w call s.before s.agent (sound.calls call s.before s.open_call) s.steps)
