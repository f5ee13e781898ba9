-- An agent that takes a reply keeps the world sound: it is the reply that the gateway keeps, so the agent's names are then those by which the
-- board shows the configuration.
use Rattle.mg_safety.proofs.Invariant.Sound.{Listed}
use Rattle.mg_safety.proofs.Words.{◌≡◌, ◌∙◌, ◌<◌, ◌≤◌, ℕ, Bool, true, false, Option, Some, None, refl, sym, ap, subst, arith, inl, inr, Contains, and_parts}
use Rattle.mg_safety.proofs.Words.{eqb-true, ◌==◌, ◌&&◌, if◌then◌else◌, ◌⊎◌, Failure, Answered, Failed, answers, Agent, Phase, awaits_reply, built_by}
use Rattle.mg_safety.proofs.Words.{after_results, leads_on, replied_to, replied, Configuration, Gateway, last_executed, number_of, Request, Reply}
use Rattle.mg_safety.proofs.Words.{Script, state_of, World, AgentSteps, none_is_some, the_some}
use Rattle.mg_model.specs.declared.steps.StepName.TheVariants as names
use Rattle.mg_model.specs.Steps as steps
use Rattle.mg_safety.proofs.InvariantWords.{Stands, link_of, IsAnswered, IsAt, IsCurrent, IsCurrentAt, IsLost, IsReplySound, CallIsSound, IsClosed, KeepsSound}
use Rattle.mg_safety.proofs.Agents.Entering.{same_request, IsBetween}
use Rattle.mg_safety.proofs.Agents.AgentSteps.{Goes, agent_goes}
use Rattle.mg_safety.proofs.Agents.AgentParts.{step_of, led_to, target_entered, answer_led, leads_follows, goes_on, lost_goes}
use Rattle.mg_safety.proofs.Agents.EffectiveAgent.{results_keep}
use Rattle.mg_safety.proofs.Agents.AgentSound.{between_of, not_executed, pass_quiet, rest_quiet}

-- the agent with what a reply binds
abbrev pub bound : Script → Agent → Reply → Agent
bound script a answer = after_results a (built_by script a a.state) answer.results answer.number

-- the reply answers the outstanding request, and the agent goes on with what it binds
pub record IsTaken (script : Script) (a b : Agent) (answer : Reply) : Type 0 where
  pub request : Request
  pub phase : a.phase ≡ awaits_reply request
  pub association : answer.association ≡ request.association
  pub number : answer.number ≡ request.number
  pub leads : leads_on script a (bound script a answer) answer.failure ≡ Some b

pub takes : (script : Script) (a b : Agent) (answer : Reply) → replied script a answer ≡ Some b → IsTaken script a b answer
takes script a b answer is = in_phase a.phase refl is
  where
    fits : (request : Request) → a.phase ≡ awaits_reply request → (fit : Bool)
        → answers answer request ≡ fit
        → (if fit then leads_on script a (bound script a answer) answer.failure else None) ≡ Some b → IsTaken script a b answer
    fits request phase true e is =
        let same = and_parts (answer.association == request.association) (answer.number == request.number)
        (and_parts (answer.call == request.call) ((answer.association == request.association) && answer.number == request.number) e).1 in
        record {
          request = request;
          phase = phase;
          association = eqb-true answer.association request.association same.0;
          number = eqb-true answer.number request.number same.1;
          leads = is;
        }
    fits request phase false e is = absurd (none_is_some b is)

    in_phase : (phase : Phase) → a.phase ≡ phase → replied_to script a phase answer ≡ Some b → IsTaken script a b answer
    in_phase (awaits_reply request) phase is = fits request phase (answers answer request) refl is
    in_phase other phase is = absurd (none_is_some b is)

-- ---- what is known of a reply of the present association

-- its number is executed
no_newer : (g : Gateway) (answer : Reply) → IsReplySound g answer → answer.association ≡ g.association → answer.number ≤ last_executed g answer.call
no_newer g answer sound present = elim (sound.kept present) [
  | inl kept ↦ (let number : last_executed g answer.call ≡ answer.number = ap number_of kept in omega (arith, number))
  | inr older ↦ (let below : answer.number < last_executed g answer.call = older in omega (arith, below))
]

-- with the number of the kept one it is the kept one
is_kept : (g : Gateway) (answer kept : Reply) → IsReplySound g answer → answer.association ≡ g.association → (g.link answer.call).last ≡ Some kept
    → kept.number ≡ answer.number → kept ≡ answer
is_kept g answer kept sound present last same = elim (sound.kept present) [
  | inl is ↦ the_some kept answer (sym last ∙ is)
  | inr older ↦ (let below : answer.number < last_executed g answer.call = older in
      let number : last_executed g answer.call ≡ kept.number = ap number_of last in absurd (omega (arith, below, number, same)))
]

-- ---- the agent goes on

-- where a reply leads
abbrev pub target_after : Script → ℕ → Option Failure → Option ℕ
target_after script state None = (state_of script state).ok
target_after script state (Some failure) = (state_of script state).fault

pub led_current : (script : Script) (Among : Listed) → IsClosed script Among → (g : Gateway) (a e : Agent) (c : Configuration) (failure : Option Failure)
    (b : Agent) → IsBetween script g e c → Stands script Among c → c.link ≡ link_of failure → c.state ≡ a.state → e.state ≡ a.state
    → leads_on script a e failure ≡ Some b → IsCurrentAt script Among g b (led_to script c (target_after script a.state failure))
led_current script Among closed g a e c None b between stands link state same is =
    answer_led script Among g e c (state_of script a.state).ok b between (state ∙ sym same)
    (λ step among. step_of script Among closed c Answered step stands link
    (subst (λ n. Contains (steps.reply_step script c (state_of script n).ok) step) (sym state) among)) is
led_current script Among closed g a e c (Some failure) b between stands link state same is =
    target_entered script Among g e c names.Reply (state_of script a.state).fault b between
    (λ step among. step_of script Among closed c Failed step stands link
    (subst (λ n. Contains (steps.entering script c names.Reply (state_of script n).fault) step) (sym state) among)) is

-- the outstanding request was executed, and the reply is the kept one
answered_goes : (script : Script) (Among : Listed) → IsClosed script Among → (w : World) (answer : Reply) (a b : Agent)
    → IsReplySound w.gateway answer → CallIsSound script Among w answer.call a → IsTaken script a b answer
    → (k : IsCurrent script Among w.gateway a) → IsAnswered script w.gateway a k.e k.c.link → Goes script Among w.gateway a b
answered_goes script Among closed w answer a b known sound t k s =
    let keep = results_keep a (built_by script a a.state) answer.results answer.number in
    let same : s.request ≡ t.request = same_request s.request t.request (sym s.outstanding.phase ∙ t.phase) in
    let present : answer.association ≡ w.gateway.association =
    t.association ∙ ap (λ (r : Request). r.association) (sym same) ∙ s.outstanding.association ∙ k.association in
    let kept : (w.gateway.link answer.call).last ≡ Some s.answer = subst (λ n. (w.gateway.link n).last ≡ Some s.answer) sound.numbered s.kept in
    let number : s.answer.number ≡ answer.number = s.number ∙ ap (λ (r : Request). r.number) same ∙ sym t.number in
    let the_answer : s.answer ≡ answer = is_kept w.gateway answer s.answer known present kept number in
    let effective : k.e ≡ bound script a answer = s.effective ∙ ap (bound script a) the_answer in
    let link : k.c.link ≡ link_of answer.failure = s.link_is ∙ ap (λ (r : Reply). link_of r.failure) the_answer in
    let executed : last_executed w.gateway a.call ≡ s.answer.number = ap number_of s.kept in
    let answered : s.answer.number ≡ s.request.number = s.number in
    goes_on script Among w.gateway a (bound script a answer) b keep.call keep.lines (let is = keep.association in omega (arith, is)) keep.next
    (leads_follows script a (bound script a answer) answer.failure b t.leads)
    (λ request sent here. elim (sent.outstanding here) [
      | inl is ↦ (let one : s.request.number ≡ request.number =
          ap (λ (r : Request). r.number) (same_request s.request request (sym s.outstanding.phase ∙ is)) in
          omega (arith, one, executed, answered))
      | inr settled ↦ settled
    ])
    (inl (led_current script Among closed w.gateway a (bound script a answer) k.c answer.failure b
    (between_of script Among w.gateway a (bound script a answer) k effective keep.call keep.association keep.next (not_executed script Among w answer.call a sound))
    k.stands link k.state keep.state t.leads).current)

reply_goes : (script : Script) (Among : Listed) → IsClosed script Among → (w : World) (answer : Reply) (a b : Agent)
    → IsReplySound w.gateway answer → CallIsSound script Among w answer.call a → IsTaken script a b answer → Goes script Among w.gateway a b
reply_goes script Among closed w answer a b known sound t = by_part sound.part
  where
    by_at : (k : IsCurrent script Among w.gateway a) → IsAt script w.gateway a k.e k.c.link → Goes script Among w.gateway a b
    -- no reply to a request that wasn't executed has its number
    by_at k (inl s) =
        let same : s.request ≡ t.request = same_request s.request t.request (sym s.outstanding.phase ∙ t.phase) in
        let present : answer.association ≡ w.gateway.association =
        t.association ∙ ap (λ (r : Request). r.association) (sym same) ∙ s.outstanding.association ∙ k.association in
        let executed = no_newer w.gateway answer known present in
        let above : last_executed w.gateway answer.call < s.request.number =
        subst (λ n. last_executed w.gateway n < s.request.number) sound.numbered s.above in
        let number : answer.number ≡ s.request.number = t.number ∙ ap (λ (r : Request). r.number) (sym same) in
        absurd (omega (arith, executed, above, number))
    by_at k (inr (inl s)) = answered_goes script Among closed w answer a b known sound t k s
    by_at k (inr (inr (inl s))) = absurd (pass_quiet a.phase s.phase t.request t.phase)
    by_at k (inr (inr (inr s))) = absurd (rest_quiet a.phase s.phase t.request t.phase)

    by_part : IsCurrent script Among w.gateway a ⊎ IsLost script w.gateway a → Goes script Among w.gateway a b
    by_part (inl k) = by_at k k.at
    by_part (inr lost) =
        let keep = results_keep a (built_by script a a.state) answer.results answer.number in
        lost_goes script Among w.gateway a (bound script a answer) b lost keep.call keep.lines keep.association keep.next
        (leads_follows script a (bound script a answer) answer.failure b t.leads)

pub reply_sound : (answer : Reply) → KeepsSound (λ script w after. Contains w.replies answer × AgentSteps w answer.call (λ a. replied script a answer) after)
reply_sound answer script Among is_script closed w after sound occurs =
    let s = occurs.1 in
    agent_goes script Among w after answer.call (λ a. replied script a answer) sound s
    (reply_goes script Among closed w answer s.before s.agent ((sound.gateway.replies answer occurs.0).1 (s.before, s.open_call))
    (sound.calls answer.call s.before s.open_call) (takes script s.before s.agent answer s.steps))
