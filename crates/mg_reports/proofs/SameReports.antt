-- Two runs of a call alone by the same steps, with the same replies, end alike.
use Rattle.std.proofs.Common.{◌≡◌, ◌∙◌, ◌++◌, ◌+◌, ℕ, List, [], ◌∷◌, refl, sym, ap, subst, inl, inr}
use Rattle.mg_merge.proofs.Words.{Agent, Event, GoesOff, Means, Occurs, PlanStep, Progress, Reply, Script, StepHappens, StepsRun, World, after_event}
use Rattle.mg_merge.proofs.Words.{append_assoc, number_begun, the_some}
use Rattle.mg_alike.proofs.Words.{AreNamedByNumber}
use Rattle.mg_safety.proofs.Messages.NamedMessages.{event_numbered, opening_numbered}
use Rattle.mg_safety.proofs.Messages.NumberedWorlds.{IsNumbered}
use Rattle.mg_reports.proofs.Placings.{one_event}
use Rattle.mg_reports.proofs.SameEvents.{EndAlike, same_event, event_adds}
use Rattle.mg_reports.specs.Laws.{RepliesDetermineRuns}
use Rattle.mg_reports.proofs.Along.{Goes}

named : (w : World) → IsNumbered w → AreNamedByNumber w
named w numbered = record { requests = numbered.requests.once; replies = numbered.replies.once; notes = numbered.notes.once }

-- ---- a step

-- the world after an event, whatever is counted
world_after : (script : Script) (first : ℕ) (a : Agent) (p : Progress) (step : PlanStep) (w : World) → (after_event script first a p step w).world ≡ w
world_after script first a p (GoesOff l) w = refl
world_after script first a p _ w = refl

numbered_after : (script : Script) (first : ℕ) (p : Progress) (step : PlanStep) (after : Progress) → IsNumbered p.world → Goes script first p step after
    → IsNumbered after.world
numbered_after script first p step after numbered (inl x) =
    subst (λ (q : Progress). IsNumbered q.world) (sym x.after_is) (by_step step (event_numbered script p.world x.world x.event numbered x.occurs))
  where
    by_step : (step : PlanStep) → IsNumbered x.world → IsNumbered (after_event script first x.agent p step x.world).world
    by_step step is = subst IsNumbered (sym (world_after script first x.agent p step x.world)) is
numbered_after script first p step after numbered (inr x) = subst (λ (q : Progress). IsNumbered q.world) (sym x.after_is) numbered

adds : (script : Script) (first : ℕ) (p : Progress) (step : PlanStep) (after : Progress) → Goes script first p step after
    → (more : List Reply) × (after.world.replies ≡ more ++ p.world.replies)
adds script first p step after (inl x) =
    let event = event_adds script p.world x.world x.event x.occurs in (
      event.0,
      ap (λ (q : Progress). q.world.replies) x.after_is
          ∙ ap (λ (w : World). w.replies) (world_after script first x.agent p step x.world) ∙ event.1,
    )
adds script first p step after (inr x) = ([], ap (λ (q : Progress). q.world.replies) x.after_is)

-- one of two steps that happen or are idle is what the other is
same_step : (script : Script) (first : ℕ) (p : Progress) (step : PlanStep) (one other : Progress) → IsNumbered p.world → Goes script first p step one
    → Goes script first p step other → EndAlike one.world.replies other.world.replies → one ≡ other
same_step script first p step one other numbered (inl x) (inl y) (more, also, e) =
    let agent : x.agent ≡ y.agent = the_some x.agent y.agent (sym x.stands ∙ y.stands) in
    let event : x.event ≡ y.event = one_event p.world y.agent (number_begun first (p.begun + 1)) step x.event y.event
    (subst (λ (a : Agent). Means p.world a (number_begun first (p.begun + 1)) step x.event) agent x.means) y.means in
    let world : x.world ≡ y.world = same_event script p.world x.world y.world y.event (named p.world numbered)
    (subst (λ (v : Event). Occurs script p.world v x.world) event x.occurs) y.occurs
    (more, also, ap (λ (w : World). more ++ w.replies) (sym (world_of one x)) ∙ e ∙ ap (λ (w : World). also ++ w.replies) (world_of other y)) in
    x.after_is ∙ ap (λ (a : Agent). after_event script first a p step x.world) agent ∙ ap (λ (w : World). after_event script first y.agent p step w) world
    ∙ sym y.after_is
  where
    world_of : (after : Progress) (z : StepHappens script first p step after) → after.world ≡ z.world
    world_of after z = ap (λ (q : Progress). q.world) z.after_is ∙ world_after script first z.agent p step z.world
same_step script first p step one other numbered (inl x) (inr y) alike =
    absurd (y.cannot x.event x.world (subst (λ (a : Agent). Means p.world a (number_begun first (p.begun + 1)) step x.event)
    (the_some x.agent y.agent (sym x.stands ∙ y.stands)) x.means) x.occurs)
same_step script first p step one other numbered (inr x) (inl y) alike =
    absurd (x.cannot y.event y.world (subst (λ (a : Agent). Means p.world a (number_begun first (p.begun + 1)) step y.event)
    (the_some y.agent x.agent (sym y.stands ∙ x.stands)) y.means) y.occurs)
same_step script first p step one other numbered (inr x) (inr y) alike = x.after_is ∙ sym y.after_is

-- ---- steps one after the other

steps_add : (script : Script) (first : ℕ) (steps : List PlanStep) (p end : Progress) → StepsRun script first steps p end
    → (more : List Reply) × (end.world.replies ≡ more ++ p.world.replies)
unfolding StepsRun
steps_add script first [] p end run = ([], ap (λ (q : Progress). q.world.replies) run)
steps_add script first (step ∷ steps) p end (next, goes, run) =
    let later = steps_add script first steps next end run in
    let now = adds script first p step next goes in
    (later.0 ++ now.0, later.1 ∙ ap (λ l. later.0 ++ l) now.1 ∙ sym (append_assoc later.0 now.0 p.world.replies))

same_steps : (script : Script) (first : ℕ) (steps : List PlanStep) (p end other : Progress) → IsNumbered p.world → StepsRun script first steps p end
    → StepsRun script first steps p other → end.world.replies ≡ other.world.replies → end ≡ other
unfolding StepsRun
same_steps script first [] p end other numbered run also same = run ∙ sym also
same_steps script first (step ∷ steps) p end other numbered (next, goes, run) (then, moves, also) same =
    let one = steps_add script first steps next end run in
    let two = steps_add script first steps then other also in
    let is : next ≡ then = same_step script first p step next then numbered goes moves (one.0, two.0, sym one.1 ∙ same ∙ two.1) in
    same_steps script first steps then end other (numbered_after script first p step then numbered moves)
    (subst (λ (q : Progress). StepsRun script first steps q end) is run) also same

pub determined : RepliesDetermineRuns
determined script one steps start end other opens run also same =
    same_steps script one.call steps (record { world = start; standing = one.call; begun = 0; events = 0; idle = 0; retired = [] }) end other
    (opening_numbered script (one ∷ []) start opens) run also same
