-- Where restarts are placed, and what a step means.
use Rattle.std.proofs.Common.{◌≡◌, ◌∙◌, ℕ, List, [], ◌∷◌, Option, Some, None, refl, sym, ap, subst, inl, inr, arith, ◌≤◌}
use Rattle.mg_merge.proofs.Words.{Agent, IsPlacing, MeansNote, PlanStep, Reply, Request, SentNote, TakesNote, TakesReply, World, execute, note, refusal_at}
use Rattle.mg_merge.proofs.Words.{reply, the_some}
use Rattle.mg_model.specs.declared.plans.PlanStep.TheVariants.{Executes}
use Rattle.mg_reports.specs.Laws.{OnePlacingWithoutRestarts, StepsMeanOneEvent}

as_they_are : (steps placed : List PlanStep) → IsPlacing steps 0 placed → placed ≡ steps
unfolding IsPlacing
as_they_are steps [] placing = sym placing.0
as_they_are steps (step ∷ placed) (inl (more, is, placing)) = ap (λ l. step ∷ l) (as_they_are more placed placing) ∙ sym is
as_they_are steps (step ∷ placed) (inr (fewer, is, none, placing)) = absurd (omega (arith, none))

in_place : (steps : List PlanStep) → IsPlacing steps 0 steps
unfolding IsPlacing
in_place [] = (refl, refl)
in_place (step ∷ more) = inl (more, refl, in_place more)

pub one_placing : OnePlacingWithoutRestarts
one_placing steps placed = (as_they_are steps placed, λ e. subst (λ l. IsPlacing steps 0 l) (sym e) (in_place steps))

-- ---- what a step means

-- the number of a note that is named, or of the oldest that waits
one_note : (w : World) (a : Agent) (which : Option ℕ) (x y : SentNote) → MeansNote w a which x → MeansNote w a which y → x.number ≡ y.number
one_note w a None x y first second =
    let below : x.number ≤ y.number = first.2 y second.0 second.1 in
    let above : y.number ≤ x.number = second.2 x first.0 first.1 in omega (arith, below, above)
one_note w a (Some n) x y first second = first.2 ∙ sym second.2

pub one_event : StepsMeanOneEvent
one_event w a next (Executes which place) one other (r, found, e) (s, again, f) =
    e ∙ ap (λ (x : Request). execute a.call x.number (refusal_at place)) (the_some r s (sym found ∙ again)) ∙ sym f
one_event w a next (TakesReply which) one other (r, found, e) (s, again, f) =
    e ∙ ap (λ (x : Reply). reply a.call x.number) (the_some r s (sym found ∙ again)) ∙ sym f
one_event w a next (TakesNote which) one other (x, found, e) (y, again, f) =
    e ∙ ap (λ n. note a.call n) (one_note w a which x y found again) ∙ sym f
one_event w a next _ one other e f = e ∙ sym f
