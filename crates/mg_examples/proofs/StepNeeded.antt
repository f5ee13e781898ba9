-- That the obligation of the steps is needed. The script: line a goes off hook in `idle`, and the call enters `talk`, which puts both lines in
-- a context and marks no pair. The entries have what a call opens in and what it is in after a restart, both in `idle`, so they leave
-- out what the step into `talk` leads to. In the run line 1 goes off hook.
use Rattle.std.proofs.Common.{◌≡◌, ◌∙◌, [], ◌∷◌, refl, ap, arith, true≢false, inl, inr, Some}
use Rattle.std.proofs.lemmas.List.Elements.{All-from_recursion, All-contains}
use Rattle.std.specs.Prelude.{Contains, ◌==◌, ◌⊎◌}
use Rattle.mg_names.specs.declared.kinds.Kind.TheVariants.{Of}
use Rattle.mg_examples.proofs.Words.{Answered, Resting, Empty, Armed, Entry, numbered, Claim, OpeningCovered, ResetCovered, OfPoint, JoinedMarked, EndedCleared}
use Rattle.mg_examples.proofs.Words.{CreatedUnbound, NamesLive, StepCovered, Holds, obligation_of, ComesBefore, Step, steps_of, opening, reset, with_state}
use Rattle.mg_model.specs.declared.steps.StepName.TheVariants.{Observe}
use Rattle.mg_names.specs.declared.obligations.Obligation.TheVariants as obligation
use Rattle.mg_examples.specs.Needed.{IsNeeded, fault_at}
use Rattle.mg_examples.specs.TwoLines.{to_talk_off_hook, calling}
use Rattle.mg_examples.proofs.CallingRun.{calling_ends_badly}
use Rattle.mg_examples.specs.TalkEntries.{idle_armed, in_idle, idle_unarmed}
use Rattle.mg_examples.proofs.PointFacts.{EachCovered, step_covered, two_points, ◌▹◌, Below, EachPoint}
use Rattle.mg_examples.proofs.TwoLines.{is_script}
use Rattle.mg_examples.proofs.FirstFaults.{holds_before, place_before}
use Rattle.mg_examples.proofs.EntriesOfTwo.{HasTwoLines, unused_formed}
use Rattle.mg_examples.proofs.Duties.{holds, breaks_only}
use Rattle.mg_examples.proofs.EntryRows.{row_formed, row_in, all_entries, covered_by, lands}

-- each entry is of the state `idle`
all_idle : (entry : Entry) → Contains in_idle entry → entry.state ≡ 0
all_idle entry among =
    All-contains (λ (x : Entry). x.state ≡ 0) in_idle entry (All-from_recursion (λ (x : Entry). x.state ≡ 0) in_idle (refl, (refl, tt))) among

-- the step of the note that line a went off hook leads to the state `talk`
abbrev to_talk : Step
to_talk = (Observe 0 Of, with_state (calling []) (numbered idle_armed 0) 1)

not_covered : Holds (calling []) in_idle (OfPoint 1 0 (StepCovered 0)) → ⊥
not_covered h =
    let covered =
    h idle_armed refl (numbered idle_armed 0) (omega (arith), refl, row_formed (row_in in_idle 1) Resting refl) to_talk refl in
    true≢false (ap (λ state. state == 1) (covered.1.1.0 ∙ all_idle covered.0 covered.1.0))

two : HasTwoLines (calling [])
two = record { lines = refl; ephemerals = refl }

-- every claim of another obligation holds, and so does every one that comes before the first that is broken
others_hold : (other : Claim) → (obligation_of other ≡ obligation.StepsCovered → ⊥) ⊎ ComesBefore other (OfPoint 1 0 (StepCovered 0)) → Holds (calling []) in_idle other
unfolding Below EachPoint EachCovered
others_hold OpeningCovered h = covered_by in_idle refl 1 0 refl (opening (calling [])) refl (unused_formed 0 Resting Armed)
others_hold ResetCovered h = covered_by in_idle refl 0 0 refl (reset (calling [])) refl (unused_formed 0 Answered Empty)
others_hold (OfPoint e p JoinedMarked) h = holds (calling []) in_idle two refl JoinedMarked refl e p
others_hold (OfPoint e p EndedCleared) h = holds (calling []) in_idle two refl EndedCleared refl e p
others_hold (OfPoint e p CreatedUnbound) h = holds (calling []) in_idle two refl CreatedUnbound refl e p
others_hold (OfPoint e p NamesLive) h = holds (calling []) in_idle two refl NamesLive refl e p
others_hold (OfPoint e p (StepCovered s)) (inl differ) = absurd (differ refl)
others_hold (OfPoint e p (StepCovered s)) (inr before) = λ entry there c point.
    step_covered in_idle (steps_of (calling []) c)
    (holds_before (λ c. EachCovered in_idle (steps_of (calling []) c)) (idle_unarmed ∷ []) idle_armed [] 0
    (two_points (lands in_idle refl 0 1 refl, tt) tt ▹ tt) tt e p (place_before e p 4 s 1 0 before) entry there c point)
    s

pub step_needed : IsNeeded (calling []) in_idle (fault_at obligation.StepsCovered 1 0 (Some (Observe 0 Of)))
step_needed = record {
  accepted = is_script [] to_talk_off_hook 0;
  listed = all_entries (calling []) two in_idle refl refl;
  breaks = breaks_only (calling []) in_idle (OfPoint 1 0 (StepCovered 0)) (fault_at obligation.StepsCovered 1 0 (Some (Observe 0 Of))) refl
      (refl, refl, (idle_armed, refl, (numbered idle_armed 0, (omega (arith), refl, row_formed (row_in in_idle 1) Resting refl), (to_talk, refl, refl))))
      not_covered others_hold;
  ends = calling_ends_badly;
}
