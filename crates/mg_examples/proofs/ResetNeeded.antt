-- That the obligation of the reset is needed. The script: `idle` has no transition, and `talk`, which puts both lines in a context and
-- marks no pair, is the restart state. The one entry has `idle` at rest with armed lines, which is what a call opens in, so it leaves
-- out the configuration after a restart. In the run the gateway restarts.
use Rattle.std.proofs.Common.{◌≡◌, [], refl, ap, true≢false, inl, inr}
use Rattle.std.specs.Prelude.{◌==◌, ◌⊎◌}
use Rattle.mg_examples.proofs.Words.{Resting, Armed, IsCovered, Claim, OpeningCovered, ResetCovered, OfPoint, JoinedMarked, EndedCleared, CreatedUnbound}
use Rattle.mg_examples.proofs.Words.{NamesLive, StepCovered, Holds, obligation_of, ComesBefore, key_of, reset, opening}
use Rattle.mg_names.specs.declared.obligations.Obligation.TheVariants as obligation
use Rattle.mg_examples.specs.Needed.{IsNeeded, whole_fault}
use Rattle.mg_model.proofs.Claims.{not_before_itself}
use Rattle.mg_examples.specs.TalkEntries.{idle_armed, at_rest}
use Rattle.mg_examples.proofs.PointFacts.{steps_covered, EachCovered, one_point, ◌▹◌, Below, EachPoint}
use Rattle.mg_examples.proofs.RecoveringRun.{recovering_ends_badly}
use Rattle.mg_examples.specs.TwoLines.{recovering}
use Rattle.mg_examples.proofs.TwoLines.{is_script}
use Rattle.mg_examples.proofs.EntriesOfTwo.{HasTwoLines, unused_formed}
use Rattle.mg_examples.proofs.Duties.{holds, breaks_only}
use Rattle.mg_examples.proofs.EntryRows.{all_entries, covered_by, only_one_included}

-- the reset is in the state `talk`, and the entry isn't
not_reset : IsCovered at_rest (reset recovering) → ⊥
not_reset covered = true≢false (ap (λ state. state == 1) (only_one_included idle_armed (reset recovering) covered).0)

two : HasTwoLines recovering
two = record { lines = refl; ephemerals = refl }

-- every claim of another obligation holds, and so does every one that comes before the first that is broken
others_hold : (other : Claim) → (obligation_of other ≡ obligation.ResetCovered → ⊥) ⊎ ComesBefore other ResetCovered → Holds recovering at_rest other
unfolding Below EachPoint EachCovered
others_hold OpeningCovered h = covered_by at_rest refl 0 0 refl (opening recovering) refl (unused_formed 0 Resting Armed)
others_hold ResetCovered (inl differ) = absurd (differ refl)
others_hold ResetCovered (inr before) = absurd (not_before_itself (key_of ResetCovered) before)
others_hold (OfPoint e p JoinedMarked) h = holds recovering at_rest two refl JoinedMarked refl e p
others_hold (OfPoint e p EndedCleared) h = holds recovering at_rest two refl EndedCleared refl e p
others_hold (OfPoint e p CreatedUnbound) h = holds recovering at_rest two refl CreatedUnbound refl e p
others_hold (OfPoint e p NamesLive) h = holds recovering at_rest two refl NamesLive refl e p
others_hold (OfPoint e p (StepCovered s)) h = steps_covered recovering at_rest (one_point tt ▹ tt) e p s

pub reset_needed : IsNeeded recovering at_rest (whole_fault obligation.ResetCovered)
reset_needed = record {
  accepted = is_script [] [] 1;
  listed = all_entries recovering two at_rest refl refl;
  breaks = breaks_only recovering at_rest ResetCovered (whole_fault obligation.ResetCovered) refl (refl, refl, refl) not_reset others_hold;
  ends = recovering_ends_badly;
}
