-- That the obligation of the opening is needed. The script: line a goes off hook in `idle`, and the call enters `talk`, which puts both lines
-- in a context and marks no pair. The one entry has `idle` with empty events lists, which is what a call is in after a restart, so it
-- leaves out the configuration that a call opens in. In the run line 1 goes off hook.
use Rattle.std.proofs.Common.{◌≡◌, [], Bool, true, false, refl, ap, arith, true≢false, inl, inr}
use Rattle.mg_examples.proofs.Words.{Answered, EventsName, Empty, Armed, links, IsCovered, Claim, OpeningCovered, ResetCovered, OfPoint, JoinedMarked}
use Rattle.mg_examples.proofs.Words.{EndedCleared, CreatedUnbound, NamesLive, StepCovered, Holds, obligation_of, ComesBefore, key_of, opening, reset, Own}
use Rattle.mg_names.specs.declared.obligations.Obligation.TheVariants as obligation
use Rattle.mg_examples.specs.Needed.{IsNeeded, whole_fault}
use Rattle.mg_model.proofs.Single.{only_one}
use Rattle.mg_model.proofs.Claims.{not_before_itself}
use Rattle.mg_examples.specs.TwoLines.{to_talk_off_hook, calling}
use Rattle.mg_examples.proofs.CallingRun.{calling_ends_badly}
use Rattle.mg_examples.specs.TalkEntries.{idle_unarmed, after_a_restart}
use Rattle.mg_examples.proofs.PointFacts.{steps_covered, EachCovered, two_points, ◌▹◌, Below, EachPoint}
use Rattle.mg_examples.proofs.TwoLines.{is_script}
use Rattle.std.specs.Prelude.{◌⊎◌}
use Rattle.mg_examples.proofs.EntriesOfTwo.{HasTwoLines, unused_formed}
use Rattle.mg_examples.proofs.Duties.{holds, breaks_only}
use Rattle.mg_examples.proofs.EntryRows.{only_one_included, all_entries, covered_by, lands}

abbrev is_empty_list : EventsName → Bool
is_empty_list Empty = true
is_empty_list Armed = false
is_empty_list (Own k) = false

-- line a is armed in the opening, and not in the entry
not_opened : IsCovered after_a_restart (opening (calling [])) → ⊥
not_opened covered =
    let armed = (only_one_included idle_unarmed (opening (calling [])) covered).2 3 (links []) (omega (arith)) in
    true≢false (ap is_empty_list (only_one Empty Armed armed))

two : HasTwoLines (calling [])
two = record { lines = refl; ephemerals = refl }

-- every claim of another obligation holds, and so does every one that comes before the first that is broken
others_hold : (other : Claim) → (obligation_of other ≡ obligation.OpeningCovered → ⊥) ⊎ ComesBefore other OpeningCovered → Holds (calling []) after_a_restart other
unfolding Below EachPoint EachCovered
others_hold OpeningCovered (inl differ) = absurd (differ refl)
others_hold OpeningCovered (inr before) = absurd (not_before_itself (key_of OpeningCovered) before)
others_hold ResetCovered h = covered_by after_a_restart refl 0 0 refl (reset (calling [])) refl (unused_formed 0 Answered Empty)
others_hold (OfPoint e p JoinedMarked) h = holds (calling []) after_a_restart two refl JoinedMarked refl e p
others_hold (OfPoint e p EndedCleared) h = holds (calling []) after_a_restart two refl EndedCleared refl e p
others_hold (OfPoint e p CreatedUnbound) h = holds (calling []) after_a_restart two refl CreatedUnbound refl e p
others_hold (OfPoint e p NamesLive) h = holds (calling []) after_a_restart two refl NamesLive refl e p
others_hold (OfPoint e p (StepCovered s)) h =
    steps_covered (calling []) after_a_restart (two_points (lands after_a_restart refl 0 1 refl, tt) tt ▹ tt) e p s

pub opening_needed : IsNeeded (calling []) after_a_restart (whole_fault obligation.OpeningCovered)
opening_needed = record {
  accepted = is_script [] to_talk_off_hook 0;
  listed = all_entries (calling []) two after_a_restart refl refl;
  breaks = breaks_only (calling []) after_a_restart OpeningCovered (whole_fault obligation.OpeningCovered) refl (refl, refl, refl) not_opened others_hold;
  ends = calling_ends_badly;
}
