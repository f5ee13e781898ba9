-- That the obligation of marks is needed. The script: line a goes off hook in `idle`, and the call enters `talk`, which puts both lines in a
-- context and marks no pair. The entries hold all that is reachable, so only the lines that are joined in `talk` are wrong. In the run
-- line 1 goes off hook.
use Rattle.std.proofs.Common.{◌≡◌, [], refl, sym, ap, arith, true≢false, inl, inr, None, ◌∷◌}
use Rattle.std.specs.Prelude.{◌==◌, ◌⊎◌}
use Rattle.mg_examples.proofs.Words.{numbered, Claim, OpeningCovered, ResetCovered, OfPoint, JoinedMarked, EndedCleared, CreatedUnbound, NamesLive, StepCovered}
use Rattle.mg_examples.proofs.Words.{Holds, obligation_of, ComesBefore, JoinedAreMarked, Answered}
use Rattle.mg_names.specs.declared.obligations.Obligation.TheVariants as obligation
use Rattle.mg_examples.specs.Needed.{IsNeeded, fault_at}
use Rattle.mg_examples.specs.TwoLines.{to_talk_off_hook, calling}
use Rattle.mg_examples.proofs.CallingRun.{calling_ends_badly}
use Rattle.mg_examples.proofs.PointFacts.{steps_covered, Below}
use Rattle.mg_examples.proofs.TalkEntries.{all_listed, all_stepped, reads, two, closed}
use Rattle.mg_examples.specs.TalkEntries.{both, reachable, idle_unarmed, idle_armed, sent, half, stopped_at_once, stopped_half}
use Rattle.mg_examples.proofs.TwoLines.{is_script}
use Rattle.mg_examples.proofs.FirstFaults.{holds_before, place_before}
use Rattle.mg_examples.proofs.Duties.{each_meets, holds, breaks_only}
use Rattle.mg_examples.proofs.EntryRows.{row_formed, row_in}

-- at rest in `talk` the two lines are joined, and no pair is marked
not_marked : Holds (calling []) reachable (OfPoint 4 0 JoinedMarked) → ⊥
not_marked h =
    let marked =
    h both refl (numbered both 0) (omega (arith), refl, row_formed (row_in reachable 4) Answered refl) 0 1 (omega (arith)) (omega (arith))
    (inl (record { another = λ e. true≢false (ap (λ n. n == 0) e); crossings = []; goes = refl })) in
    true≢false (sym marked)

-- every claim of another obligation holds, and so does every one that comes before the first that is broken
others_hold : (other : Claim) → (obligation_of other ≡ obligation.JoinedMarked → ⊥) ⊎ ComesBefore other (OfPoint 4 0 JoinedMarked) → Holds (calling []) reachable other
unfolding Below
others_hold OpeningCovered h = (closed []).opening
others_hold ResetCovered h = (closed []).reset
others_hold (OfPoint e p JoinedMarked) (inl differ) = absurd (differ refl)
others_hold (OfPoint e p JoinedMarked) (inr before) =
    let front = idle_unarmed ∷ idle_armed ∷ sent ∷ half ∷ [] in
    holds_before (JoinedAreMarked (calling [])) front both (stopped_at_once ∷ stopped_half ∷ []) 0
    (each_meets (calling []) (two []) reachable front JoinedMarked refl refl) tt e p (place_before e p 0 0 4 0 before)
others_hold (OfPoint e p EndedCleared) h = holds (calling []) reachable (two []) reads EndedCleared refl e p
others_hold (OfPoint e p CreatedUnbound) h = holds (calling []) reachable (two []) reads CreatedUnbound refl e p
others_hold (OfPoint e p NamesLive) h = holds (calling []) reachable (two []) reads NamesLive refl e p
others_hold (OfPoint e p (StepCovered s)) h = steps_covered (calling []) reachable (all_stepped []) e p s

pub mark_needed : IsNeeded (calling []) reachable (fault_at obligation.JoinedMarked 4 0 None)
mark_needed = record {
  accepted = is_script [] to_talk_off_hook 0;
  listed = all_listed [];
  breaks = breaks_only (calling []) reachable (OfPoint 4 0 JoinedMarked) (fault_at obligation.JoinedMarked 4 0 None) refl (refl, refl, refl) not_marked others_hold;
  ends = calling_ends_badly;
}
