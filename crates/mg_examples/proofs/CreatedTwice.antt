-- Of the script that creates a context twice and its entries (`specs/CreatedTwice`): both are accepted, and they break the obligation on created
-- names alone.
use Rattle.std.proofs.Common.{◌≡◌, [], ◌∷◌, refl, sym, arith, true≢false, inl, inr, None}
use Rattle.std.specs.Prelude.{◌⊎◌}
use Rattle.std.specs.List.{All}
use Rattle.mg_examples.proofs.Words.{Sent, Answered, Resting, Empty, Armed, Configuration, numbered, IsCovered, Claim, OpeningCovered, ResetCovered, OfPoint}
use Rattle.mg_examples.proofs.Words.{JoinedMarked, EndedCleared, CreatedUnbound, NamesLive, StepCovered, Holds, obligation_of, ComesBefore, CreatedAreUnbound}
use Rattle.mg_examples.proofs.Words.{opening, reset, with_link, IsScript, IsEntryOf}
use Rattle.mg_model.specs.Effects as effects
use Rattle.mg_names.specs.declared.obligations.Obligation.TheVariants as obligation
use Rattle.mg_examples.specs.Needed.{BreaksOnly, fault_at}
use Rattle.mg_examples.proofs.PointFacts.{Below, EachPoint, EachCovered, steps_covered, plain_formed, one_point, two_points, ◌▹◌}
use Rattle.mg_examples.specs.CreatedTwice.{created_twice, add, at_idle, before_first, after_first, before_second, at_lost, created_twice_entries}
use Rattle.mg_examples.proofs.EntriesOfTwo.{HasTwoLines, pairs_uncut, is_first_settled, unused_formed}
use Rattle.mg_examples.proofs.FirstFaults.{holds_before, place_before}
use Rattle.mg_examples.proofs.Duties.{Stepped, each_meets, holds, breaks_only}
use Rattle.mg_examples.proofs.EntryRows.{reread, all_entries, row_formed, row_in, lands, covered_by}
use Rattle.mg_examples.proofs.QuietStates.{is_accepted}

-- ---- the script and the entries are accepted

two : HasTwoLines created_twice
two = record { lines = refl; ephemerals = refl }

pub accepted : IsScript created_twice
accepted = is_accepted created_twice (omega (arith)) (omega (arith)) (omega (arith)) refl

reads : reread created_twice_entries ≡ created_twice_entries
reads = refl

pub listed : All (IsEntryOf created_twice) created_twice_entries
listed = all_entries created_twice two created_twice_entries reads refl

-- ---- the obligations that hold

-- after the first request: line a stands in c
abbrev added : Configuration
added = with_link (effects.effect created_twice (numbered before_first 0) (add 0)) Answered

added_covered : IsCovered created_twice_entries added
added_covered =
    covered_by created_twice_entries reads 2 0 refl added refl
    (plain_formed added is_first_settled (record { mode = λ k. refl; remote = λ k. refl; uncut = pairs_uncut }))

all_covered : Stepped created_twice created_twice_entries
unfolding Below EachPoint EachCovered
all_covered =
    two_points (lands created_twice_entries reads 0 1 refl, tt) (lands created_twice_entries reads 1 0 refl, tt)
    ▹ two_points (lands created_twice_entries reads 1 1 refl, (added_covered, tt)) (lands created_twice_entries reads 0 0 refl, tt)
    ▹ one_point (lands created_twice_entries reads 3 0 refl, tt)
    ▹ one_point tt
    ▹ two_points (lands created_twice_entries reads 4 1 refl, tt) tt
    ▹ tt

-- every claim of another obligation holds, and so does every one that comes before the first that is broken
others : (other : Claim) → (obligation_of other ≡ obligation.CreatedUnbound → ⊥) ⊎ ComesBefore other (OfPoint 3 0 CreatedUnbound) → Holds created_twice created_twice_entries other
unfolding Below
others OpeningCovered h = covered_by created_twice_entries reads 0 1 refl (opening created_twice) refl (unused_formed 0 Resting Armed)
others ResetCovered h = covered_by created_twice_entries reads 4 0 refl (reset created_twice) refl (unused_formed 4 Answered Empty)
others (OfPoint e p JoinedMarked) h = holds created_twice created_twice_entries two reads JoinedMarked refl e p
others (OfPoint e p EndedCleared) h = holds created_twice created_twice_entries two reads EndedCleared refl e p
others (OfPoint e p CreatedUnbound) (inl differs) = absurd (differs refl)
others (OfPoint e p CreatedUnbound) (inr before) =
    let front = at_idle ∷ before_first ∷ after_first ∷ [] in
    holds_before (CreatedAreUnbound created_twice) front before_second (at_lost ∷ []) 0
    (each_meets created_twice two created_twice_entries front CreatedUnbound refl refl) tt e p (place_before e p 2 0 3 0 before)
others (OfPoint e p NamesLive) h = holds created_twice created_twice_entries two reads NamesLive refl e p
others (OfPoint e p (StepCovered s)) h = steps_covered created_twice created_twice_entries all_covered e p s

-- ---- the one that is broken

broken : Holds created_twice created_twice_entries (OfPoint 3 0 CreatedUnbound) → ⊥
broken holds = true≢false (sym (holds before_second refl (numbered before_second 0) (omega (arith), refl, row_formed (row_in created_twice_entries 3) Sent refl) refl))

pub breaks : BreaksOnly created_twice created_twice_entries (fault_at obligation.CreatedUnbound 3 0 None)
breaks = breaks_only created_twice created_twice_entries (OfPoint 3 0 CreatedUnbound) (fault_at obligation.CreatedUnbound 3 0 None) refl (refl, refl, refl) broken others
