-- Of the script that uses a context's name after the context is gone and its entries (`specs/NamesKept`): both are accepted, and they break the
-- obligation on names alone.
use Rattle.std.proofs.Common.{◌≡◌, ℕ, zero, suc, Bool, true, false, if◌then◌else◌, [], ◌∷◌, refl, arith, inl, inr, None}
use Rattle.std.specs.Prelude.{◌==◌, ◌||◌, ◌⊎◌}
use Rattle.std.specs.List.{All}
use Rattle.mg_examples.proofs.Words.{Free, Sent, Answered, Resting, Subtract, Empty, Armed, IsScript, IsEntryOf, Configuration, is_live, is_same, value_of}
use Rattle.mg_examples.proofs.Words.{numbered, IsCovered, Claim, OpeningCovered, ResetCovered, OfPoint, JoinedMarked, EndedCleared, CreatedUnbound, NamesLive}
use Rattle.mg_examples.proofs.Words.{StepCovered, Holds, obligation_of, ComesBefore, NamesAreLive, opening, reset, with_link, state_of}
use Rattle.mg_names.specs.declared.context_values.ContextValue.TheVariants as value
use Rattle.mg_names.specs.declared.obligations.Obligation.TheVariants as obligation
use Rattle.mg_model.specs.declared.commands.Termination.TheVariants.{Line}
use Rattle.mg_model.specs.Effects as effects
use Rattle.mg_examples.specs.Needed.{BreaksOnly, fault_at}
use Rattle.mg_examples.specs.NamesKept.{name_kept, add, at_idle, before_make, after_make, before_leave, after_leave, before_again, at_lost, name_kept_entries}
use Rattle.mg_examples.proofs.PointFacts.{Below, EachPoint, EachCovered, steps_covered, plain_formed, one_point, two_points, ◌▹◌}
use Rattle.mg_examples.proofs.EntriesOfTwo.{HasTwoLines, pairs_uncut, is_first_settled, unused_formed}
use Rattle.mg_examples.proofs.FirstFaults.{holds_before, place_before}
use Rattle.mg_examples.proofs.Duties.{Stepped, each_meets, holds, breaks_only}
use Rattle.mg_examples.proofs.EntryRows.{reread, all_entries, row_formed, row_in, lands, covered_by}
use Rattle.mg_examples.proofs.QuietStates.{is_accepted}

-- ---- the script and the entries are accepted

two : HasTwoLines name_kept
two = record { lines = refl; ephemerals = refl }

pub accepted : IsScript name_kept
accepted = is_accepted name_kept (omega (arith)) (omega (arith)) (omega (arith)) refl

-- no state marks a pair
pub none_marked : (n : ℕ) → (state_of name_kept n).talk ≡ []
none_marked zero = refl
none_marked (suc zero) = refl
none_marked (suc (suc zero)) = refl
none_marked (suc (suc (suc zero))) = refl
none_marked (suc (suc (suc (suc zero)))) = refl
none_marked (suc (suc (suc (suc (suc n))))) = refl

reads : reread name_kept_entries ≡ name_kept_entries
reads = refl

pub listed : All (IsEntryOf name_kept) name_kept_entries
listed = all_entries name_kept two name_kept_entries reads refl

-- ---- the obligations that hold

-- after the request of `make`: line a stands in c
abbrev made : Configuration
made = with_link (effects.effect name_kept (numbered before_make 0) (add true)) Answered

made_covered : IsCovered name_kept_entries made
made_covered =
    covered_by name_kept_entries reads 2 0 refl made refl
    (plain_formed made is_first_settled (record { mode = λ k. refl; remote = λ k. refl; uncut = pairs_uncut }))

-- after the request of `leave`: nobody stands in c, and its name is bound
abbrev left : Configuration
left = with_link (effects.effect name_kept (numbered before_leave 0) (Subtract 0 (Line 0))) Answered

is_left_settled : (test : Bool) → is_live (value_of (if test then value.Live else Free) false) ≡ false
is_left_settled true = refl
is_left_settled false = refl

-- no cut is made where some are forgotten
still_uncut : (forgotten was : Bool) → was ≡ false → (if forgotten then false else was) ≡ false
still_uncut true was uncut = refl
still_uncut false was uncut = uncut

left_covered : IsCovered name_kept_entries left
left_covered = covered_by name_kept_entries reads 4 0 refl left refl (plain_formed left (λ j. is_left_settled (j == 0)) (record {
  mode = λ k. refl;
  remote = λ k. refl;
  uncut = λ t u. still_uncut (is_same (Line 0) t || is_same (Line 0) u) ((numbered before_leave 0).cut t u) (pairs_uncut t u);
}))

all_covered : Stepped name_kept name_kept_entries
unfolding Below EachPoint EachCovered
all_covered =
    one_point (lands name_kept_entries reads 1 0 refl, tt)
    ▹ two_points (lands name_kept_entries reads 1 1 refl, (made_covered, tt)) (lands name_kept_entries reads 1 0 refl, tt)
    ▹ one_point (lands name_kept_entries reads 3 0 refl, tt)
    ▹ two_points (lands name_kept_entries reads 3 1 refl, (left_covered, tt)) (lands name_kept_entries reads 3 0 refl, tt)
    ▹ one_point (lands name_kept_entries reads 5 0 refl, tt)
    ▹ two_points (lands name_kept_entries reads 5 1 refl, tt) (lands name_kept_entries reads 5 0 refl, tt)
    ▹ two_points (lands name_kept_entries reads 6 1 refl, tt) tt
    ▹ tt

-- every claim of another obligation holds, and so does every one that comes before the first that is broken
others : (other : Claim) → (obligation_of other ≡ obligation.NamesLive → ⊥) ⊎ ComesBefore other (OfPoint 5 0 NamesLive) → Holds name_kept name_kept_entries other
unfolding Below
others OpeningCovered h = covered_by name_kept_entries reads 0 0 refl (opening name_kept) refl (unused_formed 0 Resting Armed)
others ResetCovered h = covered_by name_kept_entries reads 6 0 refl (reset name_kept) refl (unused_formed 4 Answered Empty)
others (OfPoint e p JoinedMarked) h = holds name_kept name_kept_entries two reads JoinedMarked refl e p
others (OfPoint e p EndedCleared) h = holds name_kept name_kept_entries two reads EndedCleared refl e p
others (OfPoint e p CreatedUnbound) h = holds name_kept name_kept_entries two reads CreatedUnbound refl e p
others (OfPoint e p NamesLive) (inl differs) = absurd (differs refl)
others (OfPoint e p NamesLive) (inr before) =
    let front = at_idle ∷ before_make ∷ after_make ∷ before_leave ∷ after_leave ∷ [] in
    holds_before NamesAreLive front before_again (at_lost ∷ []) 0
    (each_meets name_kept two name_kept_entries front NamesLive refl refl) tt e p (place_before e p 3 0 5 0 before)
others (OfPoint e p (StepCovered s)) h = steps_covered name_kept name_kept_entries all_covered e p s

-- ---- the one that is broken

broken : Holds name_kept name_kept_entries (OfPoint 5 0 NamesLive) → ⊥
broken holds =
    (holds before_again refl (numbered before_again 0) (omega (arith), refl, row_formed (row_in name_kept_entries 5) Sent refl) (inl refl)).contexts 0 refl

pub breaks : BreaksOnly name_kept name_kept_entries (fault_at obligation.NamesLive 5 0 None)
breaks = breaks_only name_kept name_kept_entries (OfPoint 5 0 NamesLive) (fault_at obligation.NamesLive 5 0 None) refl (refl, refl, refl) broken others
