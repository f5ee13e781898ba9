-- The obligations in their order: what is found of the points, after the opening and the reset, is the answer.
use Rattle.std.proofs.Common.{◌≡◌, ℕ, ◌<◌, ◌≤◌, List, [], ◌∷◌, Option, Some, None, refl, sym, ◌∙◌, ap, ap₂, subst, arith, inl, inr, ◌⊎◌}
use Rattle.std.specs.List.{slice_get}
use Rattle.std.proofs.lemmas.Option.{same_Some}
use Rattle.mg_names.specs.declared.obligations.Obligation.TheVariants as obligation
use Rattle.mg_model.specs.declared.faults.Fault.{Fault}
use Rattle.mg_model.specs.Script.{Script}
use Rattle.mg_model.specs.Configuration.{Configuration}
use Rattle.mg_model.specs.Steps.{steps_of, opening, reset}
use Rattle.mg_model.specs.Entries.{Entry, IsPointOf, IsCovered, numbered}
use Rattle.mg_model.specs.Obligations.{JoinedAreMarked, EndedIsCleared, CreatedAreUnbound, NamesAreLive, Claim, OpeningCovered, ResetCovered, OfPoint, Duty, JoinedMarked, EndedCleared, CreatedUnbound, NamesLive, StepCovered, Asks, AtPoint, Holds, rank, step_place, KeyBefore, ComesBefore, key_of, NoneBroken, IsFirstFault}
use Rattle.mg_model.proofs.Claims.{not_before_itself}
use Rattle.closure.specs.declared.broken.Broken.{Broken}
use Rattle.closure.specs.declared.broken.Broken.TheVariants.{JoinedMarked, EndedCleared, CreatedUnbound, NamesLive, StepsCovered}
use Rattle.closure.specs.Answer.{IsAnswer}
use Rattle.closure.specs.Findings.{AreCoveredBelow, AreKeptBelow, EntriesAreKeptBelow, IsFirstBroken, IsFirstEntry, IsKept, PointsFinding, fault_at, whole_fault}

-- ---- the opening and the reset

later_part : {X : Type 0} (x y : ℕ) → y < x → (x < y) ⊎ ((x ≡ y) × X) → ⊥
later_part x y more (inl less) = omega (arith, less, more)
later_part x y more (inr same) = omega (arith, same.0, more)

none_before_opening : (o : Claim) → ComesBefore o OpeningCovered → ⊥
none_before_opening OpeningCovered h = not_before_itself (key_of OpeningCovered) h
none_before_opening ResetCovered h = later_part 1 0 (omega arith) h
none_before_opening (OfPoint e p duty) h = later_part 2 0 (omega arith) h

pub opening_broken : (script : Script) (entries : List Entry) → (IsCovered entries (opening script) → ⊥)
    → IsFirstFault script entries (whole_fault obligation.OpeningCovered)
opening_broken script entries broken = record {
  claim = OpeningCovered;
  broken = broken;
  before = λ o h. absurd (none_before_opening o h);
  obligation = refl;
  entry = refl;
  point = refl;
  step = refl;
}

opening_before_reset : (script : Script) (entries : List Entry) → IsCovered entries (opening script)
    → (o : Claim) → ComesBefore o ResetCovered → Holds script entries o
opening_before_reset script entries opened OpeningCovered h = opened
opening_before_reset script entries opened ResetCovered h = absurd (not_before_itself (key_of ResetCovered) h)
opening_before_reset script entries opened (OfPoint e p duty) h = absurd (later_part 2 1 (omega arith) h)

pub reset_broken : (script : Script) (entries : List Entry) → IsCovered entries (opening script)
    → (IsCovered entries (reset script) → ⊥) → IsFirstFault script entries (whole_fault obligation.ResetCovered)
reset_broken script entries opened broken = record {
  claim = ResetCovered;
  broken = broken;
  before = opening_before_reset script entries opened;
  obligation = refl;
  entry = refl;
  point = refl;
  step = refl;
}

-- ---- no obligation is broken

-- what is kept meets each duty
kept_asks : (script : Script) (entries : List Entry) (c : Configuration) → IsKept script entries c → (duty : Duty) → Asks script entries duty c
kept_asks script entries c kept JoinedMarked = kept.marked
kept_asks script entries c kept EndedCleared = kept.cleared
kept_asks script entries c kept CreatedUnbound = kept.unbound
kept_asks script entries c kept NamesLive = kept.live
kept_asks script entries c kept (StepCovered s) = kept.covered s

module _ (script : Script) (entries : List Entry) (opened : IsCovered entries (opening script))
    (restarted : IsCovered entries (reset script)) where
  none_broken : PointsFinding script entries None → NoneBroken script entries
  none_broken kept OpeningCovered = opened
  none_broken kept ResetCovered = restarted
  none_broken kept (OfPoint e p duty) = λ entry at c is. kept_asks script entries c (kept e entry at p c is) duty

-- ---- the first that is broken

-- a point of an earlier entry, or an earlier point of the same entry
abbrev IsEarlierPoint : (e' p' e p : ℕ) → Type 0
IsEarlierPoint e' p' e p = (e' < e) ⊎ ((e' ≡ e) × (p' < p))

-- an obligation of a lower rank, or an earlier step
abbrev IsEarlierRank : (r' s' r s : ℕ) → Type 0
IsEarlierRank r' s' r s = (r' < r) ⊎ ((r' ≡ r) × (s' < s))

-- what comes before an obligation of a point is of an earlier point, or comes before it in the same point
by_point : {X : Type 0} (e' p' r' s' e p r s : ℕ)
    → KeyBefore (2 ∷ e' ∷ p' ∷ r' ∷ s' ∷ []) (2 ∷ e ∷ p ∷ r ∷ s ∷ [])
    → (IsEarlierPoint e' p' e p → X) → (e' ≡ e → p' ≡ p → IsEarlierRank r' s' r s → X) → X
by_point e' p' r' s' e p r s (inl less) at_point at_rank = absurd (omega (arith, less))
by_point e' p' r' s' e p r s (inr h) at_point at_rank = elim h.1 [
  | inl less ↦ at_point (inl less)
  | inr same_entry ↦ elim same_entry.1 [
    | inl less ↦ at_point (inr (same_entry.0, less))
    | inr same_point ↦ at_rank same_entry.0 same_point.0 (elim same_point.1 [
      | inl less ↦ inl less
      | inr same_rank ↦ elim same_rank.1 [
        | inl less ↦ inr (same_rank.0, less)
        | inr none ↦ absurd none.1
      ]
    ])
  ]
]

-- only the obligations on steps have steps
lower_rank : (r' r s : ℕ) → r' < 4 → (r < 4 → s ≡ 0) → IsEarlierRank r' 0 r s → r' < r
lower_rank r' r s small alone (inl less) = less
lower_rank r' r s small alone (inr h) =
    let none : s ≡ 0 = alone (omega (arith, h.0, small)) in absurd (omega (arith, none, h.1))

earlier_step : (t r s : ℕ) → r ≤ 4 → IsEarlierRank 4 t r s → t < s
earlier_step t r s small (inl less) = absurd (omega (arith, less, small))
earlier_step t r s small (inr h) = h.1

module _ (script : Script) (entries : List Entry) (opened : IsCovered entries (opening script))
    (restarted : IsCovered entries (reset script)) (place : ℕ) (entry : Entry) (at_place : slice_get entries place ≡ Some entry)
    (earlier_entries : EntriesAreKeptBelow script entries place) (number : ℕ) (c : Configuration)
    (is_point : IsPointOf entry number c) (earlier_points : AreKeptBelow script entries entry number) where
  same_entry : (e : ℕ) (other : Entry) → e ≡ place → slice_get entries e ≡ Some other → other ≡ entry
  same_entry e other same at = same_Some other entry (sym at ∙ ap (slice_get entries) same ∙ at_place)

  earlier_is_kept : (e p : ℕ) → IsEarlierPoint e p place number → AtPoint entries e p (IsKept script entries)
  earlier_is_kept e p (inl less) other at d is = earlier_entries e less other at p d is
  earlier_is_kept e p (inr h) other at d is =
      earlier_points p h.1 d (subst (λ (x : Entry). IsPointOf x p d) (same_entry e other h.0 at) is)

  here : (P : Configuration → Type 0) (e p : ℕ) → P c → e ≡ place → p ≡ number → AtPoint entries e p P
  here P e p holds same_place same_number other at d is =
      subst P (sym (is.1 ∙ ap₂ numbered (same_entry e other same_place at) same_number ∙ sym is_point.1)) holds

  -- the duties of a lower rank, or of an earlier step, are met
  lower_duties : (r s : ℕ) → r ≤ 4 → (r < 4 → s ≡ 0)
      → (0 < r → JoinedAreMarked script c) → (1 < r → EndedIsCleared script c) → (2 < r → CreatedAreUnbound script c) → (3 < r → NamesAreLive c)
      → AreCoveredBelow entries (steps_of script c) s
      → (duty : Duty) → IsEarlierRank (rank duty) (step_place duty) r s → Asks script entries duty c
  lower_duties r s small alone marked cleared unbound live covered JoinedMarked h = marked (lower_rank 0 r s (omega arith) alone h)
  lower_duties r s small alone marked cleared unbound live covered EndedCleared h = cleared (lower_rank 1 r s (omega arith) alone h)
  lower_duties r s small alone marked cleared unbound live covered CreatedUnbound h = unbound (lower_rank 2 r s (omega arith) alone h)
  lower_duties r s small alone marked cleared unbound live covered NamesLive h = live (lower_rank 3 r s (omega arith) alone h)
  lower_duties r s small alone marked cleared unbound live covered (StepCovered t) h = covered t (earlier_step t r s small h)

  -- so what comes before the obligation of this rank and step holds
  earlier_hold : (r s : ℕ) → ((duty : Duty) → IsEarlierRank (rank duty) (step_place duty) r s → Asks script entries duty c)
      → (o : Claim) → KeyBefore (key_of o) (2 ∷ place ∷ number ∷ r ∷ s ∷ []) → Holds script entries o
  earlier_hold r s lower OpeningCovered h = opened
  earlier_hold r s lower ResetCovered h = restarted
  earlier_hold r s lower (OfPoint e p duty) h =
      by_point e p (rank duty) (step_place duty) place number r s h
      (λ earlier other at d is. kept_asks script entries d (earlier_is_kept e p earlier other at d is) duty)
      (λ same_place same_number ranked. here (Asks script entries duty) e p (lower duty ranked) same_place same_number)

  point_broken : (broken : Broken) → IsFirstBroken script entries c broken
      → IsFirstFault script entries (fault_at place number broken)
  point_broken JoinedMarked h = record {
    claim = OfPoint place number JoinedMarked;
    broken = λ holds. h (holds entry at_place c is_point);
    before = earlier_hold 0 0 (lower_duties 0 0 (omega arith) (λ l. refl) (λ l. absurd (omega arith)) (λ l. absurd (omega arith)) (λ l. absurd (omega arith)) (λ l. absurd (omega arith)) (λ t l. absurd (omega arith)));
    obligation = refl;
    entry = refl;
    point = refl;
    step = refl;
  }
  point_broken EndedCleared h = record {
    claim = OfPoint place number EndedCleared;
    broken = λ holds. h.1 (holds entry at_place c is_point);
    before = earlier_hold 1 0 (lower_duties 1 0 (omega arith) (λ l. refl) (λ l. h.0) (λ l. absurd (omega arith)) (λ l. absurd (omega arith)) (λ l. absurd (omega arith)) (λ t l. absurd (omega arith)));
    obligation = refl;
    entry = refl;
    point = refl;
    step = refl;
  }
  point_broken CreatedUnbound h = record {
    claim = OfPoint place number CreatedUnbound;
    broken = λ holds. h.2 (holds entry at_place c is_point);
    before = earlier_hold 2 0 (lower_duties 2 0 (omega arith) (λ l. refl) (λ l. h.0) (λ l. h.1) (λ l. absurd (omega arith)) (λ l. absurd (omega arith)) (λ t l. absurd (omega arith)));
    obligation = refl;
    entry = refl;
    point = refl;
    step = refl;
  }
  point_broken NamesLive h = record {
    claim = OfPoint place number NamesLive;
    broken = λ holds. h.3 (holds entry at_place c is_point);
    before = earlier_hold 3 0 (lower_duties 3 0 (omega arith) (λ l. refl) (λ l. h.0) (λ l. h.1) (λ l. h.2) (λ l. absurd (omega arith)) (λ t l. absurd (omega arith)));
    obligation = refl;
    entry = refl;
    point = refl;
    step = refl;
  }
  point_broken (StepsCovered name) h = record {
    claim = OfPoint place number (StepCovered h.4.place);
    broken = λ holds. h.4.uncovered (holds entry at_place c is_point h.4.step h.4.at_place);
    before = earlier_hold 4 h.4.place (lower_duties 4 h.4.place (omega arith) (λ l. absurd (omega arith)) (λ l. h.0) (λ l. h.1) (λ l. h.2) (λ l. h.3) h.4.before);
    obligation = refl;
    entry = refl;
    point = refl;
    step = (entry, at_place, (c, is_point, (h.4.step, h.4.at_place, ap (λ n. Some n) h.4.named)));
  }

-- ---- the answer

entry_broken : (script : Script) (entries : List Entry) → IsCovered entries (opening script) → IsCovered entries (reset script)
    → (fault : Fault) → IsFirstEntry script entries fault → IsFirstFault script entries fault
entry_broken script entries opened restarted fault found =
    subst (IsFirstFault script entries) (sym found.named)
    (point_broken script entries opened restarted found.place found.entry found.at_place found.before found.number
    found.first.configuration found.first.is_point found.first.before found.broken found.first.first)

pub points_answer : (script : Script) (entries : List Entry) (found : Option Fault) → IsCovered entries (opening script)
    → IsCovered entries (reset script) → PointsFinding script entries found → IsAnswer script entries found
points_answer script entries None opened restarted kept = none_broken script entries opened restarted kept
points_answer script entries (Some fault) opened restarted found = entry_broken script entries opened restarted fault found
