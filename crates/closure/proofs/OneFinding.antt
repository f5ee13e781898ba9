-- A certificate has one finding: one first fault where an obligation is broken, and one number of points where none is.
use Rattle.std.proofs.Common.{◌≡◌, ◌∙◌, ◌⊎◌, inl, inr, ℕ, zero, suc, ◌+◌, List, [], ◌∷◌, length, Option, Some, None, refl, sym, subst, ap, ap₂, arith}
use Rattle.std.proofs.lemmas.Bool.{cases_lt}
use Rattle.std.specs.List.{slice_get}
use Rattle.std.proofs.lemmas.Option.{same_Some}
use Rattle.mg_names.specs.declared.obligations.Obligation.{Obligation}
use Rattle.mg_model.specs.declared.faults.Fault.{Fault}
use Rattle.mg_model.specs.declared.steps.StepName.{StepName}
use Rattle.mg_model.specs.Script.{Script}
use Rattle.mg_model.specs.Configuration.{Configuration}
use Rattle.mg_model.specs.Steps.{Step, steps_of}
use Rattle.mg_model.specs.Entries.{Entry, HasPointsBelow, HavePoints, numbered, size_of}
use Rattle.mg_model.specs.Obligations.{Claim, OpeningCovered, ResetCovered, OfPoint, JoinedMarked, EndedCleared, CreatedUnbound, NamesLive, StepCovered, IsFirstFault, ComesBefore, KeyBefore, NamesStep, entry_named, key_of, obligation_of, point_named}
use Rattle.closure.specs.declared.first_fault.Finding.{Finding}
use Rattle.closure.specs.declared.first_fault.Finding.TheVariants as finding
use Rattle.closure.specs.Answer.{IsAnswer, IsFinding}

-- ---- the order of claims is total

key_order : (xs ys : List ℕ) → length xs ≡ length ys → KeyBefore xs ys ⊎ ((xs ≡ ys) ⊎ KeyBefore ys xs)
key_order [] [] same = inr (inl refl)
key_order [] (y ∷ ys) same = absurd (omega (arith, same))
key_order (x ∷ xs) [] same = absurd (omega (arith, same))
key_order (x ∷ xs) (y ∷ ys) same = elim (cases_lt x y) [
  | inl less ↦ inl (inl less)
  | inr not_less ↦ elim (cases_lt y x) [
    | inl less ↦ inr (inr (inl less))
    | inr not_more ↦
        let equal : x ≡ y = omega (arith, not_less, not_more) in elim (key_order xs ys (omega (arith, same))) [
          | inl before ↦ inl (inr (equal, before))
          | inr rest ↦ elim rest [
            | inl equals ↦ inr (inl (ap₂ (λ (z : ℕ) (zs : List ℕ). z ∷ zs) equal equals))
            | inr after ↦ inr (inr (inr (sym equal, after)))
          ]
        ]
  ]
]

claim_order : (one other : Claim) → ComesBefore one other ⊎ ((key_of one ≡ key_of other) ⊎ ComesBefore other one)
claim_order OpeningCovered OpeningCovered = inr (inl refl)
claim_order OpeningCovered ResetCovered = inl (inl (omega arith))
claim_order OpeningCovered (OfPoint e p duty) = inl (inl (omega arith))
claim_order ResetCovered OpeningCovered = inr (inr (inl (omega arith)))
claim_order ResetCovered ResetCovered = inr (inl refl)
claim_order ResetCovered (OfPoint e p duty) = inl (inl (omega arith))
claim_order (OfPoint e p duty) OpeningCovered = inr (inr (inl (omega arith)))
claim_order (OfPoint e p duty) ResetCovered = inr (inr (inl (omega arith)))
claim_order (OfPoint e p duty) (OfPoint f q other) = key_order (key_of (OfPoint e p duty)) (key_of (OfPoint f q other)) refl

-- the claim of a key
claim_with : List ℕ → Claim
claim_with (zero ∷ more) = OpeningCovered
claim_with (suc zero ∷ more) = ResetCovered
claim_with (part ∷ e ∷ p ∷ zero ∷ more) = OfPoint e p JoinedMarked
claim_with (part ∷ e ∷ p ∷ suc zero ∷ more) = OfPoint e p EndedCleared
claim_with (part ∷ e ∷ p ∷ suc (suc zero) ∷ more) = OfPoint e p CreatedUnbound
claim_with (part ∷ e ∷ p ∷ suc (suc (suc zero)) ∷ more) = OfPoint e p NamesLive
claim_with (part ∷ e ∷ p ∷ rank ∷ s ∷ more) = OfPoint e p (StepCovered s)
claim_with _ = OpeningCovered

claim_back : (claim : Claim) → claim_with (key_of claim) ≡ claim
unfolding claim_with
claim_back OpeningCovered = refl
claim_back ResetCovered = refl
claim_back (OfPoint e p JoinedMarked) = refl
claim_back (OfPoint e p EndedCleared) = refl
claim_back (OfPoint e p CreatedUnbound) = refl
claim_back (OfPoint e p NamesLive) = refl
claim_back (OfPoint e p (StepCovered s)) = refl

-- ---- the first fault is one

abbrev fault_with : Obligation → Option ℕ → Option ℕ → Option StepName → Fault
fault_with obligation entry point step = record { obligation = obligation; entry = entry; point = point; step = step }

same_parts : (fault other : Fault) → fault.obligation ≡ other.obligation → fault.entry ≡ other.entry → fault.point ≡ other.point
    → fault.step ≡ other.step → fault ≡ other
same_parts fault other obligation entry point step =
    ap (λ (o : Obligation). fault_with o fault.entry fault.point fault.step) obligation
    ∙ ap (λ (e : Option ℕ). fault_with other.obligation e fault.point fault.step) entry
    ∙ ap (λ (p : Option ℕ). fault_with other.obligation other.entry p fault.step) point
    ∙ ap (λ (s : Option StepName). fault_with other.obligation other.entry other.point s) step

module _ (script : Script) (entries : List Entry) where
  one_claim : (fault other : Fault) (is : IsFirstFault script entries fault) (other_is : IsFirstFault script entries other)
      → is.claim ≡ other_is.claim
  one_claim fault other is other_is = elim (claim_order is.claim other_is.claim) [
    | inl before ↦ absurd (is.broken (other_is.before is.claim before))
    | inr rest ↦ elim rest [
      | inl same ↦ sym (claim_back is.claim) ∙ ap claim_with same ∙ claim_back other_is.claim
      | inr after ↦ absurd (other_is.broken (is.before other_is.claim after))
    ]
  ]

  one_step : (claim : Claim) (name other : Option StepName) → NamesStep script entries claim name → NamesStep script entries claim other → name ≡ other
  one_step OpeningCovered name other h k = h ∙ sym k
  one_step ResetCovered name other h k = h ∙ sym k
  one_step (OfPoint e p JoinedMarked) name other h k = h ∙ sym k
  one_step (OfPoint e p EndedCleared) name other h k = h ∙ sym k
  one_step (OfPoint e p CreatedUnbound) name other h k = h ∙ sym k
  one_step (OfPoint e p NamesLive) name other h k = h ∙ sym k
  one_step (OfPoint e p (StepCovered s)) name other one another =
      let same_entry : one.0 ≡ another.0 = same_Some one.0 another.0 (sym one.1 ∙ another.1) in
      let same_point : one.2.0 ≡ another.2.0 = one.2.1.1 ∙ ap (λ (entry : Entry). numbered entry p) same_entry ∙ sym another.2.1.1 in
      let same_step : one.2.2.0 ≡ another.2.2.0 = same_Some one.2.2.0 another.2.2.0
      (sym one.2.2.1 ∙ ap (λ (c : Configuration). slice_get (steps_of script c) s) same_point ∙ another.2.2.1) in
      one.2.2.2 ∙ ap (λ (step : Step). Some step.0) same_step ∙ sym another.2.2.2

  one_fault : (fault other : Fault) → IsFirstFault script entries fault → IsFirstFault script entries other → fault ≡ other
  one_fault fault other is other_is =
      let same : is.claim ≡ other_is.claim = one_claim fault other is other_is in
      same_parts fault other
      (is.obligation ∙ ap obligation_of same ∙ sym other_is.obligation)
      (is.entry ∙ ap entry_named same ∙ sym other_is.entry)
      (is.point ∙ ap point_named same ∙ sym other_is.point)
      (one_step other_is.claim fault.step other.step (subst (λ (claim : Claim). NamesStep script entries claim fault.step) same is.step) other_is.step)

-- ---- the number of points is one

one_count_below : (entry : Entry) (n points other : ℕ) → HasPointsBelow entry n points → HasPointsBelow entry n other → points ≡ other
one_count_below entry zero points other h k = h ∙ sym k
one_count_below entry (suc n) points other (inl one) (inl another) =
    one.1.1.1 ∙ ap (λ m. m + 1) (one_count_below entry n one.1.0 another.1.0 one.1.1.0 another.1.1.0) ∙ sym another.1.1.1
one_count_below entry (suc n) points other (inl formed) (inr not_formed) = absurd (not_formed.0 formed.0)
one_count_below entry (suc n) points other (inr not_formed) (inl formed) = absurd (not_formed.0 formed.0)
one_count_below entry (suc n) points other (inr one) (inr another) = one_count_below entry n points other one.1 another.1

one_count : (entries : List Entry) (points other : ℕ) → HavePoints entries points → HavePoints entries other → points ≡ other
one_count [] points other h k = h ∙ sym k
one_count (entry ∷ more) points other one another =
    one.1.1.1.1
    ∙ ap₂ (λ (m n : ℕ). m + n) (one_count_below entry (size_of entry.components) one.0 another.0 one.1.1.0 another.1.1.0)
    (one_count more one.1.0 another.1.0 one.1.1.1.0 another.1.1.1.0)
    ∙ sym another.1.1.1.1

-- ---- the finding is one

pub one_finding : (script : Script) (entries : List Entry) (found other : Finding) → IsFinding script entries found
    → IsFinding script entries other → found ≡ other
one_finding script entries (finding.Kept points) (finding.Kept more) h k = ap finding.Kept (one_count entries points more h.1 k.1)
one_finding script entries (finding.Kept points) (finding.Broken fault) h k = absurd (k.broken (h.0 k.claim))
one_finding script entries (finding.Broken fault) (finding.Kept points) h k = absurd (h.broken (k.0 h.claim))
one_finding script entries (finding.Broken fault) (finding.Broken other) h k = ap finding.Broken (one_fault script entries fault other h k)

pub one_answer : (script : Script) (entries : List Entry) (fault other : Option Fault) → IsAnswer script entries fault
    → IsAnswer script entries other → fault ≡ other
one_answer script entries None None h k = refl
one_answer script entries None (Some other) h k = absurd (k.broken (h k.claim))
one_answer script entries (Some fault) None h k = absurd (h.broken (k h.claim))
one_answer script entries (Some fault) (Some other) h k = ap (λ f. Some f) (one_fault script entries fault other h k)
