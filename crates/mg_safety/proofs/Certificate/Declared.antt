-- What is declared and what is not: each name of a script is the one or the other.
use Rattle.mg_safety.proofs.Words.{◌≡◌, ◌∙◌, ◌<◌, ◌≤◌, ℕ, Bool, true, false, length, refl, sym, arith, inl, inr, nat_lt, true≢false, ◌⊎◌, if◌then◌else◌}
use Rattle.mg_safety.proofs.Words.{cases_lt, common_steps, Termination, Absent, Null, is_same, Script, IsSlot, by_test, Spot, ltb-true}
use Rattle.mg_model.specs.declared.commands.Termination.TheVariants.{Line, Ephemeral}

below_or_not : (i n : ℕ) → (i < n) ⊎ (i < n → ⊥)
below_or_not i n = elim (cases_lt i n) [
  | inl below ↦ inl below
  | inr past ↦ inr (λ below. omega (arith, past, below))
]

pub slot_or_not : (script : Script) (t : Termination) → IsSlot script t ⊎ (IsSlot script t → ⊥)
slot_or_not script (Line i) = below_or_not i (length script.lines)
slot_or_not script (Ephemeral k) = below_or_not k (length script.ephemerals)

-- two different declared terminations
abbrev pub AreSlots : Script → Termination → Termination → Type 0
AreSlots script t u = IsSlot script t × IsSlot script u × (is_same t u ≡ false)

pub slots_or_not : (script : Script) (t u : Termination) → AreSlots script t u ⊎ (AreSlots script t u → ⊥)
slots_or_not script t u = both (slot_or_not script t) (slot_or_not script u) (is_same t u) refl
  where
    both : IsSlot script t ⊎ (IsSlot script t → ⊥) → IsSlot script u ⊎ (IsSlot script u → ⊥) → (same : Bool) → is_same t u ≡ same
        → AreSlots script t u ⊎ (AreSlots script t u → ⊥)
    both (inr not_first) second same e = inr (λ slots. not_first slots.0)
    both (inl first) (inr not_second) same e = inr (λ slots. not_second slots.1)
    both (inl first) (inl second) true e = inr (λ slots. absurd (true≢false (sym e ∙ slots.2)))
    both (inl first) (inl second) false e = inl (first, second, e)

pub past_is_not_below : (i n : ℕ) → n ≤ i → nat_lt i n ≡ false
past_is_not_below i n past = grind (arith, common_steps)

-- where no line is declared, no termination stands
pub unused_past : (lines i : ℕ) → (i < lines → ⊥) → (if nat_lt i lines then Null else Absent) ≡ Absent
unused_past lines i past = by_test (λ (spot : Spot). spot ≡ Absent) Null Absent (nat_lt i lines)
    (λ below. absurd (past (ltb-true i lines below))) (λ e. refl)
