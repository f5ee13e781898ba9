-- What is so of no number below one.
use Rattle.std.proofs.Common.{◌≡◌, ◌↔◌, ℕ, ◌+◌, ◌<◌, Bool, true, false, not, inl, inr, refl, subst, arith, rules, IsTrue, Option, Some, None, IfSome, IfNone, is_some}
use Rattle.std.proofs.lemmas.Bool.{cases_lt}

-- none below it is so
abbrev pub NoneBelow : (ℕ → Type 0) → ℕ → Type 0
NoneBelow P n = (k : ℕ) → k < n → P k → ⊥

pub none_more : (P : ℕ → Type 0) (n : ℕ) → NoneBelow P n → (P n → ⊥) → NoneBelow P (n + 1)
none_more P n before here k below is =
    elim (cases_lt k n) [
      | inl earlier ↦ before k earlier is
      | inr past ↦ (
          let same : k ≡ n = omega (arith, below, past) in
          here (subst P same is))
    ]

-- where whatever is so is below a number, and none below it is so, none is
pub none_at_all : (P : ℕ → Type 0) (n : ℕ) → NoneBelow P n → ((k : ℕ) → P k → k < n) → (k : ℕ) → P k → ⊥
none_at_all P n none within k is = none k (within k is) is

pub none_found : (P : ℕ → Type 0) (n : ℕ) → NoneBelow P n → ((k : ℕ) → P k → k < n) → IsTrue false ↔ ((k : ℕ) × P k)
none_found P n none within = ((λ bad. absurd (search rules)), (λ is. absurd (none_at_all P n none within is.0 is.1)))

-- where something was found it is so, and where nothing was it isn't
pub found_some : {X : Type 0} (found : Option X) (P : X → Type 0) (Q : Type 0) → IfSome found P → IfNone found (Q → ⊥) → ((x : X) → P x → Q)
    → IsTrue (is_some found) ↔ Q
found_some (Some x) P Q some none more = ((λ _. more x some), (λ _. refl))
found_some None P Q some none more = ((λ bad. absurd (search rules)), (λ is. absurd (none is)))

pub none_then : {X : Type 0} (found : Option X) (P Q : Type 0) → (P → Q) → IfNone found P → IfNone found Q
none_then None P Q more none = more none
none_then (Some x) P Q more none = search rules

-- what says that something is so, turned, says that it isn't
pub not_says : (b : Bool) (P : Type 0) → IsTrue b ↔ P → IsTrue (not b) ↔ (P → ⊥)
not_says true P says = ((λ bad. absurd (search rules)), (λ no. absurd (no (says.0 refl))))
not_says false P says = ((λ _ is. absurd (let bad : false ≡ true = says.1 is in search rules)), (λ _. refl))
