-- What components lack is one number.
use Rattle.std.proofs.Common.{◌≡◌, ◌+◌, ◌≤◌, ℕ, zero, suc, List, [], ◌∷◌, length, drop, inl, inr, sym, ◌∙◌, ap, refl, arith}
use Rattle.mg_model.specs.Configuration.{Configuration}
use Rattle.mg_model.specs.Entries.{Component}
use Rattle.explanation.specs.Nearest.{Lack}

pub lack_once : (c : Configuration) (components : List Component) (one other : ℕ) → Lack c components one → Lack c components other → one ≡ other
lack_once c [] one other p q = p ∙ sym q
lack_once c (component ∷ more) one other (inl p) (inl q) = lack_once c more one other p.1 q.1
lack_once c (component ∷ more) one other (inl p) (inr q) = absurd (q.0 p.0)
lack_once c (component ∷ more) one other (inr p) (inl q) = absurd (p.0 q.0)
lack_once c (component ∷ more) one other (inr p) (inr q) =
    p.1.1.1 ∙ ap (λ (n : ℕ). n + 1) (lack_once c more p.1.0 q.1.0 p.1.1.0 q.1.1.0) ∙ sym q.1.1.1

-- nothing is left past the end
pub drop_past : {A : Type 0} (xs : List A) (i : ℕ) → length xs ≤ i → drop i xs ≡ []
drop_past [] zero le = refl
drop_past [] (suc i) le = refl
drop_past (x ∷ xs) zero le = absurd (omega (arith, le))
drop_past (x ∷ xs) (suc i) le = drop_past xs i (omega (arith, le))
