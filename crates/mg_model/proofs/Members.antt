-- A number is among others exactly where a set of them finds it.
use Rattle.std.proofs.Common.{◌≡◌, ◌∙◌, ℕ, List, [], ◌∷◌, refl, ap, arith}
use Rattle.std.specs.Prelude.{◌==◌, ◌||◌}
use Rattle.std.specs.List.{list_any}
use Rattle.std.specs.Ordering.{nat_cmp}
use Rattle.std.specs.BTreeMap.{is_at}
use Rattle.std.proofs.lemmas.Bool.Decides.{nat_tests}
use Rattle.mg_model.specs.Members.{is_among}

pub equal_by_order : (n m : ℕ) → (n == m) ≡ is_at (nat_cmp n) m
equal_by_order n m = grind (arith, nat_tests)

pub among_by_order : (numbers : List ℕ) (n : ℕ) → is_among numbers n ≡ list_any (is_at (nat_cmp n)) numbers
among_by_order [] n = refl
among_by_order (m ∷ ms) n =
    ap (λ b. b || list_any (λ x. n == x) ms) (equal_by_order n m) ∙ ap (λ b. is_at (nat_cmp n) m || b) (among_by_order ms n)
