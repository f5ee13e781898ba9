-- Lists by context, copied item by item.
use Rattle.std.proofs.Common.{◌≡◌, ℕ, refl, ap, rules, List, Option, Some, None, Vec}
use Rattle.std.specs.Prelude.{nat_eq}
use Rattle.std.specs.List.{AllZip}
use Rattle.std.specs.Option.{MatchOption, IsSomeAnd}
use Rattle.std.specs.Map.{lookup}
use Rattle.std.proofs.lemmas.Map.Entries.{lookup_clone}
use Rattle.contexts.specs.Groups.{group_at, items_in}

module _ {X Z : Type 0} where
  pub by_found : (D : Vec X Z → Vec X Z → Type 0) → ((v w : Vec X Z) → D v w → w.items ≡ v.items) → (a b : Option (Vec X Z)) →
      MatchOption a (b ≡ None) (λ v. IsSomeAnd b (D v)) → items_in b ≡ items_in a
  by_found D same None b h = rw h refl
  by_found D same (Some v) None h = absurd (search rules)
  by_found D same (Some v) (Some w) h = ap Some (same v w h)

  pub groups_copied : (C : ℕ → ℕ → Type 0) (D : Vec X Z → Vec X Z → Type 0) → ((x y : ℕ) → C x y → y ≡ x) → ((v w : Vec X Z) → D v w → w.items ≡ v.items) →
      (es fs : List (ℕ × Vec X Z)) → AllZip (λ p q. C p.0 q.0 × D p.1 q.1) es fs → (c : ℕ) → group_at fs c ≡ group_at es c
  groups_copied C D keys same es fs zipped c =
      by_found D same (lookup (nat_eq c) es) (lookup (nat_eq c) fs) (lookup_clone C D (nat_eq c) (λ x y e. ap (nat_eq c) (keys x y e)) es fs zipped)
