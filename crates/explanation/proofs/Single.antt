-- Components that have one value each are all allowed, and make one point.
use Rattle.std.proofs.Common.{◌≡◌, ◌∙◌, ◌*◌, ◌++◌, ◌<◌, ℕ, List, [], ◌∷◌, length, map, sym, ap, subst, refl, rules}
use Rattle.std.specs.List.{All, Contains, slice_index_or}
use Rattle.std.proofs.lemmas.List.{map-append}
use Rattle.std.proofs.lemmas.List.Elements.{All-head, All-push, All-tail, All-weaker}
use Rattle.mg_model.specs.Configuration.{Configuration}
use Rattle.mg_model.specs.Entries.{Component, Allows, size_of}
use Rattle.entry_table.specs.declared.component.Component as declared
use Rattle.entry_table.specs.Shown.{shown, shown_all}
use Rattle.entry_table.proofs.Products.{all_seen}
use Rattle.explanation.specs.Alone.{AreOnly, IsOnly}

pub all_allowed : (c : Configuration) (components : List Component) → AreOnly c components → All (Allows c) components
all_allowed c components are = All-weaker (IsOnly c) (Allows c) (λ component is. is.0) components are

pub one_point : (c : Configuration) (components : List Component) → AreOnly c components → size_of components ≡ 1
one_point c [] are = refl
one_point c (component ∷ more) are =
    ap (λ (n : ℕ). n * size_of more) (All-head (IsOnly c) component more are).1
    ∙ ap (λ (n : ℕ). 1 * n) (one_point c more (All-tail (IsOnly c) component more are))

-- the one value of a list is among its values
pub has_one : {X : Type 0} (xs : List X) (x y : X) → xs ≡ x ∷ [] → x ≡ y → Contains xs y
has_one xs x y one same = (0, rw one (search rules), rw one same)

pub counts_one : {X Y : Type 0} (f : X → Y) (xs : List X) (x : X) → xs ≡ x ∷ [] → length (map f xs) ≡ 1
counts_one f xs x one = ap (λ ys. length (map f ys)) one

-- what holds of all holds of one more, if it holds of it
pub all_shown : (P : Component → Type 0) (xs : List declared.Component) (x : declared.Component) → All P (shown_all xs) → P (shown x)
    → All P (shown_all (xs ++ x ∷ []))
all_shown P xs x all is = subst (All P) (sym (map-append shown xs (x ∷ []))) (All-push P (shown_all xs) (shown x) all is)

pub only_more : (c : Configuration) (xs : List declared.Component) (x : declared.Component) → AreOnly c (shown_all xs) → IsOnly c (shown x)
    → AreOnly c (shown_all (xs ++ x ∷ []))
only_more c xs x all is = all_shown (IsOnly c) xs x all is

-- what holds of all holds of each
pub shown_each : (P : Component → Type 0) (xs : List declared.Component) (i : ℕ) (x : declared.Component) → i < length xs
    → x ≡ slice_index_or xs i x → All P (shown_all xs) → P (shown x)
shown_each P xs i x lt is all = subst (λ (y : declared.Component). P (shown y)) (sym is) (all_seen shown P xs all i x lt)
