-- How many points components have with a configuration's values added.
use Rattle.std.proofs.Common.{◌≡◌, ◌∙◌, ◌↔◌, ◌+◌, ◌*◌, ◌++◌, ◌<◌, ℕ, Bool, true, false, not, if◌then◌else◌, IsTrue, List, [], ◌∷◌, length, map, drop, inl, inr, refl, sym, ap, subst, append_assoc, arith, rules, Result, Ok, Err, IfOk}
use Rattle.std.specs.List.{All, Contains, slice_index_or}
use Rattle.std.proofs.Math.Nat.{mul-pos, mul_assoc}
use Rattle.std.proofs.lemmas.List.{map-append}
use Rattle.std.proofs.lemmas.List.Elements.{All-head, All-tail}
use Rattle.mg_model.specs.Configuration.{Configuration}
use Rattle.mg_model.specs.Entries.{Component, links, spots, modes, events, plays, contexts, remotes, cuts}
use Rattle.mg_model.specs.Entries.{Allows, size_of, link_choice, spot_choice, mode_choice, events_choice, plays_choice, context_choice, remote_choice, cut_choice}
use Rattle.entry_table.specs.declared.component.Component as declared
use Rattle.entry_table.specs.Shown.{shown, shown_all}
use Rattle.closure.proofs.FindingLemmas.{refuted}
use Rattle.closure.proofs.VisitLemmas.{next_of}
use Rattle.explanation.specs.Alone.{AreWidened, IsWidened, bare, bare_all, count_of}
use Rattle.explanation.proofs.Bared.{bare_more}

-- what is left begins with the element at the place
pub next_is : {X : Type 0} (xs : List X) (i : ℕ) (x : X) → i < length xs → x ≡ slice_index_or xs i x → drop i xs ≡ x ∷ drop (i + 1) xs
next_is xs i x lt is = next_of xs i x lt ∙ ap (λ y. y ∷ drop (i + 1) xs) (sym is)

pub size_more : (xs : List Component) (x : Component) → size_of (xs ++ x ∷ []) ≡ size_of xs * count_of x
size_more [] x = omega arith
size_more (y ∷ xs) x = ap (λ (n : ℕ). count_of y * n) (size_more xs x) ∙ sym (mul_assoc (count_of y) (size_of xs) (count_of x))

shown_more : (xs : List declared.Component) (x : declared.Component) → size_of (shown_all (xs ++ x ∷ [])) ≡ size_of (shown_all xs) * count_of (shown x)
shown_more xs x = ap size_of (map-append shown xs (x ∷ [])) ∙ size_more (shown_all xs) (shown x)

pub if_ok : {T E : Type 0} (r : Result T E) (P Q : T → Type 0) → ((x : T) → P x → Q x) → IfOk r P → IfOk r Q
if_ok (Ok x) P Q more is = more x is
if_ok (Err e) P Q more is = search rules

-- ---- a component more

module _ (all : List declared.Component) (i : ℕ) (x : declared.Component) (within : i < length all) (is : x ≡ slice_index_or all i x)
    (wide : List declared.Component) (more : declared.Component) where
  next : drop i all ≡ x ∷ drop (i + 1) all
  next = next_is all i x within is

  pub bare_next : bare (shown more) ≡ bare (shown x) → bare_all wide ++ bare_all (drop i all) ≡ bare_all all
      → bare_all (wide ++ more ∷ []) ++ bare_all (drop (i + 1) all) ≡ bare_all all
  bare_next same so_far =
      ap (λ (ys : List Component). ys ++ bare_all (drop (i + 1) all)) (bare_more wide more)
      ∙ append_assoc (bare_all wide) (bare (shown more) ∷ []) (bare_all (drop (i + 1) all))
      ∙ ap (λ (y : Component). bare_all wide ++ y ∷ bare_all (drop (i + 1) all)) same
      ∙ ap (λ (ys : List declared.Component). bare_all wide ++ bare_all ys) (sym next)
      ∙ so_far

-- what is left makes, with what was made, what all make
abbrev pub AreWidenedWith : Configuration → List declared.Component → ℕ → List declared.Component → Type 0
AreWidenedWith c all i wide =
    (rest : ℕ) → AreWidened c (shown_all (drop i all)) rest → AreWidened c (shown_all all) (size_of (shown_all wide) * rest)

pub widened_next : (c : Configuration) (all : List declared.Component) (i : ℕ) (x : declared.Component) (wide : List declared.Component)
    (more : declared.Component) → i < length all → x ≡ slice_index_or all i x → IsWidened c (shown x) (count_of (shown more))
    → AreWidenedWith c all i wide → AreWidenedWith c all (i + 1) (wide ++ more ∷ [])
widened_next c all i x wide more within is widened so_far rest left =
    let n : ℕ = count_of (shown more) in
    let here : AreWidened c (shown_all (drop i all)) (n * rest) =
    subst (λ (ys : List declared.Component). AreWidened c (shown_all ys) (n * rest)) (sym (next_is all i x within is))
    (n, (rest, (widened, (left, refl)))) in
    let same : size_of (shown_all wide) * (n * rest) ≡ size_of (shown_all (wide ++ more ∷ [])) * rest =
    sym (mul_assoc (size_of (shown_all wide)) n rest) ∙ ap (λ (m : ℕ). m * rest) (sym (shown_more wide more)) in
    subst (λ (m : ℕ). AreWidened c (shown_all all) m) same (so_far (n * rest) here)

pub widened_none : (c : Configuration) (all wide : List declared.Component) → wide ≡ [] → AreWidenedWith c all 0 wide
widened_none c all wide none rest left =
    let one : 1 ≡ size_of (shown_all wide) = ap (λ (ys : List declared.Component). size_of (shown_all ys)) (sym none) in
    let alone : rest ≡ 1 * rest = omega arith in
    let same : rest ≡ size_of (shown_all wide) * rest = alone ∙ ap (λ (n : ℕ). n * rest) one in
    subst (λ (m : ℕ). AreWidened c (shown_all all) m) same left

-- nothing is left
pub widened_end : (c : Configuration) (all : List declared.Component) (i : ℕ) (wide : List declared.Component) → drop i all ≡ []
    → AreWidenedWith c all i wide → AreWidened c (shown_all all) (size_of (shown_all wide))
widened_end c all i wide none so_far =
    let left : AreWidened c (shown_all (drop i all)) 1 =
    subst (λ (ys : List declared.Component). AreWidened c (shown_all ys) 1) (sym none) refl in
    let same : size_of (shown_all wide) * 1 ≡ size_of (shown_all wide) = omega arith in
    subst (λ (m : ℕ). AreWidened c (shown_all all) m) same (so_far 1 left)

module _ (c : Configuration) where
  -- a value is added where the test tells that it lacks
  pub widened_by : (component : Component) (told : Bool) (count : ℕ) → (IsTrue told ↔ Allows c component)
      → count ≡ count_of component + (if not told then 1 else 0) → IsWidened c component count
  widened_by component true count tells is = inl (tells.0 refl, omega (arith, is))
  widened_by component false count tells is = inr ((λ a. refuted false refl (tells.1 a)), is)

  -- ---- components that have a configuration's values make a point

  has_some : {X Y : Type 0} (f : X → Y) (xs : List X) (x : X) → Contains xs x → 0 < length (map f xs)
  has_some f [] x has = absurd (omega (arith, has.1))
  has_some f (y ∷ xs) x has = omega arith

  some_values : (component : Component) → Allows c component → 0 < count_of component
  some_values (links values) has = has_some link_choice values c.link has
  some_values (spots t values) has = has_some (spot_choice t) values (c.spot t) has
  some_values (modes t values) has = has_some (mode_choice t) values (c.mode t) has
  some_values (events i values) has = has_some (events_choice i) values (c.events i) has
  some_values (plays i values) has = has_some (plays_choice i) values (c.plays i) has
  some_values (contexts j values) has = has_some (context_choice j) values (c.context j) has
  some_values (remotes k values) has = has_some (remote_choice k) values (c.remote k) has
  some_values (cuts t u values) has = has_some (cut_choice t u) values (c.cut t u) has

  pub some_points : (components : List Component) → All (Allows c) components → 0 < size_of components
  some_points [] all = omega arith
  some_points (component ∷ more) all =
      mul-pos (some_values component (All-head (Allows c) component more all)) (some_points more (All-tail (Allows c) component more all))

  -- components of which none lacks the configuration's value have as many points with it
  pub as_many : (components : List Component) (size : ℕ) → All (Allows c) components → AreWidened c components size → size ≡ size_of components
  as_many [] size all is = is
  as_many (component ∷ more) size all is =
      let count : ℕ = is.0 in
      let rest : ℕ = is.1.0 in
      let here : count ≡ count_of component = elim is.1.1.0 [
        | inl allowed ↦ allowed.1
        | inr lacks ↦ absurd (lacks.0 (All-head (Allows c) component more all))
      ] in
      let left : rest ≡ size_of more = as_many more rest (All-tail (Allows c) component more all) is.1.1.1.0 in
      is.1.1.1.1 ∙ ap (λ (n : ℕ). n * rest) here ∙ ap (λ (n : ℕ). count_of component * n) left
