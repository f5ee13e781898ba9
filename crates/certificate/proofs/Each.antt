-- A list that is read element by element: what was read so far, followed by the rest, is the whole.
use Rattle.std.proofs.Common.{◌≡◌, ◌∙◌, ◌+◌, ◌<◌, ◌≤◌, ◌++◌, ℕ, suc, List, [], ◌∷◌, length, drop, Option, Some, None, refl, sym, ap, add-one, append_assoc, append-nil, drop-cons}
use Rattle.std.specs.List.{slice_index_or}
use Rattle.std.proofs.lemmas.List.{drop_all}
use Rattle.typed_values.specs.Shape.{each, ◌>>=◌}

-- what is left begins with the element at the place
at : {X : Type 0} (xs : List X) (i : ℕ) (x : X) → i < length xs → x ≡ slice_index_or xs i x → drop i xs ≡ x ∷ drop (i + 1) xs
at xs i x lt is = drop-cons xs i x lt ∙ ap (λ y. y ∷ drop (suc i) xs) (sym is) ∙ ap (λ k. x ∷ drop k xs) (sym (add-one i))

module _ {X Y : Type 0} (f : X → Option Y) where
  -- `done` was read of the elements before the place i
  abbrev pub IsReadTo : List X → ℕ → List Y → Type 0
  IsReadTo xs i done = each f xs ≡ (each f (drop i xs) >>= λ ys. Some (done ++ ys))

  unchanged : (o : Option (List Y)) → o ≡ (o >>= λ ys. Some ([] ++ ys))
  unchanged None = refl
  unchanged (Some ys) = refl

  pub read_start : (xs : List X) → IsReadTo xs 0 []
  read_start xs = unchanged (each f xs)

  moved : (o : Option (List Y)) (done : List Y) (y : Y)
      → ((o >>= λ ys. Some (y ∷ ys)) >>= λ ys. Some (done ++ ys)) ≡ (o >>= λ ys. Some ((done ++ y ∷ []) ++ ys))
  moved None done y = refl
  moved (Some ys) done y = ap (λ zs. Some zs) (sym (append_assoc done (y ∷ []) ys))

  pub read_next : (xs : List X) (i : ℕ) (x : X) (y : Y) (done : List Y) → i < length xs → x ≡ slice_index_or xs i x
      → f x ≡ Some y → IsReadTo xs i done → IsReadTo xs (i + 1) (done ++ y ∷ [])
  read_next xs i x y done lt is gives read =
      let rest = drop (i + 1) xs in
      let head : each f (x ∷ rest) ≡ (each f rest >>= λ ys. Some (y ∷ ys)) = ap (λ o. o >>= λ z. each f rest >>= λ ys. Some (z ∷ ys)) gives in
      read ∙ ap (λ o. o >>= λ ys. Some (done ++ ys)) (ap (each f) (at xs i x lt is) ∙ head) ∙ moved (each f rest) done y

  pub read_none : (xs : List X) (i : ℕ) (x : X) (done : List Y) → i < length xs → x ≡ slice_index_or xs i x
      → f x ≡ None → IsReadTo xs i done → each f xs ≡ None
  read_none xs i x done lt is none read =
      let rest = drop (i + 1) xs in
      let head : each f (x ∷ rest) ≡ None = ap (λ o. o >>= λ z. each f rest >>= λ ys. Some (z ∷ ys)) none in
      read ∙ ap (λ o. o >>= λ ys. Some (done ++ ys)) (ap (each f) (at xs i x lt is) ∙ head)

  pub read_end : (xs : List X) (i : ℕ) (done : List Y) → length xs ≤ i → IsReadTo xs i done → each f xs ≡ Some done
  read_end xs i done past read =
      read ∙ ap (λ rest. each f rest >>= λ ys. Some (done ++ ys)) (drop_all i xs past) ∙ ap (λ zs. Some zs) (append-nil done)
