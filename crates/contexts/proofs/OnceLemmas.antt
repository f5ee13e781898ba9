-- Lists in which no termination stands twice.
use Rattle.std.proofs.Common.{◌≡◌, ◌∙◌, Bool, false, not, List, [], ◌∷◌, ◌++◌, Option, Some, None, filter}
use Rattle.std.proofs.lemmas.Bool.{or_parts}
use Rattle.std.specs.List.{list_any, AllByRecursion, IsDistinct}
use Rattle.mg_names.specs.declared.identifiers.TermId.{TermId}
use Rattle.mg_model.specs.Board.{same_term}
use Rattle.mg_model.proofs.Terminations.{same_term_turned}
use Rattle.contexts.specs.Groups.{listed, kept, with_member, without_member}
use Rattle.contexts.proofs.TermLemmas.{by_value}

-- none of a list is another one, and so none of it with that one at its end
all_with : (x t : TermId) (xs : List TermId) → same_term x t ≡ false → AllByRecursion (λ y. same_term x y ≡ false) xs →
    AllByRecursion (λ y. same_term x y ≡ false) (xs ++ t ∷ [])
all_with x t [] apart all = (apart, tt)
all_with x t (y ∷ ys) apart all = (all.0, all_with x t ys apart all.1)

distinct_with : (t : TermId) (xs : List TermId) → list_any (same_term t) xs ≡ false → IsDistinct same_term xs → IsDistinct same_term (xs ++ t ∷ [])
unfolding IsDistinct
distinct_with t [] absent once = (tt, tt)
distinct_with t (x ∷ xs) absent once =
    let parts = or_parts (same_term t x) (list_any (same_term t) xs) absent in
    (all_with x t xs (same_term_turned x t ∙ parts.0) once.0, distinct_with t xs parts.1 once.1)

all_filter : (x : TermId) (p : TermId → Bool) (xs : List TermId) → AllByRecursion (λ y. same_term x y ≡ false) xs →
    AllByRecursion (λ y. same_term x y ≡ false) (filter p xs)
all_filter x p [] all = tt
all_filter x p (y ∷ ys) all = by_value (p y) (λ e. rw e (all.0, all_filter x p ys all.1)) (λ e. rw e (all_filter x p ys all.1))

distinct_filter : (p : TermId → Bool) (xs : List TermId) → IsDistinct same_term xs → IsDistinct same_term (filter p xs)
unfolding IsDistinct
distinct_filter p [] once = tt
distinct_filter p (x ∷ xs) once =
    by_value (p x) (λ e. rw e (all_filter x p xs once.0, distinct_filter p xs once.1)) (λ e. rw e (distinct_filter p xs once.1))

pub once_none : IsDistinct same_term []
unfolding IsDistinct
once_none = tt

pub once_with : (t : TermId) (g : Option (List TermId)) → list_any (same_term t) (listed g) ≡ false → IsDistinct same_term (listed g) →
    IsDistinct same_term (listed (with_member t g))
once_with t g absent once = distinct_with t (listed g) absent once

pub once_without : (t : TermId) (g : Option (List TermId)) → IsDistinct same_term (listed g) → IsDistinct same_term (listed (without_member t g))
once_without t None once = once
once_without t (Some xs) once = go (filter (λ u. not (same_term u t)) xs) (distinct_filter (λ u. not (same_term u t)) xs once)
  where
    go : (ys : List TermId) → IsDistinct same_term ys → IsDistinct same_term (listed (kept ys))
    go [] once = once
    go (y ∷ ys) once = once
