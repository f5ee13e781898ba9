-- What was picked so far, and of what is left.
use Rattle.std.proofs.Common.{◌≡◌, ◌↔◌, ◌++◌, ◌∷◌, [], Bool, true, false, IsTrue, List, if◌then◌else◌, inl, inr, sym, subst, refl, append_assoc, append-nil, rules}
use Rattle.mg_model.specs.Configuration.{Configuration}
use Rattle.mg_model.specs.Script.{Script}
use Rattle.explanation.specs.Breaches.{ArePicked, IsBreach}
use Rattle.explanation.specs.declared.breach.Breach.{Breach}

module _ (script : Script) (c : Configuration) where
  -- what is left makes, with what was found, what all make
  abbrev pub ArePickedWith : List Breach → List Breach → List Breach → Type 0
  ArePickedWith all left found = (rest : List Breach) → ArePicked script c left rest → ArePicked script c all (found ++ rest)

  pub picked_more : (all found : List Breach) (breach : Breach) (more : List Breach) (holds : Bool)
      → (IsTrue holds ↔ IsBreach script c breach) → ArePickedWith all (breach ∷ more) found
      → ArePickedWith all more (found ++ (if holds then breach ∷ [] else []))
  picked_more all found breach more true told so_far rest picked =
      subst (λ (xs : List Breach). ArePicked script c all xs) (sym (append_assoc found (breach ∷ []) rest))
      (so_far (breach ∷ rest) (inl (told.0 refl, (rest, (picked, refl)))))
  picked_more all found breach more false told so_far rest picked =
      subst (λ (xs : List Breach). ArePicked script c all (xs ++ rest)) (sym (append-nil found))
      (so_far rest (inr ((λ is. absurd (let bad : false ≡ true = told.1 is in search rules)), picked)))
