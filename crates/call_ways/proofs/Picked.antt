-- What was picked so far, and of what is left.
use Rattle.std.proofs.Common.{◌≡◌, ◌↔◌, ◌++◌, ◌∷◌, [], Bool, true, false, IsTrue, List, if◌then◌else◌, inl, inr, sym, subst, refl, append_assoc, append-nil, rules}
use Rattle.mg_model.specs.Script.{Script}
use Rattle.mg_model.specs.Entries.{Entry}
use Rattle.call_ways.specs.Warnings.{ArePicked, IsWarning}
use Rattle.call_ways.specs.declared.warning.Warning.{Warning}

module _ (script : Script) (entries : List Entry) where
  -- what is left makes, with what was found, what all make
  abbrev pub ArePickedWith : List Warning → List Warning → List Warning → Type 0
  ArePickedWith all left found = (rest : List Warning) → ArePicked script entries left rest → ArePicked script entries all (found ++ rest)

  pub picked_more : (all found : List Warning) (warning : Warning) (more : List Warning) (holds : Bool)
      → (IsTrue holds ↔ IsWarning script entries warning) → ArePickedWith all (warning ∷ more) found
      → ArePickedWith all more (found ++ (if holds then warning ∷ [] else []))
  picked_more all found warning more true told so_far rest picked =
      subst (λ (xs : List Warning). ArePicked script entries all xs) (sym (append_assoc found (warning ∷ []) rest))
      (so_far (warning ∷ rest) (inl (told.0 refl, (rest, (picked, refl)))))
  picked_more all found warning more false told so_far rest picked =
      subst (λ (xs : List Warning). ArePicked script entries all (xs ++ rest)) (sym (append-nil found))
      (so_far rest (inr ((λ is. absurd (let bad : false ≡ true = told.1 is in search rules)), picked)))
