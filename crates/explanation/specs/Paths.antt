-- The path that media takes from a termination to a line, as the crossings that the definition of paths goes over.
use Rattle.std.specs.Prelude.{◌≡◌, ℕ, ◌<◌, ◌≤◌, ◌&&◌, true, false, List, ◌∷◌, map, length}
use Rattle.mg_model.specs.Configuration.{Configuration}
use Rattle.mg_model.specs.Paths.{crosses, goes_over, hops}
use Rattle.mg_model.specs.declared.commands.Termination.{Termination}
use Rattle.mg_model.specs.declared.commands.Termination.TheVariants.{Line, Ephemeral}
use Rattle.explanation.specs.declared.paths.Crossing.{Crossing}

-- crossings as the definition has them
abbrev pub shown : List Crossing → List (ℕ × ℕ)
shown = map (λ (crossing : Crossing). (crossing.from, crossing.to))

-- media goes from a termination to line j over these crossings
abbrev pub GoesOver : Configuration → Termination → List (ℕ × ℕ) → ℕ → Type 0
GoesOver c from crossings j = goes_over c from crossings (Line j) ≡ true

-- it goes there over no crossings that are so many at most
abbrev pub GoesNowhere : Configuration → Termination → ℕ → ℕ → Type 0
GoesNowhere c from j most = (crossings : List (ℕ × ℕ)) → length crossings ≤ most → GoesOver c from crossings j → ⊥

-- it goes there over these, and over no fewer
abbrev pub IsShortest : Configuration → Termination → List (ℕ × ℕ) → ℕ → Type 0
IsShortest c from crossings j =
    GoesOver c from crossings j × ((fewer : List (ℕ × ℕ)) → length fewer < length crossings → GoesOver c from fewer j → ⊥)

-- ---- no public clause speaks of the words below

-- it goes there over these, so many at most
abbrev pub GoesWithin : Configuration → Termination → List (ℕ × ℕ) → ℕ → ℕ → Type 0
GoesWithin c from crossings j most = GoesOver c from crossings j × (length crossings ≤ most)

-- it goes there over no crossings of which the first is at this ephemeral, and so many at most are behind it
abbrev pub GoesNowhereOver : Configuration → Termination → ℕ → ℕ → ℕ → Type 0
GoesNowhereOver c from k j most =
    (i : ℕ) (more : List (ℕ × ℕ)) → length more ≤ most → GoesOver c from ((k, i) ∷ more) j → ⊥

-- media goes from a termination to an ephemeral of its context, and crosses to another there
abbrev pub IsCrossingOver : Configuration → Termination → ℕ → Crossing → Type 0
IsCrossingOver c from k crossing =
    (crossing.from ≡ k) × (hops c from (Ephemeral k) ≡ true) × (crosses c k crossing.to ≡ true)

abbrev pub HasNoCrossing : Configuration → Termination → ℕ → Type 0
HasNoCrossing c from k = (i : ℕ) → (hops c from (Ephemeral k) && crosses c k i) ≡ false
