-- The search for a path, crossing by crossing.
use Rattle.std.proofs.Common.{◌≡◌, ◌∙◌, ◌+◌, ◌-◌, ◌<◌, ℕ, zero, suc, true, false, ◌&&◌, List, [], ◌∷◌, inl, inr, sym, ap, subst, arith}
use Rattle.std.proofs.lemmas.Bool.{cases_lt, and_parts, and_from}
use Rattle.std.proofs.lemmas.Grind.{common_steps}
use Rattle.mg_model.specs.Configuration.{Configuration, is_to}
use Rattle.mg_model.specs.Paths.{crosses, goes_over, hops}
use Rattle.mg_model.specs.declared.commands.Termination.{Termination}
use Rattle.mg_model.specs.declared.commands.Termination.TheVariants.{Line, Ephemeral}
use Rattle.mg_model.specs.declared.components.Remote.{Remote}
use Rattle.mg_model.specs.declared.components.Remote.TheVariants.{Unset, Gone, To}
use Rattle.configuration.specs.Places.{AbsentPastEight}
use Rattle.configuration.proofs.PathLemmas.{crosses_small}
use Rattle.explanation.specs.Paths.{GoesNowhere, GoesNowhereOver, GoesOver, GoesWithin, HasNoCrossing, IsCrossingOver, IsShortest}
use Rattle.explanation.specs.declared.paths.Crossing.{Crossing}

-- a Remote names one ephemeral
to_once : (remote : Remote) (i j : ℕ) → is_to remote i ≡ true → is_to remote j ≡ true → i ≡ j
to_once Unset i j p q = absurd cc
to_once Gone i j p q = absurd cc
to_once (To k) i j p q = grind (arith, common_steps)

-- media crosses from an ephemeral to one other
crosses_once : (c : Configuration) (k i j : ℕ) → crosses c k i ≡ true → crosses c k j ≡ true → i ≡ j
crosses_once c k i j p q = to_once (c.remote k) i j (named i p) (named j q)
  where
    named : (n : ℕ) → crosses c k n ≡ true → is_to (c.remote k) n ≡ true
    named n h = (and_parts _ (is_to (c.remote k) n) (and_parts _ (is_to (c.remote n) k) h).0).1

module _ (c : Configuration) (from : Termination) (j : ℕ) where
  -- the parts of a path with a crossing
  parts : (k i : ℕ) (more : List (ℕ × ℕ)) → GoesOver c from ((k, i) ∷ more) j
      → ((hops c from (Ephemeral k) && crosses c k i) ≡ true) × GoesOver c (Ephemeral i) more j
  parts k i more goes = and_parts (hops c from (Ephemeral k) && crosses c k i) (goes_over c (Ephemeral i) more (Line j)) goes

  pub none_over : (k most : ℕ) → HasNoCrossing c from k → GoesNowhereOver c from k j most
  none_over k most none i more few goes =
      let bad : true ≡ false = sym (parts k i more goes).0 ∙ none i in absurd cc

  pub nowhere_over : (k most : ℕ) (crossing : Crossing) → IsCrossingOver c from k crossing
      → GoesNowhere c (Ephemeral crossing.to) j most → GoesNowhereOver c from k j most
  nowhere_over k most crossing is none i more few goes =
      let whole = parts k i more goes in
      let first = and_parts (hops c from (Ephemeral k)) (crosses c k i) whole.0 in
      let same : i ≡ crossing.to = crosses_once c k i crossing.to first.1 is.2 in
      none more few (subst (λ (n : ℕ). GoesOver c (Ephemeral n) more j) same whole.1)

  pub goes_by : (k most : ℕ) (crossing : Crossing) (rest whole : List (ℕ × ℕ)) → IsCrossingOver c from k crossing
      → GoesWithin c (Ephemeral crossing.to) rest j most → whole ≡ (crossing.from, crossing.to) ∷ rest → GoesWithin c from whole j (most + 1)
  goes_by k most crossing rest whole is goes same =
      let here : (k, crossing.to) ∷ rest ≡ whole =
      ap (λ (n : ℕ). (n, crossing.to) ∷ rest) (sym is.0) ∙ sym same in
      let path : GoesOver c from ((k, crossing.to) ∷ rest) j =
      and_from (hops c from (Ephemeral k) && crosses c k crossing.to) (goes_over c (Ephemeral crossing.to) rest (Line j))
      (and_from (hops c from (Ephemeral k)) (crosses c k crossing.to) is.1 is.2) goes.0 in
      subst (λ (crossings : List (ℕ × ℕ)). GoesWithin c from crossings j (most + 1)) here (path, omega (arith, goes.1))

  -- one ephemeral more
  pub over_more : (place k most : ℕ) → k ≡ place → ((n : ℕ) → n < place → GoesNowhereOver c from n j most)
      → GoesNowhereOver c from k j most → (n : ℕ) → n < place + 1 → GoesNowhereOver c from n j most
  over_more place k most is before here n below = elim (cases_lt n place) [
    | inl earlier ↦ before n earlier
    | inr past ↦ (
        let same : k ≡ n = omega (arith, is, below, past) in
        subst (λ (m : ℕ). GoesNowhereOver c from m j most) same here)
  ]

  pub nowhere_at_once : hops c from (Line j) ≡ false → GoesNowhere c from j 0
  nowhere_at_once none [] few goes = let bad : true ≡ false = sym goes ∙ none in absurd cc
  nowhere_at_once none (crossing ∷ more) few goes = absurd (omega (arith, few))

  -- over none of the four
  pub nowhere : (most : ℕ) → AbsentPastEight c → hops c from (Line j) ≡ false
      → ((n : ℕ) → n < 4 → GoesNowhereOver c from n j (most - 1)) → GoesNowhere c from j most
  nowhere most absent here none [] few goes = let bad : true ≡ false = sym goes ∙ here in absurd cc
  nowhere most absent here none (crossing ∷ more) few goes =
      let whole = parts crossing.0 crossing.1 more goes in
      let first = and_parts (hops c from (Ephemeral crossing.0)) (crosses c crossing.0 crossing.1) whole.0 in
      none crossing.0 (crosses_small c crossing.0 crossing.1 absent first.1).0 crossing.1 more (omega (arith, few)) goes

  -- a path over so many crossings at most is a shortest one where none goes over fewer
  pub shortest : (crossings : List (ℕ × ℕ)) (most : ℕ) → GoesWithin c from crossings j most
      → ((left : ℕ) → left < most → GoesNowhere c from j left) → IsShortest c from crossings j
  shortest crossings zero is none = (is.0, λ fewer less goes. absurd (omega (arith, less, is.1)))
  shortest crossings (suc most) is none =
      (is.0, λ fewer less goes. none most (omega arith) fewer (omega (arith, less, is.1)) goes)
