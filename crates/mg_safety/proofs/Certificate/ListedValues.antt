-- Where all components of a list are given a configuration's values, each thing that one of them lists has the configuration's value.
use Rattle.mg_safety.proofs.Words.{◌≡◌, ◌∙◌, ◌<◌, ℕ, zero, suc, Bool, false, List, [], ◌∷◌, length, refl, sym, ap, arith, slice_index_or, inl, inr, ◌==◌, ◌&&◌}
use Rattle.mg_safety.proofs.Words.{if◌then◌else◌, IsTrue, Contains, ◌⊎◌, eqb-true, and_parts, Termination, with_at, Configuration, is_same, with_of, with_pair}
use Rattle.mg_safety.proofs.Words.{Component, links, spots, modes, events, plays, contexts, remotes, cuts, is_links, is_spots, is_modes, is_events, is_plays}
use Rattle.mg_safety.proofs.Words.{is_contexts, is_remotes, is_cuts, is_same_is, cases_Bool, by_test, where_true}
use Rattle.mg_safety.proofs.Certificate.ChoiceNumbers.{choice_to, choices_to}

-- ---- changes that write a function's values into another

module _ {A : Type 0} where
  of_written : (f g : Termination → A) (u t : Termination) → with_of f u (g u) t ≡ (if is_same t u then g t else f t)
  of_written f g u t = elim (cases_Bool (is_same t u)) [
    | inl is ↦ rw is (ap g (sym (is_same_is t u is)))
    | inr other ↦ rw other refl
  ]

  at_written : (f g : ℕ → A) (j i : ℕ) → with_at f j (g j) i ≡ (if i == j then g i else f i)
  at_written f g j i = elim (cases_Bool (i == j)) [
    | inl is ↦ rw is (ap g (sym (eqb-true i j is)))
    | inr other ↦ rw other refl
  ]

pair_written : (f g : Termination → Termination → Bool) (x y t u : Termination)
    → with_pair f x y (g x y) t u ≡ (if is_same t x && is_same u y then g t u else f t u)
pair_written f g x y t u = elim (cases_Bool (is_same t x && is_same u y)) [
  | inl is ↦ (let both = and_parts (is_same t x) (is_same u y) is in
      rw is (ap (λ z. g z y) (sym (is_same_is t x both.0)) ∙ ap (g t) (sym (is_same_is u y both.1))))
  | inr other ↦ rw other refl
]

-- ---- what all the choices give

-- a component of these passes a test
abbrev pub Lists : List Component → (Component → Bool) → Type 0
Lists components test = (component : Component) × Contains components component × IsTrue (test component)

-- a value that the choice of each component with a test gives, and each other leaves
module _ (c : Configuration) {A : Type 0} (read : Configuration → A) (test : Component → Bool)
    (each : (component : Component) (d : Configuration) → read (choice_to c component d) ≡ (if test component then read c else read d)) where
  kept_by_all : (components : List Component) (d : Configuration) → read d ≡ read c → read (choices_to c components d) ≡ read c
  kept_by_all [] d same = same
  kept_by_all (component ∷ more) d same = kept_by_all more (choice_to c component d)
      (each component d ∙ by_test (λ x. x ≡ read c) (read c) (read d) (test component) (λ listed. refl) (λ other. same))

  set_at : (components : List Component) (i : ℕ) (component : Component) → i < length components → slice_index_or components i component ≡ component
      → IsTrue (test component) → (d : Configuration) → read (choices_to c components d) ≡ read c
  set_at [] i component below is passes d = absurd (omega (arith, below))
  set_at (first ∷ more) zero component below is passes d =
      kept_by_all more (choice_to c first d) (each first d ∙ where_true (test first) (read c) (read d) (ap test is ∙ passes))
  set_at (first ∷ more) (suc i) component below is passes d = set_at more i component (omega (arith, below)) is passes (choice_to c first d)

  -- the value is given before, or by a component
  given_by_all : (components : List Component) (d : Configuration) → (read d ≡ read c) ⊎ Lists components test → read (choices_to c components d) ≡ read c
  given_by_all components d (inl before) = kept_by_all components d before
  given_by_all components d (inr listed) = set_at components listed.1.0 listed.0 listed.1.1 listed.1.2 listed.2 d

-- ---- the things of a configuration

-- the components list the thing, or it has the configuration's value already
module _ (c : Configuration) (components : List Component) (d : Configuration) where
  pub state_given : d.state ≡ c.state → (choices_to c components d).state ≡ c.state
  state_given same = kept_by_all c (λ e. e.state) (λ component. false) each components d same
    where
      each : (component : Component) (e : Configuration) → (choice_to c component e).state ≡ e.state
      each (links values) e = refl
      each component e = refl

  pub link_given : (d.link ≡ c.link) ⊎ Lists components is_links → (choices_to c components d).link ≡ c.link
  link_given = given_by_all c (λ e. e.link) is_links each components d
    where
      each : (component : Component) (e : Configuration) → (choice_to c component e).link ≡ (if is_links component then c.link else e.link)
      each (links values) e = refl
      each component e = refl

  pub spot_given : (t : Termination) → (d.spot t ≡ c.spot t) ⊎ Lists components (is_spots t) → (choices_to c components d).spot t ≡ c.spot t
  spot_given t = given_by_all c (λ e. e.spot t) (is_spots t) each components d
    where
      each : (component : Component) (e : Configuration) → (choice_to c component e).spot t ≡ (if is_spots t component then c.spot t else e.spot t)
      each (spots u values) e = of_written e.spot c.spot u t
      each component e = refl

  pub mode_given : (t : Termination) → (d.mode t ≡ c.mode t) ⊎ Lists components (is_modes t) → (choices_to c components d).mode t ≡ c.mode t
  mode_given t = given_by_all c (λ e. e.mode t) (is_modes t) each components d
    where
      each : (component : Component) (e : Configuration) → (choice_to c component e).mode t ≡ (if is_modes t component then c.mode t else e.mode t)
      each (modes u values) e = of_written e.mode c.mode u t
      each component e = refl

  pub events_given : (i : ℕ) → (d.events i ≡ c.events i) ⊎ Lists components (is_events i) → (choices_to c components d).events i ≡ c.events i
  events_given i = given_by_all c (λ e. e.events i) (is_events i) each components d
    where
      each : (component : Component) (e : Configuration) → (choice_to c component e).events i ≡ (if is_events i component then c.events i else e.events i)
      each (events j values) e = at_written e.events c.events j i
      each component e = refl

  pub plays_given : (i : ℕ) → (d.plays i ≡ c.plays i) ⊎ Lists components (is_plays i) → (choices_to c components d).plays i ≡ c.plays i
  plays_given i = given_by_all c (λ e. e.plays i) (is_plays i) each components d
    where
      each : (component : Component) (e : Configuration) → (choice_to c component e).plays i ≡ (if is_plays i component then c.plays i else e.plays i)
      each (plays j values) e = at_written e.plays c.plays j i
      each component e = refl

  pub context_given : (i : ℕ) → (d.context i ≡ c.context i) ⊎ Lists components (is_contexts i) → (choices_to c components d).context i ≡ c.context i
  context_given i = given_by_all c (λ e. e.context i) (is_contexts i) each components d
    where
      each : (component : Component) (e : Configuration) → (choice_to c component e).context i ≡ (if is_contexts i component then c.context i else e.context i)
      each (contexts j values) e = at_written e.context c.context j i
      each component e = refl

  pub remote_given : (i : ℕ) → (d.remote i ≡ c.remote i) ⊎ Lists components (is_remotes i) → (choices_to c components d).remote i ≡ c.remote i
  remote_given i = given_by_all c (λ e. e.remote i) (is_remotes i) each components d
    where
      each : (component : Component) (e : Configuration) → (choice_to c component e).remote i ≡ (if is_remotes i component then c.remote i else e.remote i)
      each (remotes j values) e = at_written e.remote c.remote j i
      each component e = refl

  pub cut_given : (t u : Termination) → (d.cut t u ≡ c.cut t u) ⊎ Lists components (is_cuts t u) → (choices_to c components d).cut t u ≡ c.cut t u
  cut_given t u = given_by_all c (λ e. e.cut t u) (is_cuts t u) each components d
    where
      each : (component : Component) (e : Configuration) → (choice_to c component e).cut t u ≡ (if is_cuts t u component then c.cut t u else e.cut t u)
      each (cuts x y values) e = pair_written e.cut c.cut x y t u
      each component e = refl
