-- Where each component of a list allows a configuration, some number below the product makes the choices that give its values.
use Rattle.mg_safety.proofs.Words.{◌≡◌, ◌∙◌, ◌+◌, ◌*◌, ◌<◌, ◌≤◌, ℕ, zero, suc, List, [], ◌∷◌, length, map, refl, ap, arith, slice_index_or, Contains, All}
use Rattle.mg_safety.proofs.Words.{mul-le-mul_right, All-head, All-tail, Configuration, Component, links, spots, modes, events, plays, contexts, remotes, cuts}
use Rattle.mg_safety.proofs.Words.{Choice, link_choice, spot_choice, mode_choice, events_choice, plays_choice, context_choice, remote_choice, cut_choice}
use Rattle.mg_safety.proofs.Words.{product, same_choice, chosen, choices_of, Allows}
use Rattle.std.proofs.lemmas.Nat.{div-mul-add, mod-mul-add}

-- ---- one component

-- the choice of a component that gives a configuration's value
abbrev pub choice_to : Configuration → Component → Choice
choice_to c (links values) = link_choice c.link
choice_to c (spots t values) = spot_choice t (c.spot t)
choice_to c (modes t values) = mode_choice t (c.mode t)
choice_to c (events i values) = events_choice i (c.events i)
choice_to c (plays i values) = plays_choice i (c.plays i)
choice_to c (contexts j values) = context_choice j (c.context j)
choice_to c (remotes k values) = remote_choice k (c.remote k)
choice_to c (cuts t u values) = cut_choice t u (c.cut t u)

-- one of these choices, with its place
abbrev pub HasChoice : List Choice → Choice → Type 0
HasChoice choices choice = (i : ℕ) × (i < length choices) × (slice_index_or choices i same_choice ≡ choice)

mapped_at : {A : Type 0} (f : A → Choice) (values : List A) (v : A) (i : ℕ) → i < length values → slice_index_or values i v ≡ v
    → (i < length (map f values)) × (slice_index_or (map f values) i same_choice ≡ f v)
mapped_at f [] v i below is = absurd (omega (arith, below))
mapped_at f (x ∷ values) v zero below is = (omega arith, ap f is)
mapped_at f (x ∷ values) v (suc i) below is =
    let later = mapped_at f values v i (omega (arith, below)) is in (omega (arith, later.0), later.1)

mapped : {A : Type 0} (f : A → Choice) (values : List A) (v : A) → Contains values v → HasChoice (map f values) (f v)
mapped f values v among = let there = mapped_at f values v among.0 among.1 among.2 in (among.0, there.0, there.1)

has_choice : (c : Configuration) (component : Component) → Allows c component → HasChoice (choices_of component) (choice_to c component)
has_choice c (links values) allowed = mapped link_choice values c.link allowed
has_choice c (spots t values) allowed = mapped (spot_choice t) values (c.spot t) allowed
has_choice c (modes t values) allowed = mapped (mode_choice t) values (c.mode t) allowed
has_choice c (events i values) allowed = mapped (events_choice i) values (c.events i) allowed
has_choice c (plays i values) allowed = mapped (plays_choice i) values (c.plays i) allowed
has_choice c (contexts j values) allowed = mapped (context_choice j) values (c.context j) allowed
has_choice c (remotes k values) allowed = mapped (remote_choice k) values (c.remote k) allowed
has_choice c (cuts t u values) allowed = mapped (cut_choice t u) values (c.cut t u) allowed

-- ---- all components

-- the choices of these components that give a configuration's values, made in order
abbrev pub choices_to : Configuration → List Component → Choice
choices_to c [] d = d
choices_to c (component ∷ more) d = choices_to c more (choice_to c component d)

number_below : (i n r p : ℕ) → i < n → r < p → i * p + r < n * p
number_below i n r p first rest = let rows : suc i * p ≤ n * p = mul-le-mul_right p first in omega (arith, rows)

first_chosen : (choices : List Choice) (more : List (List Choice)) (i r : ℕ) (d : Configuration) → r < product more
    → chosen (choices ∷ more) (i * product more + r) d ≡ chosen more r ((slice_index_or choices i same_choice) d)
first_chosen choices more i r d below = rw (div-mul-add i (product more) r below, mod-mul-add i (product more) r below) refl

-- some number below the product makes these choices
abbrev pub HasNumber : Configuration → List Component → Type 0
HasNumber c components =
    (number : ℕ) × (number < product (map choices_of components))
    × ((d : Configuration) → chosen (map choices_of components) number d ≡ choices_to c components d)

pub has_number : (c : Configuration) (components : List Component) → All (Allows c) components → HasNumber c components
has_number c [] allowed = (0, omega arith, λ d. refl)
has_number c (component ∷ more) allowed =
    let here = has_choice c component (All-head (Allows c) component more allowed) in
    let rest = has_number c more (All-tail (Allows c) component more allowed) in
    let size = product (map choices_of more) in (
      here.0 * size + rest.0,
      number_below here.0 (length (choices_of component)) rest.0 size here.1 rest.1,
      λ d. first_chosen (choices_of component) (map choices_of more) here.0 rest.0 d rest.1
          ∙ ap (λ (choice : Choice). chosen (map choices_of more) rest.0 (choice d)) here.2
          ∙ rest.2 (choice_to c component d),
    )
