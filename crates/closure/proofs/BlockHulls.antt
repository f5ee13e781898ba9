-- What some components make of a configuration is in the hull of the one in which each has its first value, and it with each value of each.
use Rattle.std.proofs.Common.{◌≡◌, ◌∙◌, inl, inr, ℕ, zero, suc, ◌*◌, ◌/◌, ◌%◌, ◌<◌, ◌==◌, ◌&&◌, Bool, true, false, if◌then◌else◌, List, [], ◌∷◌, length, map, refl, sym, ap, subst, arith, Contains}
use Rattle.std.specs.List.{slice_index_or}
use Rattle.std.proofs.lemmas.Bool.{eq-eqb}
use Rattle.std.proofs.Math.Nat.{div-lt_iff_lt-mul, mod-lt}
use Rattle.mg_names.specs.declared.context_values.ContextValue.{ContextValue}
use Rattle.mg_names.specs.declared.modes.Mode.{Mode}
use Rattle.mg_model.specs.declared.commands.EventsName.{EventsName}
use Rattle.mg_model.specs.declared.commands.Termination.{Termination}
use Rattle.mg_model.specs.declared.commands.Termination.TheVariants.{Line, Ephemeral}
use Rattle.mg_model.specs.declared.components.Spot.{Spot}
use Rattle.mg_model.specs.declared.components.Remote.{Remote}
use Rattle.mg_model.specs.Configuration.{Configuration, is_same}
use Rattle.mg_model.specs.Entries.{Choice, Component, chosen, choices_of, same_choice, size_of, links, spots, modes, events, plays, contexts, remotes, cuts, link_choice, spot_choice, mode_choice, events_choice, plays_choice, context_choice, remote_choice, cut_choice}
use Rattle.closure.specs.Hulls.{AreInHull, HasOne, HaveEach, IsGiven, IsInHull, first_of}
use Rattle.closure.proofs.GivenValues.{both_true, given_here, same_number, same_termination, value_at}

module _ (all : List Component) where
  -- one is as it is itself
  given_itself : (c : Configuration) → IsGiven all c c
  given_itself c = record {
    state = refl;
    link = inl refl;
    spot = λ t. inl refl;
    mode = λ t. inl refl;
    events = λ i. inl refl;
    plays = λ i. inl refl;
    context = λ j. inl refl;
    remote = λ k. inl refl;
    cut = λ t u. inl refl;
  }

  -- ---- a component is given a value in the one, and its first in the other

  abbrev FromTermination : {A : Type 0} → (Termination → List A → Component) → Termination → A → Type 0
  FromTermination {A} make t v = (values : List A) × (Contains all (make t values) × Contains values v)

  abbrev FromNumber : {A : Type 0} → (ℕ → List A → Component) → ℕ → A → Type 0
  FromNumber {A} make i v = (values : List A) × (Contains all (make i values) × Contains values v)

  at_termination : {A : Type 0} (make : Termination → List A → Component) (t u : Termination) (values : List A) (v : A)
      → Contains all (make t values) → Contains values v → is_same u t ≡ true → FromTermination make u v
  at_termination make t u values v has among here =
      subst (λ (x : Termination). FromTermination make x v) (sym (same_termination u t here)) (values, (has, among))

  at_number : {A : Type 0} (make : ℕ → List A → Component) (i n : ℕ) (values : List A) (v : A)
      → Contains all (make i values) → Contains values v → (n == i) ≡ true → FromNumber make n v
  at_number make i n values v has among here = subst (λ (x : ℕ). FromNumber make x v) (sym (same_number n i here)) (values, (has, among))

  at_pair : (t u x y : Termination) (values : List Bool) (v : Bool) → Contains all (cuts t u values) → Contains values v
      → (is_same x t && is_same y u) ≡ true → (found : List Bool) × (Contains all (cuts x y found) × Contains found v)
  at_pair t u x y values v has among here =
      let both = both_true (is_same x t) (is_same y u) here in
      subst (λ (s : Termination). (found : List Bool) × (Contains all (cuts s y found) × Contains found v)) (sym (same_termination x t both.0))
      (subst (λ (s : Termination). (found : List Bool) × (Contains all (cuts t s found) × Contains found v)) (sym (same_termination y u both.1)) (values, (has, among)))

  module _ (low c : Configuration) (given : IsGiven all low c) where
    abbrev Given : Choice → Choice → Type 0
    Given first one = IsGiven all (first low) (one c)

    -- of some values one is given to the one configuration, and the first, if there is any, to the other
    both_valued : {A : Type 0} (make : A → Choice) (values : List A) (place : ℕ) → place < length (map make values)
        → ((v w : A) → Contains values v → Given (make w) (make v))
        → Given (slice_index_or (map make values) 0 same_choice) (slice_index_or (map make values) place same_choice)
    both_valued make [] place within each = absurd (omega (arith, within))
    both_valued make (w ∷ values) place within each =
        value_at (λ (g : Choice). Given (make w) g) make (w ∷ values) place within (λ v among. each v w among)

    pub given_both : (component : Component) (place : ℕ) → Contains all component → place < length (choices_of component)
        → IsGiven all ((slice_index_or (choices_of component) 0 same_choice) low) ((slice_index_or (choices_of component) place same_choice) c)
    given_both (links values) place has within = both_valued link_choice values place within
        (λ v w among. record {
          state = given.state;
          link = inr (values, (has, among));
          spot = given.spot;
          mode = given.mode;
          events = given.events;
          plays = given.plays;
          context = given.context;
          remote = given.remote;
          cut = given.cut;
        })
    given_both (spots t values) place has within = both_valued (spot_choice t) values place within
        (λ v w among. record {
          state = given.state;
          link = given.link;
          spot = λ u. given_here (λ (x : Spot). FromTermination spots u x) (is_same u t) v w (c.spot u) (low.spot u)
              (at_termination spots t u values v has among) (given.spot u);
          mode = given.mode;
          events = given.events;
          plays = given.plays;
          context = given.context;
          remote = given.remote;
          cut = given.cut;
        })
    given_both (modes t values) place has within = both_valued (mode_choice t) values place within
        (λ v w among. record {
          state = given.state;
          link = given.link;
          spot = given.spot;
          mode = λ u. given_here (λ (x : Mode). FromTermination modes u x) (is_same u t) v w (c.mode u) (low.mode u)
              (at_termination modes t u values v has among) (given.mode u);
          events = given.events;
          plays = given.plays;
          context = given.context;
          remote = given.remote;
          cut = given.cut;
        })
    given_both (events i values) place has within = both_valued (events_choice i) values place within
        (λ v w among. record {
          state = given.state;
          link = given.link;
          spot = given.spot;
          mode = given.mode;
          events = λ n. given_here (λ (x : EventsName). FromNumber events n x) (n == i) v w (c.events n) (low.events n)
              (at_number events i n values v has among) (given.events n);
          plays = given.plays;
          context = given.context;
          remote = given.remote;
          cut = given.cut;
        })
    given_both (plays i values) place has within = both_valued (plays_choice i) values place within
        (λ v w among. record {
          state = given.state;
          link = given.link;
          spot = given.spot;
          mode = given.mode;
          events = given.events;
          plays = λ n. given_here (λ (x : Bool). FromNumber plays n x) (n == i) v w (c.plays n) (low.plays n)
              (at_number plays i n values v has among) (given.plays n);
          context = given.context;
          remote = given.remote;
          cut = given.cut;
        })
    given_both (contexts j values) place has within = both_valued (context_choice j) values place within
        (λ v w among. record {
          state = given.state;
          link = given.link;
          spot = given.spot;
          mode = given.mode;
          events = given.events;
          plays = given.plays;
          context = λ n. given_here (λ (x : ContextValue). FromNumber contexts n x) (n == j) v w (c.context n) (low.context n)
              (at_number contexts j n values v has among) (given.context n);
          remote = given.remote;
          cut = given.cut;
        })
    given_both (remotes k values) place has within = both_valued (remote_choice k) values place within
        (λ v w among. record {
          state = given.state;
          link = given.link;
          spot = given.spot;
          mode = given.mode;
          events = given.events;
          plays = given.plays;
          context = given.context;
          remote = λ n. given_here (λ (x : Remote). FromNumber remotes n x) (n == k) v w (c.remote n) (low.remote n)
              (at_number remotes k n values v has among) (given.remote n);
          cut = given.cut;
        })
    given_both (cuts t u values) place has within = both_valued (cut_choice t u) values place within
        (λ v w among. record {
          state = given.state;
          link = given.link;
          spot = given.spot;
          mode = given.mode;
          events = given.events;
          plays = given.plays;
          context = given.context;
          remote = given.remote;
          cut = λ x y. given_here (λ (b : Bool). (found : List Bool) × (Contains all (cuts x y found) × Contains found b))
              (is_same x t && is_same y u) v w (c.cut x y) (low.cut x y) (at_pair t u x y values v has among) (given.cut x y);
        })

-- ---- all components, one after another

some_size : (k count size : ℕ) → k < count * size → 0 < size
some_size k count zero small = absurd (omega (arith, small))
some_size k count (suc size) small = omega arith

pub given_chosen : (all rest : List Component) → ((component : Component) → Contains rest component → Contains all component)
    → (low c : Configuration) → IsGiven all low c → (k : ℕ) → k < size_of rest → IsGiven all (first_of rest low) (chosen (map choices_of rest) k c)
given_chosen all [] among low c given k small = given
given_chosen all (component ∷ rest) among low c given k small =
    let some = some_size k (length (choices_of component)) (size_of rest) small in
    given_chosen all rest (λ other has. among other (suc has.0, omega (arith, has.1), has.2))
    ((slice_index_or (choices_of component) 0 same_choice) low) ((slice_index_or (choices_of component) (k / size_of rest) same_choice) c)
    (given_both all low c given component (k / size_of rest) (among component (0, omega arith, refl))
    ((div-lt_iff_lt-mul some).1 small))
    (k % size_of rest) (mod-lt k some)

-- ---- each component is as in one of these

module _ (some : List Configuration) (low : Configuration) (all : List Component) (have : HaveEach some low all) (c : Configuration)
    (given : IsGiven all low c) where
  -- one of these has a value that a component gives
  one_given : {A : Type 0} (of : Configuration → A) (make : A → Choice) (component : Component) (values : List A) (v : A)
      → Contains all component → choices_of component ≡ map make values → Contains values v → ((d : Configuration) → of (make v d) ≡ v) → HasOne some of v
  one_given of make component values v has whole among makes =
      let found = value_place make values v among in (
        (slice_index_or (choices_of component) found.0 same_choice) low,
        (
          have.each component has found.0 (subst (λ (choices : List Choice). found.0 < length choices) (sym whole) found.1.0),
          ap (λ (g : Choice). of (g low)) (ap (λ (choices : List Choice). slice_index_or choices found.0 same_choice) whole ∙ found.1.1) ∙ makes low,
        ),
      )
    where
      value_place : {A : Type 0} (make : A → Choice) (values : List A) (v : A) → Contains values v
          → (place : ℕ) × ((place < length (map make values)) × (slice_index_or (map make values) place same_choice ≡ make v))
      value_place make [] v has = absurd (omega (arith, has.1))
      value_place make (w ∷ values) v (zero, lt, is) = (0, (omega arith, ap make is))
      value_place make (w ∷ values) v (suc k, lt, is) =
          let more = value_place make values v (k, omega (arith, lt), is) in
          (suc more.0, (omega (arith, more.1.0), more.1.1))

  as_low : {A : Type 0} (of : Configuration → A) (v : A) → v ≡ of low → HasOne some of v
  as_low of v same = (low, (have.first, sym same))

  itself : (t : Termination) → is_same t t ≡ true
  itself (Line i) = eq-eqb i i refl
  itself (Ephemeral k) = eq-eqb k k refl

  -- a value that is set is there
  set_there : {A : Type 0} (test : Bool) (v w : A) → test ≡ true → (if test then v else w) ≡ v
  set_there true v w e = refl
  set_there false v w e = absurd (cc (e))

  both_there : (t u : Termination) → (is_same t t && is_same u u) ≡ true
  both_there t u = rw (itself t, itself u) refl

  pub hull_given : IsInHull some c
  hull_given = record {
    state = as_low (λ d. d.state) c.state given.state;
    link = elim given.link [
      | inl same ↦ as_low (λ d. d.link) c.link same
      | inr from ↦ one_given (λ d. d.link) link_choice (links from.0) from.0 c.link from.1.0 refl from.1.1 (λ d. refl)
    ];
    spot = λ t. elim (given.spot t) [
      | inl same ↦ as_low (λ d. d.spot t) (c.spot t) same
      | inr from ↦ one_given (λ d. d.spot t) (spot_choice t) (spots t from.0) from.0 (c.spot t) from.1.0 refl from.1.1
          (λ d. set_there (is_same t t) (c.spot t) (d.spot t) (itself t))
    ];
    mode = λ t. elim (given.mode t) [
      | inl same ↦ as_low (λ d. d.mode t) (c.mode t) same
      | inr from ↦ one_given (λ d. d.mode t) (mode_choice t) (modes t from.0) from.0 (c.mode t) from.1.0 refl from.1.1
          (λ d. set_there (is_same t t) (c.mode t) (d.mode t) (itself t))
    ];
    events = λ i. elim (given.events i) [
      | inl same ↦ as_low (λ d. d.events i) (c.events i) same
      | inr from ↦ one_given (λ d. d.events i) (events_choice i) (events i from.0) from.0 (c.events i) from.1.0 refl from.1.1
          (λ d. set_there (i == i) (c.events i) (d.events i) (eq-eqb i i refl))
    ];
    plays = λ i. elim (given.plays i) [
      | inl same ↦ as_low (λ d. d.plays i) (c.plays i) same
      | inr from ↦ one_given (λ d. d.plays i) (plays_choice i) (plays i from.0) from.0 (c.plays i) from.1.0 refl from.1.1
          (λ d. set_there (i == i) (c.plays i) (d.plays i) (eq-eqb i i refl))
    ];
    context = λ j. elim (given.context j) [
      | inl same ↦ as_low (λ d. d.context j) (c.context j) same
      | inr from ↦ one_given (λ d. d.context j) (context_choice j) (contexts j from.0) from.0 (c.context j) from.1.0 refl from.1.1
          (λ d. set_there (j == j) (c.context j) (d.context j) (eq-eqb j j refl))
    ];
    remote = λ k. elim (given.remote k) [
      | inl same ↦ as_low (λ d. d.remote k) (c.remote k) same
      | inr from ↦ one_given (λ d. d.remote k) (remote_choice k) (remotes k from.0) from.0 (c.remote k) from.1.0 refl from.1.1
          (λ d. set_there (k == k) (c.remote k) (d.remote k) (eq-eqb k k refl))
    ];
    cut = λ t u. elim (given.cut t u) [
      | inl same ↦ as_low (λ d. d.cut t u) (c.cut t u) same
      | inr from ↦ one_given (λ d. d.cut t u) (cut_choice t u) (cuts t u from.0) from.0 (c.cut t u) from.1.0 refl from.1.1
          (λ d. set_there (is_same t t && is_same u u) (c.cut t u) (d.cut t u) (both_there t u))
    ];
  }

pub all_in_hull : (some : List Configuration) (all : List Component) (c : Configuration) → HaveEach some (first_of all c) all → AreInHull some all c
all_in_hull some all c have k small =
    hull_given some (first_of all c) all have (chosen (map choices_of all) k c)
    (given_chosen all all (λ component has. has) c c (given_itself all c) k small)
