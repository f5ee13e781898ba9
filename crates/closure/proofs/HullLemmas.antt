-- What is known of each of some configurations is known of all in their hull: what an entry allows, which names are bound, and what comes of each
-- component by itself.
use Rattle.std.proofs.Common.{◌≡◌, ◌∙◌, ℕ, zero, suc, ◌==◌, Bool, true, false, if◌then◌else◌, List, [], ◌∷◌, map, ◌++◌, ◌+◌, refl, sym, ap, subst, arith, Contains, not}
use Rattle.std.specs.Borrow.{Bor}
use Rattle.std.specs.Fn.{FnReturnsAt, Shared}
use Rattle.std.specs.List.{All, AllZip}
use Rattle.std.proofs.Math.Path.{fun_ext}
use Rattle.std.proofs.lemmas.List.{map-append}
use Rattle.std.proofs.lemmas.Bool.{eqb-true}
use Rattle.std.proofs.lemmas.List.Elements.{All-nil, All-cons, All-contains, All-head, All-tail, Contains-append_left, Contains-append_right}
use Rattle.mg_names.specs.declared.context_values.ContextValue.{ContextValue}
use Rattle.mg_model.specs.declared.commands.Termination.{Termination}
use Rattle.mg_model.specs.declared.commands.Termination.TheVariants.{Ephemeral}
use Rattle.mg_model.specs.Configuration.{Configuration, IsWellFormed, is_free, is_present, is_same, with_of}
use Rattle.mg_model.specs.Entries.{Component, Entry, Allows, Includes, links, spots, modes, events, plays, contexts, remotes, cuts}
use Rattle.mg_model.specs.Request.{Names}
use Rattle.mg_model.specs.Steps.{bound_names}
use Rattle.mg_model.specs.Updates.{with_at}
use Rattle.mg_model.proofs.Built.{same_names}
use Rattle.mg_model.proofs.Terminations.{is_same_is}
use Rattle.configuration.specs.Config.{configuration_of}
use Rattle.configuration.specs.Packed.{Words}
use Rattle.closure.specs.Hulls.{HasOne, IsInHull, AreAlike}

pub contains_map : {X Y : Type 0} (f : X → Y) (xs : List X) (x : X) → Contains xs x → Contains (map f xs) (f x)
contains_map f [] x has = absurd (omega (arith, has.1))
contains_map f (y ∷ xs) x (zero, lt, is) = (zero, omega arith, ap f is)
contains_map f (y ∷ xs) x (suc k, lt, is) =
    let more = contains_map f xs x (k, omega (arith, lt), is) in
    (suc more.0, omega (arith, more.1), more.2)

-- what holds of each of some words holds of each of their configurations
pub each_of_words : (words : List Words) (P : Configuration → Type 0) → ((c : Words) → Contains words c → P (configuration_of c))
    → (d : Configuration) → Contains (map configuration_of words) d → P d
each_of_words [] P each d has = absurd (omega (arith, has.1))
each_of_words (w ∷ words) P each d (zero, lt, is) = subst P is (each w (zero, omega arith, refl))
each_of_words (w ∷ words) P each d (suc k, lt, is) =
    each_of_words words P (λ c has. each c (suc has.0, omega (arith, has.1), has.2)) d (k, omega (arith, lt), is)

-- ---- what is allowed

module _ (some : List Configuration) where
  value_allowed : {A : Type 0} (of : Configuration → A) (values : List A) (v : A) → HasOne some of v
      → ((d : Configuration) → Contains some d → Contains values (of d)) → Contains values v
  value_allowed of values v one each = subst (λ w. Contains values w) one.1.1 (each one.0 one.1.0)

  one_allowed : (c : Configuration) → IsInHull some c → (component : Component)
      → ((d : Configuration) → Contains some d → Allows d component) → Allows c component
  one_allowed c inside (links values) each = value_allowed (λ d. d.link) values c.link inside.link each
  one_allowed c inside (spots t values) each = value_allowed (λ d. d.spot t) values (c.spot t) (inside.spot t) each
  one_allowed c inside (modes t values) each = value_allowed (λ d. d.mode t) values (c.mode t) (inside.mode t) each
  one_allowed c inside (events i values) each = value_allowed (λ d. d.events i) values (c.events i) (inside.events i) each
  one_allowed c inside (plays i values) each = value_allowed (λ d. d.plays i) values (c.plays i) (inside.plays i) each
  one_allowed c inside (contexts j values) each = value_allowed (λ d. d.context j) values (c.context j) (inside.context j) each
  one_allowed c inside (remotes k values) each = value_allowed (λ d. d.remote k) values (c.remote k) (inside.remote k) each
  one_allowed c inside (cuts t u values) each = value_allowed (λ d. d.cut t u) values (c.cut t u) (inside.cut t u) each

  pub hull_allowed : (c : Configuration) → IsInHull some c → (components : List Component)
      → ((d : Configuration) → Contains some d → All (Allows d) components) → All (Allows c) components
  hull_allowed c inside [] each = All-nil (Allows c)
  hull_allowed c inside (component ∷ more) each = All-cons (Allows c) component more
      (one_allowed c inside component (λ d has. All-head (Allows d) component more (each d has)))
      (hull_allowed c inside more (λ d has. All-tail (Allows d) component more (each d has)))

  -- ---- what is alike

  module _ (one c : Configuration) (alike : AreAlike some one) (inside : IsInHull some c) where
    pub hull_state : c.state ≡ one.state
    hull_state = sym inside.state.1.1 ∙ alike.state inside.state.0 inside.state.1.0

    pub hull_link : c.link ≡ one.link
    hull_link = sym inside.link.1.1 ∙ alike.link inside.link.0 inside.link.1.0

    context_bound : (j : ℕ) → not (is_free (c.context j)) ≡ not (is_free (one.context j))
    context_bound j = ap (λ (v : ContextValue). not (is_free v)) (sym (inside.context j).1.1)
        ∙ ap (λ (names : Names). names.contexts j) (alike.names (inside.context j).0 (inside.context j).1.0)

    ephemeral_bound : (k : ℕ) → is_present (c.spot (Ephemeral k)) ≡ is_present (one.spot (Ephemeral k))
    ephemeral_bound k = ap is_present (sym (inside.spot (Ephemeral k)).1.1)
        ∙ ap (λ (names : Names). names.ephemerals k) (alike.names (inside.spot (Ephemeral k)).0 (inside.spot (Ephemeral k)).1.0)

    pub hull_names : bound_names c ≡ bound_names one
    hull_names = same_names (bound_names c) (bound_names one) (fun_ext context_bound) (fun_ext ephemeral_bound)

  -- ---- what comes of each component by itself

  -- of a value of one of these it makes a value
  pub one_made : {A B : Type 0} (f : Configuration → Configuration) (of : Configuration → A) (v : A) (from : Configuration → B) (w : B)
      → HasOne some of v → ((d : Configuration) → of d ≡ v → from (f d) ≡ w) → HasOne (map f some) from w
  one_made f of v from w one makes = (f one.0, (contains_map f some one.0 one.1.0, makes one.0 one.1.1))

  -- the same value
  pub one_kept : {A : Type 0} (f : Configuration → Configuration) (of : Configuration → A) (v : A) → ((d : Configuration) → of (f d) ≡ of d)
      → HasOne some of v → HasOne (map f some) of v
  one_kept f of v keeps one = one_made f of v of v one (λ d is. keeps d ∙ is)

-- ---- values that are changed at one place, each by itself

pub of_one_number : {A : Type 0} (was : ℕ → A) (g : A → A) (k n : ℕ) → with_at was k (g (was k)) n ≡ (if n == k then g (was n) else was n)
of_one_number was g k n = by_test (n == k) refl
  where
    by_test : (b : Bool) → (n == k) ≡ b → (if b then g (was k) else was n) ≡ (if b then g (was n) else was n)
    by_test true e = ap (λ (m : ℕ). g (was m)) (sym (eqb-true n k e))
    by_test false e = refl

pub of_one_termination : {A : Type 0} (was : Termination → A) (g : A → A) (u t : Termination)
    → with_of was u (g (was u)) t ≡ (if is_same t u then g (was t) else was t)
of_one_termination was g u t = by_test (is_same t u) refl
  where
    by_test : (b : Bool) → is_same t u ≡ b → (if b then g (was u) else was t) ≡ (if b then g (was t) else was t)
    by_test true e = ap (λ (v : Termination). g (was v)) (sym (is_same_is t u e))
    by_test false e = refl

-- ---- one configuration more

-- what was there still is, and what was added is there
pub still_there : {X Y : Type 0} (f : X → Y) (xs ys : List X) (x : X) → ys ≡ xs ++ x ∷ [] → (y : Y) → Contains (map f xs) y → Contains (map f ys) y
still_there {X} {Y} f xs ys x is y has =
    subst (λ (zs : List X). Contains (map f zs) y) (sym is)
    (subst (λ (zs : List Y). Contains zs y) (sym (map-append f xs (x ∷ []))) (Contains-append_left (map f xs) (f x ∷ []) y has))

pub added_there : {X Y : Type 0} (f : X → Y) (xs ys : List X) (x : X) → ys ≡ xs ++ x ∷ [] → Contains (map f ys) (f x)
added_there {X} {Y} f xs ys x is =
    subst (λ (zs : List X). Contains (map f zs) (f x)) (sym is)
    (contains_map f (xs ++ x ∷ []) x (Contains-append_right xs (x ∷ []) x (0, omega arith, refl)))

-- ---- what a function gives of some configurations

-- of each it gives what another one makes
pub each_given : {F : Type 0} (g : Shared F (Bor Words × Unit {0}) Words) (given : F) (f : Configuration → Configuration) (words made : List Words)
    → AllZip (FnReturnsAt g given) words made → ((x : Bor Words) (y : Words) → g.post given (x, tt) y → configuration_of y ≡ f (configuration_of x.now))
    → map configuration_of made ≡ map f (map configuration_of words)
each_given g given f [] [] all makes = refl
each_given g given f [] (y ∷ made) all makes = absurd all
each_given g given f (x ∷ words) [] all makes = absurd all
each_given g given f (x ∷ words) (y ∷ made) all makes =
    ap (λ (d : Configuration). d ∷ map configuration_of made)
    (subst (λ (w : Words). configuration_of y ≡ f (configuration_of w)) all.0.shows (makes all.0.shown y all.0.says.met))
    ∙ ap (λ (ds : List Configuration). f (configuration_of x) ∷ ds) (each_given g given f words made all.1 makes)

-- one of what it gives is led to from each
pub each_led : {F : Type 0} (g : Shared F (Bor Words × Unit {0}) Words) (given : F) (R : Configuration → Configuration → Type 0) (words made : List Words)
    → AllZip (FnReturnsAt g given) words made → ((x : Bor Words) (y : Words) → g.post given (x, tt) y → R (configuration_of x.now) (configuration_of y))
    → (d : Configuration) → Contains (map configuration_of words) d → (e : Configuration) × (Contains (map configuration_of made) e × R d e)
each_led g given R [] made all leads d has = absurd (omega (arith, has.1))
each_led g given R (x ∷ words) [] all leads d has = absurd all
each_led g given R (x ∷ words) (y ∷ made) all leads d (zero, lt, is) = (
  configuration_of y,
  (
    (0, omega arith, refl),
    subst (λ (c : Configuration). R c (configuration_of y)) is
        (subst (λ (w : Words). R (configuration_of w) (configuration_of y)) all.0.shows (leads all.0.shown y all.0.says.met)),
  ),
)
each_led g given R (x ∷ words) (y ∷ made) all leads d (suc k, lt, is) =
    let more = each_led g given R words made all.1 leads d (k, omega (arith, lt), is) in
    (more.0, ((suc more.1.0.0, omega (arith, more.1.0.1), more.1.0.2), more.1.1))

-- what holds where a test has an answer holds of each of which it has that
pub each_passed : {F : Type 0} (g : Shared F (Bor Words × Unit {0}) Bool) (test : F) (b : Bool) (P : Configuration → Type 0) (words : List Words)
    → All (λ (w : Words). FnReturnsAt g test w b) words → ((x : Bor Words) → g.post test (x, tt) b → P (configuration_of x.now))
    → (d : Configuration) → Contains (map configuration_of words) d → P d
each_passed g test b P words all holds = each_of_words words P (λ w has.
    let one = All-contains (λ (v : Words). FnReturnsAt g test v b) words w all has in
    subst (λ (v : Words). P (configuration_of v)) one.shows (holds one.shown one.says.met))

-- ---- an entry that has all

pub hull_includes : (some : List Configuration) (entry : Entry)
    → ((d : Configuration) → Contains some d → (d.state ≡ entry.state) × All (Allows d) entry.components)
    → (c : Configuration) → IsInHull some c → IsWellFormed c → Includes entry c
hull_includes some entry each c inside formed = (
  sym inside.state.1.1 ∙ (each inside.state.0 inside.state.1.0).0,
  formed,
  hull_allowed some c inside entry.components (λ d has. (each d has).1),
)
