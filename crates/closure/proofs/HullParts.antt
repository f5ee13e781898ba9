-- What is in the hull of some configurations is in that of one of two parts of them.
use Rattle.std.proofs.Common.{◌≡◌, ◌∙◌, inl, inr, ℕ, ◌==◌, ◌&&◌, Bool, true, false, not, if◌then◌else◌, List, refl, sym, ap, subst, Contains}
use Rattle.mg_model.specs.declared.commands.Termination.{Termination}
use Rattle.mg_model.specs.Configuration.{Configuration, is_same}
use Rattle.mg_model.specs.Entries.{Component, Entry, Allows, links, spots, modes, events, plays, contexts, remotes, cuts}
use Rattle.closure.specs.Hulls.{IsHullCovered, HasOne, IsInHull}
use Rattle.closure.specs.Parts.{HasPart, IsAllowed, with_component_of}
use Rattle.closure.proofs.GivenValues.{both_true, same_number, same_termination}

-- ---- a component asks for one value

abbrev HaveSame : Component → Configuration → Configuration → Type 0
HaveSame (links values) d c = d.link ≡ c.link
HaveSame (spots t values) d c = d.spot t ≡ c.spot t
HaveSame (modes t values) d c = d.mode t ≡ c.mode t
HaveSame (events i values) d c = d.events i ≡ c.events i
HaveSame (plays i values) d c = d.plays i ≡ c.plays i
HaveSame (contexts j values) d c = d.context j ≡ c.context j
HaveSame (remotes k values) d c = d.remote k ≡ c.remote k
HaveSame (cuts t u values) d c = d.cut t u ≡ c.cut t u

same_allowed : (component : Component) (d c : Configuration) → HaveSame component d c → Allows d component → Allows c component
same_allowed (links values) d c same has = subst (λ v. Contains values v) same has
same_allowed (spots t values) d c same has = subst (λ v. Contains values v) same has
same_allowed (modes t values) d c same has = subst (λ v. Contains values v) same has
same_allowed (events i values) d c same has = subst (λ v. Contains values v) same has
same_allowed (plays i values) d c same has = subst (λ v. Contains values v) same has
same_allowed (contexts j values) d c same has = subst (λ v. Contains values v) same has
same_allowed (remotes k values) d c same has = subst (λ v. Contains values v) same has
same_allowed (cuts t u values) d c same has = subst (λ v. Contains values v) same has

same_refused : (component : Component) (d c : Configuration) → HaveSame component d c → Allows c component → Allows d component
same_refused (links values) d c same has = subst (λ v. Contains values v) (sym same) has
same_refused (spots t values) d c same has = subst (λ v. Contains values v) (sym same) has
same_refused (modes t values) d c same has = subst (λ v. Contains values v) (sym same) has
same_refused (events i values) d c same has = subst (λ v. Contains values v) (sym same) has
same_refused (plays i values) d c same has = subst (λ v. Contains values v) (sym same) has
same_refused (contexts j values) d c same has = subst (λ v. Contains values v) (sym same) has
same_refused (remotes k values) d c same has = subst (λ v. Contains values v) (sym same) has
same_refused (cuts t u values) d c same has = subst (λ v. Contains values v) (sym same) has

-- of two that have one value the one isn't allowed where the other is not
not_both : (component : Component) (allowed : Bool) (d c : Configuration) → HaveSame component d c → IsAllowed component (not allowed) d
    → IsAllowed component allowed c → ⊥
not_both component true d c same other has = other (same_refused component d c same has)
not_both component false d c same other has = has (same_allowed component d c same other)

-- one of some configurations has the value of what is in their hull
one_of : (some : List Configuration) (c : Configuration) → IsInHull some c → (component : Component)
    → (d : Configuration) × (Contains some d × HaveSame component d c)
one_of some c inside (links values) = inside.link
one_of some c inside (spots t values) = inside.spot t
one_of some c inside (modes t values) = inside.mode t
one_of some c inside (events i values) = inside.events i
one_of some c inside (plays i values) = inside.plays i
one_of some c inside (contexts j values) = inside.context j
one_of some c inside (remotes k values) = inside.remote k
one_of some c inside (cuts t u values) = inside.cut t u

-- what has another one's value at some places has its own at the others
elsewhere : {A : Type 0} (here : Bool) (v w z : A) → (here ≡ true → ⊥) → w ≡ z → (if here then v else w) ≡ z
elsewhere true v w z apart same = absurd (apart refl)
elsewhere false v w z apart same = same

same_pair : (t u v w : Termination) (f g : Termination → Termination → Bool) → (is_same v t && is_same w u) ≡ true → f v w ≡ g v w → f t u ≡ g t u
same_pair t u v w f g here same =
    let both = both_true (is_same v t) (is_same w u) here in
    subst (λ (x : Termination). f x u ≡ g x u) (same_termination v t both.0)
    (subst (λ (x : Termination). f v x ≡ g v x) (same_termination w u both.1) same)

module _ (like : Configuration) (allowed : Bool) (some made : List Configuration) (c : Configuration) where
  -- one of the part has a value, where the change leaves it to those that are changed
  one_part : {A : Type 0} (component : Component) (of : Configuration → A) → HasPart component allowed like some made
      → ((d : Configuration) → IsAllowed component (not allowed) d → of d ≡ of c → of (with_component_of component like d) ≡ of c)
      → HasOne some of (of c) → HasOne made of (of c)
  one_part component of parts leaves one =
      let part = parts one.0 one.1.0 in (
        part.0,
        (
          part.1.0,
          elim part.1.1 [
            | inl own ↦ ap of own.1 ∙ one.1.1
            | inr changed ↦ ap of changed.1 ∙ leaves one.0 changed.0 one.1.1
          ],
        ),
      )

  pub hull_part : (component : Component) → HasPart component allowed like some made → IsInHull some c → IsAllowed component allowed c → IsInHull made c
  hull_part (links values) parts inside has = let x = links values in record {
    state = one_part x (λ d. d.state) parts (λ d other same. same) inside.state;
    link = one_part x (λ d. d.link) parts (λ d other same. absurd (not_both x allowed d c same other has)) inside.link;
    spot = λ t. one_part x (λ d. d.spot t) parts (λ d other same. same) (inside.spot t);
    mode = λ t. one_part x (λ d. d.mode t) parts (λ d other same. same) (inside.mode t);
    events = λ i. one_part x (λ d. d.events i) parts (λ d other same. same) (inside.events i);
    plays = λ i. one_part x (λ d. d.plays i) parts (λ d other same. same) (inside.plays i);
    context = λ j. one_part x (λ d. d.context j) parts (λ d other same. same) (inside.context j);
    remote = λ k. one_part x (λ d. d.remote k) parts (λ d other same. same) (inside.remote k);
    cut = λ t u. one_part x (λ d. d.cut t u) parts (λ d other same. same) (inside.cut t u);
  }
  hull_part (spots t values) parts inside has = let x = spots t values in record {
    state = one_part x (λ d. d.state) parts (λ d other same. same) inside.state;
    link = one_part x (λ d. d.link) parts (λ d other same. same) inside.link;
    spot = λ v. one_part x (λ d. d.spot v) parts
        (λ d other same. elsewhere (is_same v t) (like.spot t) (d.spot v) (c.spot v)
        (λ here. not_both x allowed d c (subst (λ (m : Termination). d.spot m ≡ c.spot m) (same_termination v t here) same) other has) same)
        (inside.spot v);
    mode = λ v. one_part x (λ d. d.mode v) parts (λ d other same. same) (inside.mode v);
    events = λ n. one_part x (λ d. d.events n) parts (λ d other same. same) (inside.events n);
    plays = λ n. one_part x (λ d. d.plays n) parts (λ d other same. same) (inside.plays n);
    context = λ n. one_part x (λ d. d.context n) parts (λ d other same. same) (inside.context n);
    remote = λ n. one_part x (λ d. d.remote n) parts (λ d other same. same) (inside.remote n);
    cut = λ v w. one_part x (λ d. d.cut v w) parts (λ d other same. same) (inside.cut v w);
  }
  hull_part (modes t values) parts inside has = let x = modes t values in record {
    state = one_part x (λ d. d.state) parts (λ d other same. same) inside.state;
    link = one_part x (λ d. d.link) parts (λ d other same. same) inside.link;
    spot = λ v. one_part x (λ d. d.spot v) parts (λ d other same. same) (inside.spot v);
    mode = λ v. one_part x (λ d. d.mode v) parts
        (λ d other same. elsewhere (is_same v t) (like.mode t) (d.mode v) (c.mode v)
        (λ here. not_both x allowed d c (subst (λ (m : Termination). d.mode m ≡ c.mode m) (same_termination v t here) same) other has) same)
        (inside.mode v);
    events = λ n. one_part x (λ d. d.events n) parts (λ d other same. same) (inside.events n);
    plays = λ n. one_part x (λ d. d.plays n) parts (λ d other same. same) (inside.plays n);
    context = λ n. one_part x (λ d. d.context n) parts (λ d other same. same) (inside.context n);
    remote = λ n. one_part x (λ d. d.remote n) parts (λ d other same. same) (inside.remote n);
    cut = λ v w. one_part x (λ d. d.cut v w) parts (λ d other same. same) (inside.cut v w);
  }
  hull_part (events i values) parts inside has = let x = events i values in record {
    state = one_part x (λ d. d.state) parts (λ d other same. same) inside.state;
    link = one_part x (λ d. d.link) parts (λ d other same. same) inside.link;
    spot = λ v. one_part x (λ d. d.spot v) parts (λ d other same. same) (inside.spot v);
    mode = λ v. one_part x (λ d. d.mode v) parts (λ d other same. same) (inside.mode v);
    events = λ n. one_part x (λ d. d.events n) parts
        (λ d other same. elsewhere (n == i) (like.events i) (d.events n) (c.events n)
        (λ here. not_both x allowed d c (subst (λ (m : ℕ). d.events m ≡ c.events m) (same_number n i here) same) other has) same)
        (inside.events n);
    plays = λ n. one_part x (λ d. d.plays n) parts (λ d other same. same) (inside.plays n);
    context = λ n. one_part x (λ d. d.context n) parts (λ d other same. same) (inside.context n);
    remote = λ n. one_part x (λ d. d.remote n) parts (λ d other same. same) (inside.remote n);
    cut = λ v w. one_part x (λ d. d.cut v w) parts (λ d other same. same) (inside.cut v w);
  }
  hull_part (plays i values) parts inside has = let x = plays i values in record {
    state = one_part x (λ d. d.state) parts (λ d other same. same) inside.state;
    link = one_part x (λ d. d.link) parts (λ d other same. same) inside.link;
    spot = λ v. one_part x (λ d. d.spot v) parts (λ d other same. same) (inside.spot v);
    mode = λ v. one_part x (λ d. d.mode v) parts (λ d other same. same) (inside.mode v);
    events = λ n. one_part x (λ d. d.events n) parts (λ d other same. same) (inside.events n);
    plays = λ n. one_part x (λ d. d.plays n) parts
        (λ d other same. elsewhere (n == i) (like.plays i) (d.plays n) (c.plays n)
        (λ here. not_both x allowed d c (subst (λ (m : ℕ). d.plays m ≡ c.plays m) (same_number n i here) same) other has) same)
        (inside.plays n);
    context = λ n. one_part x (λ d. d.context n) parts (λ d other same. same) (inside.context n);
    remote = λ n. one_part x (λ d. d.remote n) parts (λ d other same. same) (inside.remote n);
    cut = λ v w. one_part x (λ d. d.cut v w) parts (λ d other same. same) (inside.cut v w);
  }
  hull_part (contexts j values) parts inside has = let x = contexts j values in record {
    state = one_part x (λ d. d.state) parts (λ d other same. same) inside.state;
    link = one_part x (λ d. d.link) parts (λ d other same. same) inside.link;
    spot = λ v. one_part x (λ d. d.spot v) parts (λ d other same. same) (inside.spot v);
    mode = λ v. one_part x (λ d. d.mode v) parts (λ d other same. same) (inside.mode v);
    events = λ n. one_part x (λ d. d.events n) parts (λ d other same. same) (inside.events n);
    plays = λ n. one_part x (λ d. d.plays n) parts (λ d other same. same) (inside.plays n);
    context = λ n. one_part x (λ d. d.context n) parts
        (λ d other same. elsewhere (n == j) (like.context j) (d.context n) (c.context n)
        (λ here. not_both x allowed d c (subst (λ (m : ℕ). d.context m ≡ c.context m) (same_number n j here) same) other has) same)
        (inside.context n);
    remote = λ n. one_part x (λ d. d.remote n) parts (λ d other same. same) (inside.remote n);
    cut = λ v w. one_part x (λ d. d.cut v w) parts (λ d other same. same) (inside.cut v w);
  }
  hull_part (remotes k values) parts inside has = let x = remotes k values in record {
    state = one_part x (λ d. d.state) parts (λ d other same. same) inside.state;
    link = one_part x (λ d. d.link) parts (λ d other same. same) inside.link;
    spot = λ v. one_part x (λ d. d.spot v) parts (λ d other same. same) (inside.spot v);
    mode = λ v. one_part x (λ d. d.mode v) parts (λ d other same. same) (inside.mode v);
    events = λ n. one_part x (λ d. d.events n) parts (λ d other same. same) (inside.events n);
    plays = λ n. one_part x (λ d. d.plays n) parts (λ d other same. same) (inside.plays n);
    context = λ n. one_part x (λ d. d.context n) parts (λ d other same. same) (inside.context n);
    remote = λ n. one_part x (λ d. d.remote n) parts
        (λ d other same. elsewhere (n == k) (like.remote k) (d.remote n) (c.remote n)
        (λ here. not_both x allowed d c (subst (λ (m : ℕ). d.remote m ≡ c.remote m) (same_number n k here) same) other has) same)
        (inside.remote n);
    cut = λ v w. one_part x (λ d. d.cut v w) parts (λ d other same. same) (inside.cut v w);
  }
  hull_part (cuts t u values) parts inside has = let x = cuts t u values in record {
    state = one_part x (λ d. d.state) parts (λ d other same. same) inside.state;
    link = one_part x (λ d. d.link) parts (λ d other same. same) inside.link;
    spot = λ v. one_part x (λ d. d.spot v) parts (λ d other same. same) (inside.spot v);
    mode = λ v. one_part x (λ d. d.mode v) parts (λ d other same. same) (inside.mode v);
    events = λ n. one_part x (λ d. d.events n) parts (λ d other same. same) (inside.events n);
    plays = λ n. one_part x (λ d. d.plays n) parts (λ d other same. same) (inside.plays n);
    context = λ n. one_part x (λ d. d.context n) parts (λ d other same. same) (inside.context n);
    remote = λ n. one_part x (λ d. d.remote n) parts (λ d other same. same) (inside.remote n);
    cut = λ v w. one_part x (λ d. d.cut v w) parts
        (λ d other same. elsewhere (is_same v t && is_same w u) (like.cut t u) (d.cut v w) (c.cut v w)
        (λ here. not_both x allowed d c (same_pair t u v w d.cut c.cut here same) other has) same)
        (inside.cut v w);
  }

-- what a component allows is in the hull of the one part, and what it doesn't allow in that of the other
pub hull_in_parts : (component : Component) (one other : Configuration) (entries : List Entry) (some within without : List Configuration)
    → HasPart component true one some within → HasPart component false other some without
    → IsHullCovered entries within → IsHullCovered entries without → IsHullCovered entries some
hull_in_parts component one other entries some within without parts rest first second c inside formed =
    let at = one_of some c inside component in
    let part = parts at.0 at.1.0 in
    elim part.1.1 [
      | inl own ↦ first c (hull_part one true some within c component parts inside (same_allowed component at.0 c at.1.1 own.0)) formed
      | inr changed ↦ second c (hull_part other false some without c component rest inside
          (λ has. changed.0 (same_refused component at.0 c at.1.1 has))) formed
    ]
