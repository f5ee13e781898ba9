-- A number that no context had is bound to a name that is free: the board that gave it out shows the configuration in which the context
-- is live, and the names in force are still those that commands are built with.
use Rattle.mg_safety.proofs.Words.{◌≡◌, ◌∙◌, ◌<◌, ◌&&◌, ◌||◌, ℕ, Bool, true, false, not, Option, Some, None, is_some, refl, sym, ap, subst, true≢false, arith}
use Rattle.mg_safety.proofs.Words.{eqb-true, eq-eqb, if◌then◌else◌, ◌==◌, unwrap_or, Live, TermId, Termination, Spot, Absent, Null, In, Board, place_of}
use Rattle.mg_safety.proofs.Words.{with_at, Configuration, is_free, given, is_context_number, Script, IsSlot, false_not_true, none_is_some, none_of, the_some}
use Rattle.mg_safety.proofs.Words.{different, or_right, cases_Bool, where_true, by_test, ContextValue, inl, inr, denied}
use Rattle.mg_safety.proofs.InvariantWords.{Naming, term_of, number_at, Shown, IsAccounted, AreBuilt}
use Rattle.mg_safety.proofs.Shared.ShownParts.{shown_with}

-- ---- tests

pub with_at_here : {A : Type 0} (f : ℕ → A) (i : ℕ) (v : A) → with_at f i v i ≡ v
with_at_here f i v = ap (λ p. if p then v else f i) (eq-eqb i i refl)

pub with_at_kept : {A : Type 0} (f : ℕ → A) (i : ℕ) (v : A) (k : ℕ) → (k == i) ≡ false → with_at f i v k ≡ f k
with_at_kept f i v k e = ap (λ p. if p then v else f k) e

-- a name that is bound to one thing after another one was bound: it is the new one, or it was bound before
pub with_at_some : {A : Type 0} (f : ℕ → Option A) (i : ℕ) (v : Option A) (k : ℕ) (o : Option A) (P : Type 0) → with_at f i v k ≡ o
    → (k ≡ i → v ≡ o → P) → ((k == i) ≡ false → f k ≡ o → P) → P
with_at_some f i v k o P e new old = elim (cases_Bool (k == i)) [
  | inl same ↦ new (eqb-true k i same) (sym (where_true (k == i) v (f k) same) ∙ e)
  | inr other ↦ old other (sym (with_at_kept f i v k other) ∙ e)
]

-- ---- a name that is bound

-- a context that is bound may be written as live
pub shown_live : (script : Script) (owned : TermId → Bool) (n : Naming) (b : Board) (c : Configuration) (j x : ℕ) → Shown script owned n b c
    → n.contexts j ≡ Some x → Shown script owned n b (record c { context = with_at c.context j Live })
shown_live script owned n b c j x shown bound =
    let free : (i : ℕ) → is_free (with_at c.context j Live i) ≡ is_free (c.context i) = λ i.
    by_test (λ (v : ContextValue). is_free v ≡ is_free (c.context i)) Live (c.context i) (i == j)
    (λ same. sym (denied (is_free (c.context i)) (sym (shown.bound i) ∙ ap (λ k. is_some (n.contexts k)) (eqb-true i j same) ∙ ap is_some bound)))
    (λ other. refl) in
    shown_with script owned owned n b c (λ t. refl) b.cut c.state c.link (with_at c.context j Live) c.cut free shown.cut shown

-- ---- a fresh number

abbrev pub with_given : Board → ℕ → Board
with_given b y = record b { used_context = given true y b.used_context }

abbrev pub with_context : Naming → ℕ → ℕ → Naming
with_context n j y = record n { contexts = with_at n.contexts j (Some y) }

pub given_new : (y : ℕ) (was : ℕ → Bool) → given true y was y ≡ true
given_new y was = ap (λ p. p || was y) (eq-eqb y y refl)

pub given_still : (p : Bool) (y : ℕ) (was : ℕ → Bool) (x : ℕ) → was x ≡ true → given p y was x ≡ true
given_still p y was x before = or_right (p && x == y) (was x) before

module _ (n m : Naming) (b : Board) (j y : ℕ) (fresh : b.used_context y ≡ false) where
  -- a number that was given isn't the fresh one
  pub not_fresh : (x : ℕ) → b.used_context x ≡ true → x ≡ y → ⊥
  not_fresh x before same = true≢false (sym before ∙ ap b.used_context same ∙ fresh)

  pub nobody_stands : IsAccounted b → (0 < y) → (t : TermId) → place_of b t ≡ y → ⊥
  nobody_stands accounted positive t at =
      not_fresh (place_of b t) (accounted.contexts t (λ null. let zero_is : 0 ≡ y = sym null ∙ at in omega (arith, zero_is, positive))) at

  pub accounted_given : IsAccounted b → IsAccounted (with_given b y)
  accounted_given accounted = record {
    ephemerals = accounted.ephemerals;
    contexts = λ t there. given_still true y b.used_context (place_of b t) (accounted.contexts t there);
  }

  pub built_given : AreBuilt n m b → is_context_number y → AreBuilt (with_context n j y) (with_context m j y) (with_given b y)
  built_given built real = record {
    lines = built.lines;
    context = λ i x bound. with_at_some n.contexts j (Some y) i (Some x) (with_at m.contexts j (Some y) i ≡ Some x) bound
        (λ same is. ap (with_at m.contexts j (Some y)) same ∙ with_at_here m.contexts j (Some y) ∙ is)
        (λ other before. with_at_kept m.contexts j (Some y) i other ∙ built.context i x before);
    context_lost = λ i x bound lost there. with_at_some n.contexts j (Some y) i None ⊥ lost
        (λ same is. none_is_some y (sym is))
        (λ other before. built.context_lost i x (sym (with_at_kept m.contexts j (Some y) i other) ∙ bound) before there);
    context_real = λ i x bound. with_at_some m.contexts j (Some y) i (Some x) (is_context_number x × (given true y b.used_context x ≡ true)) bound
        (λ same is. subst (λ z. is_context_number z × (given true y b.used_context z ≡ true)) (the_some y x is) (real, given_new y b.used_context))
        (λ other before. let was = built.context_real i x before in (was.0, given_still true y b.used_context x was.1));
    ephemeral = built.ephemeral;
    ephemeral_lost = built.ephemeral_lost;
    ephemeral_given = built.ephemeral_given;
  }

  module _ (script : Script) (owned : TermId → Bool) (c : Configuration) (shown : Shown script owned n b c) (free : is_free (c.context j) ≡ true) where
    pub unbound_name : n.contexts j ≡ None
    unbound_name = none_of (n.contexts j) (shown.bound j ∙ ap not free)

    -- a name in which a termination stands isn't the free one
    stands_apart : (t : Termination) (i : ℕ) → IsSlot script t → c.spot t ≡ In i → (i == j) ≡ false
    stands_apart t i slot at =
        different i j (λ same. false_not_true (sym (ap is_some (ap n.contexts same ∙ unbound_name)) ∙ shown.in_bound t i slot at))

    same_number : (t : Termination) → IsSlot script t → (s : Spot) → c.spot t ≡ s → number_at n s ≡ number_at (with_context n j y) s
    same_number t slot Absent at = refl
    same_number t slot Null at = refl
    same_number t slot (In i) at = ap (λ o. unwrap_or o 0) (sym (with_at_kept n.contexts j (Some y) i (stands_apart t i slot at)))

    pub shown_given : IsAccounted b → is_context_number y
        → Shown script owned (with_context n j y) (with_given b y) (record c { context = with_at c.context j Live })
    shown_given accounted real = record {
      stands = shown.stands;
      place = λ t slot. shown.place t slot ∙ same_number t slot (c.spot t) refl;
      in_bound = λ t i slot at. ap is_some (with_at_kept n.contexts j (Some y) i (stands_apart t i slot at)) ∙ shown.in_bound t i slot at;
      mode = shown.mode;
      remote = shown.remote;
      cut = shown.cut;
      bound = λ i. bound i (i == j);
      line_stands = shown.line_stands;
      line_owned = shown.line_owned;
      line_once = shown.line_once;
      context_real = λ i x named. with_at_some n.contexts j (Some y) i (Some x) (is_context_number x × (given true y b.used_context x ≡ true)) named
          (λ same is. subst (λ z. is_context_number z × (given true y b.used_context z ≡ true)) (the_some y x is) (real, given_new y b.used_context))
          (λ other before. let was = shown.context_real i x before in (was.0, given_still true y b.used_context x was.1));
      context_once = once;
      members = λ i x t named at. with_at_some n.contexts j (Some y) i (Some x) ((u : Termination) × IsSlot script u × (term_of n u ≡ Some t)) named
          (λ same is. absurd (nobody_stands accounted real.0 t (at ∙ sym (the_some y x is))))
          (λ other before. shown.members i x t before at);
      ephemeral_slot = shown.ephemeral_slot;
      ephemeral_stands = shown.ephemeral_stands;
      ephemeral_owned = shown.ephemeral_owned;
      ephemeral_once = shown.ephemeral_once;
      ephemeral_named = shown.ephemeral_named;
    }
      where
        bound : (i : ℕ) (p : Bool) → is_some (if p then Some y else n.contexts i) ≡ not (is_free (if p then Live else c.context i))
        bound i true = refl
        bound i false = shown.bound i

        -- the fresh number has no other name
        alone : (i x : ℕ) → n.contexts i ≡ Some x → y ≡ x → ⊥
        alone i x named is = not_fresh x (shown.context_real i x named).1 (sym is)

        once : (i k x : ℕ) → with_at n.contexts j (Some y) i ≡ Some x → with_at n.contexts j (Some y) k ≡ Some x → i ≡ k
        once i k x first second = with_at_some n.contexts j (Some y) i (Some x) (i ≡ k) first
            (λ same is. with_at_some n.contexts j (Some y) k (Some x) (i ≡ k) second
            (λ too also. same ∙ sym too)
            (λ other before. absurd (alone k x before (the_some y x is))))
            (λ other before. with_at_some n.contexts j (Some y) k (Some x) (i ≡ k) second
            (λ too also. absurd (alone i x before (the_some y x also)))
            (λ apart known. shown.context_once i k x before known))
