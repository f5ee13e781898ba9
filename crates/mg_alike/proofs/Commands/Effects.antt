-- The boards after a command that both execute: their rows and their cuts are alike, what it created standing for one another.
use Rattle.std.proofs.Common.{◌≡◌, ◌∙◌, ℕ, Bool, true, false, Option, Some, None, refl, sym, ap, subst, inl, inr, ◌==◌, ◌||◌, if◌then◌else◌, unwrap_or}
use Rattle.mg_merge.proofs.Words.{Board, Chosen, Eph, Ephemeral, Inactive, IsFresh, Line, Mode, Nothing, RemoteSetting, Row, Settings, TermId}
use Rattle.mg_merge.proofs.Words.{creates_ephemeral, effect, false_not_true, mode_of, place_of, remote_of, remote_set, row_at, same_term, subtracted, target}
use Rattle.mg_merge.proofs.Words.{the_context, the_line}
use Rattle.mg_alike.proofs.Words.{BoardsAlike, IsRenaming, OptionalRowsAlike, PlacesAlike, RemotesAlike, Renaming, RowsAlike, TermsAlike}
use Rattle.mg_model.proofs.Terminations.{same_term_is, same_term_turned}
use Rattle.mg_alike.proofs.Commands.Reading.{rows_mode, rows_remote, no_remote, same_term_same, at_same, place_alike, both_or}
use Rattle.mg_alike.proofs.Commands.Renamed.{renamed, renamed_wider, renaming_after, target_renamed, old_term}
use Rattle.mg_alike.proofs.Commands.Twins.{Twin, add_line, add_ephemeral, modify, move, subtract, subtract_all, set_topology, one_of, other_of, SetRemotesAlike, SettingsAlike, IsTwin, InUse}
use Rattle.mg_alike.proofs.Shared.Pairs.{IsWider, pair_new, places_more, remotes_more, rows_more, terms_more}

-- ---- by a test

where_rows : (r : Renaming) (t : TermId) (test other : Bool) → other ≡ test → (x y o p : Option Row) → (test ≡ true → OptionalRowsAlike r t x y)
    → (test ≡ false → OptionalRowsAlike r t o p) → OptionalRowsAlike r t (if test then x else o) (if other then y else p)
where_rows r t test other same x y o p first second =
    subst (λ (b : Bool). OptionalRowsAlike r t (if test then x else o) (if b then y else p)) (sym same) (go test first second)
  where
    go : (b : Bool) → (b ≡ true → OptionalRowsAlike r t x y) → (b ≡ false → OptionalRowsAlike r t o p)
        → OptionalRowsAlike r t (if b then x else o) (if b then y else p)
    go true first second = first refl
    go false first second = second refl

where_cuts : (test other : Bool) → other ≡ test → (p q : Bool) → (test ≡ false → q ≡ p) → (if other then false else q) ≡ (if test then false else p)
where_cuts test other same p q second = ap (λ (t : Bool). if t then false else q) same ∙ go test second
  where
    go : (t : Bool) → (t ≡ false → q ≡ p) → (if t then false else q) ≡ (if t then false else p)
    go true second = refl
    go false second = second refl

first_false : (p q : Bool) → (p || q) ≡ false → p ≡ false
first_false false q e = refl
first_false true q e = e

second_false : (p q : Bool) → (p || q) ≡ false → q ≡ false
second_false true false e = refl
second_false _ _ e = e

-- ---- a row that is set

set_alike : (r : Renaming) (t : TermId) (s z : Option RemoteSetting) → SetRemotesAlike r s z → (o p : Option ℕ) → RemotesAlike r t o p
    → RemotesAlike r t (remote_set s o) (remote_set z p)
set_alike r (Line l) s z is o p was = tt
set_alike r (Eph x) None None is o p was = was
set_alike r (Eph x) (Some Nothing) (Some Nothing) is o p was = tt
set_alike r (Eph x) (Some (Ephemeral k)) (Some (Ephemeral i)) is o p was = is
set_alike r _ _ _ is o p was = absurd is

settings_more : (r wide : Renaming) → IsWider r wide → (s z : Option RemoteSetting) → SetRemotesAlike r s z → SetRemotesAlike wide s z
settings_more r wide wider None None is = tt
settings_more r wide wider (Some Nothing) (Some Nothing) is = tt
settings_more r wide wider (Some (Ephemeral k)) (Some (Ephemeral i)) is = wider.ephemerals k i is
settings_more r wide wider _ _ is = absurd is

row_alike : (r : Renaming) (t : TermId) (p q : ℕ) (s z : Settings) (mode its : Mode) (remote also : Option ℕ) → PlacesAlike r p q → z.mode ≡ s.mode
    → SetRemotesAlike r s.remote z.remote → its ≡ mode → RemotesAlike r t remote also → RowsAlike r t (row_at p s mode remote) (row_at q z its also)
row_alike r t p q s z mode its remote also place set remotes modes were = record {
  place = place;
  mode = ap (λ (o : Option Mode). unwrap_or o its) set ∙ ap (λ (x : Mode). unwrap_or s.mode x) modes;
  remote = set_alike r t s.remote z.remote remotes remote also were;
}

subtracted_alike : (r : Renaming) (held : ℕ → Bool) (t u : TermId) → TermsAlike r held t u → OptionalRowsAlike r t (subtracted t) (subtracted u)
subtracted_alike r held (Line l) (Line k) is = record { place = inl (refl, refl); mode = refl; remote = tt }
subtracted_alike r held (Eph x) (Eph y) is = tt
subtracted_alike r held _ _ is = absurd is

-- ---- after a command

module _ (r : Renaming) (held : ℕ → Bool) (renaming : IsRenaming r) (b m : Board) (alike : BoardsAlike r held b m) where
  module _ (wide : Renaming) (wider : IsWider r wide) where
    old_row : (t u : TermId) → TermsAlike r held t u → OptionalRowsAlike wide t (b.row t) (m.row u)
    old_row t u it = rows_more r wide wider t (b.row t) (m.row u) (alike.rows t u it)

    -- a row is set on what stood before
    placed_rows : (p q : ℕ) (s z : Settings) (v x : TermId) → PlacesAlike wide p q → SettingsAlike r s z → TermsAlike r held v x → (t u : TermId) → TermsAlike r held t u
        → OptionalRowsAlike wide t (if same_term t v then Some (row_at p s (mode_of b v) (remote_of b v)) else b.row t)
        (if same_term u x then Some (row_at q z (mode_of m x) (remote_of m x)) else m.row u)
    placed_rows p q s z v x place settings named t u it =
        where_rows wide t (same_term t v) (same_term u x) (same_term_same r held renaming t u v x it named) (Some (row_at p s (mode_of b v) (remote_of b v)))
        (Some (row_at q z (mode_of m x) (remote_of m x))) (b.row t) (m.row u)
        (λ e. row_alike wide t p q s z (mode_of b v) (mode_of m x) (remote_of b v) (remote_of m x) place settings.mode
        (settings_more r wide wider s.remote z.remote settings.remote) (rows_mode r v (b.row v) (m.row x) (alike.rows v x named))
        (rw (same_term_is t v e) (remotes_more r wide wider v (remote_of b v) (remote_of m x) (rows_remote r v (b.row v) (m.row x) (alike.rows v x named)))))
        (λ other. old_row t u it)

    -- terminations leave
    left_rows : (leaves goes : TermId → Bool) → ((t u : TermId) → TermsAlike r held t u → goes u ≡ leaves t) → (t u : TermId) → TermsAlike r held t u
        → OptionalRowsAlike wide t (if leaves t then subtracted t else b.row t) (if goes u then subtracted u else m.row u)
    left_rows leaves goes same t u it =
        where_rows wide t (leaves t) (goes u) (same t u it) (subtracted t) (subtracted u) (b.row t) (m.row u)
        (λ leaving. subtracted_alike wide held t u (terms_more r wide held wider.ephemerals t u it)) (λ stays. old_row t u it)

  left_cuts : (leaves goes : TermId → Bool) → ((t u : TermId) → TermsAlike r held t u → goes u ≡ leaves t) → (t u v x : TermId) → TermsAlike r held t u
      → TermsAlike r held v x → (if goes u || goes x then false else m.cut u x) ≡ (if leaves t || leaves v then false else b.cut t v)
  left_cuts leaves goes same t u v x first second =
      where_cuts (leaves t || leaves v) (goes u || goes x) (both_or (leaves t) (leaves v) (goes u) (goes x) (same t u first) (same v x second)) (b.cut t v) (m.cut u x)
      (λ stays. alike.cuts t u v x first second)

  is_named : (v x : TermId) → TermsAlike r held v x → (t u : TermId) → TermsAlike r held t u → same_term u x ≡ same_term t v
  is_named v x named t u it = same_term_same r held renaming t u v x it named

  named_is : (v x : TermId) → TermsAlike r held v x → (t u : TermId) → TermsAlike r held t u → same_term x u ≡ same_term v t
  named_is v x named t u it = same_term_same r held renaming v x t u named it

  stands_in : (c d : ℕ) → r.contexts c d ≡ true → (t u : TermId) → TermsAlike r held t u → (place_of m u == d) ≡ (place_of b t == c)
  stands_in c d is t u it = at_same r held renaming (place_of b t) (place_of m u) c d (place_alike r held renaming b m alike t u it) (inr is)

  module _ (ready : InUse r held b m) where
    -- what is the new ephemeral's
    is_new : (c d : ℕ) (s z : Settings) (is : IsTwin r held (add_ephemeral c d s z)) (one other : Chosen) → IsFresh b (one_of (add_ephemeral c d s z)) one
        → IsFresh m (other_of (add_ephemeral c d s z)) other → (t u : TermId) → TermsAlike (renamed r (one_of (add_ephemeral c d s z)) one other) held t u
        → same_term u (Eph other.ephemeral) ≡ same_term t (Eph one.ephemeral)
    is_new c d s z is one other fresh also t u it =
        same_term_same (renamed r (one_of (add_ephemeral c d s z)) one other) held (renaming_after r held renaming b m ready (add_ephemeral c d s z) is one other fresh also)
        t u (Eph one.ephemeral) (Eph other.ephemeral) it (pair_new true one.ephemeral other.ephemeral r.ephemerals refl)

    no_other : {P : Type 0} → false ≡ true → P
    no_other e = absurd (false_not_true e)

    pub rows_after : (twin : Twin) (is : IsTwin r held twin) (one other : Chosen) → IsFresh b (one_of twin) one → IsFresh m (other_of twin) other
        → (t u : TermId) → TermsAlike (renamed r (one_of twin) one other) held t u
        → OptionalRowsAlike (renamed r (one_of twin) one other) t ((effect b (one_of twin) one).row t) ((effect m (other_of twin) other).row u)
    rows_after (add_line c d l s z) is one other fresh also t u it =
        placed_rows (renamed r (one_of (add_line c d l s z)) one other) (renamed_wider r (one_of (add_line c d l s z)) one other) (target (the_context c) one)
        (target (the_context d) other) s z (Line (the_line l)) (Line (the_line l)) (inr (target_renamed r held renaming c d one.context other.context is.0)) is.2 (refl, is.1) t u
        (old_term r held (one_of (add_line c d l s z)) one other t u it (λ e. no_other e))
    rows_after (add_ephemeral c d s z) is one other fresh also t u it =
        where_rows (renamed r (one_of (add_ephemeral c d s z)) one other) t (same_term t (Eph one.ephemeral)) (same_term u (Eph other.ephemeral))
        (is_new c d s z is one other fresh also t u it) (Some (row_at (target (the_context c) one) s Inactive None))
        (Some (row_at (target (the_context d) other) z Inactive None)) (b.row t) (m.row u)
        (λ e. row_alike (renamed r (one_of (add_ephemeral c d s z)) one other) t (target (the_context c) one) (target (the_context d) other) s z Inactive Inactive None None
        (inr (target_renamed r held renaming c d one.context other.context is.0)) is.1.mode
        (settings_more r (renamed r (one_of (add_ephemeral c d s z)) one other) (renamed_wider r (one_of (add_ephemeral c d s z)) one other) s.remote z.remote is.1.remote)
        refl (no_remote (renamed r (one_of (add_ephemeral c d s z)) one other) t))
        (λ old. old_row (renamed r (one_of (add_ephemeral c d s z)) one other) (renamed_wider r (one_of (add_ephemeral c d s z)) one other) t u
        (old_term r held (one_of (add_ephemeral c d s z)) one other t u it (λ e. same_term_turned (Eph one.ephemeral) t ∙ old)))
    rows_after (modify c d v x s z) is one other fresh also t u it =
        placed_rows (renamed r (one_of (modify c d v x s z)) one other) (renamed_wider r (one_of (modify c d v x s z)) one other) c d s z v x
        (places_more r (renamed r (one_of (modify c d v x s z)) one other) (renamed_wider r (one_of (modify c d v x s z)) one other) c d is.0) is.2 is.1 t u
        (old_term r held (one_of (modify c d v x s z)) one other t u it (λ e. no_other e))
    rows_after (move c d v x s z) is one other fresh also t u it =
        placed_rows (renamed r (one_of (move c d v x s z)) one other) (renamed_wider r (one_of (move c d v x s z)) one other) c d s z v x
        (inr is.0) is.2 is.1 t u (old_term r held (one_of (move c d v x s z)) one other t u it (λ e. no_other e))
    rows_after (subtract c d v x) is one other fresh also t u it =
        left_rows (renamed r (one_of (subtract c d v x)) one other) (renamed_wider r (one_of (subtract c d v x)) one other) (λ y. same_term y v) (λ y. same_term y x)
        (is_named v x is.1) t u (old_term r held (one_of (subtract c d v x)) one other t u it (λ e. no_other e))
    rows_after (subtract_all c d) is one other fresh also t u it =
        left_rows (renamed r (one_of (subtract_all c d)) one other) (renamed_wider r (one_of (subtract_all c d)) one other) (λ y. place_of b y == c) (λ y. place_of m y == d)
        (stands_in c d is) t u (old_term r held (one_of (subtract_all c d)) one other t u it (λ e. no_other e))
    rows_after (set_topology c d v x y w topology) is one other fresh also t u it =
        old_row (renamed r (one_of (set_topology c d v x y w topology)) one other) (renamed_wider r (one_of (set_topology c d v x y w topology)) one other) t u
        (old_term r held (one_of (set_topology c d v x y w topology)) one other t u it (λ e. no_other e))

    -- a command that creates no ephemeral
    cuts_kept : (twin : Twin) (is : IsTwin r held twin) (one other : Chosen) → creates_ephemeral (one_of twin) ≡ false → (t u v x : TermId)
        → TermsAlike r held t u → TermsAlike r held v x → (effect m (other_of twin) other).cut u x ≡ (effect b (one_of twin) one).cut t v
    cuts_kept (add_ephemeral c d s z) is one other none t u v x first second = no_other (sym none)
    cuts_kept (move c d w y s z) is one other none t u v x first second = left_cuts (same_term w) (same_term y) (named_is w y is.1) t u v x first second
    cuts_kept (subtract c d w y) is one other none t u v x first second =
        left_cuts (λ k. same_term k w) (λ k. same_term k y) (is_named w y is.1) t u v x first second
    cuts_kept (subtract_all c d) is one other none t u v x first second =
        left_cuts (λ k. place_of b k == c) (λ k. place_of m k == d) (stands_in c d is) t u v x first second
    cuts_kept (set_topology c d w y k i topology) is one other none t u v x first second = rw (
      is_named k i is.2 t u first,
      is_named w y is.1 v x second,
      is_named w y is.1 t u first,
      is_named k i is.2 v x second,
      alike.cuts t u v x first second,
    ) refl
    cuts_kept _ is one other none t u v x first second = alike.cuts t u v x first second

    pub cuts_after : (twin : Twin) (is : IsTwin r held twin) (one other : Chosen) → IsFresh b (one_of twin) one → IsFresh m (other_of twin) other
        → (t u v x : TermId) → TermsAlike (renamed r (one_of twin) one other) held t u → TermsAlike (renamed r (one_of twin) one other) held v x
        → (effect m (other_of twin) other).cut u x ≡ (effect b (one_of twin) one).cut t v
    cuts_after (add_ephemeral c d s z) is one other fresh also t u v x first second =
        where_cuts (same_term (Eph one.ephemeral) t || same_term (Eph one.ephemeral) v) (same_term (Eph other.ephemeral) u || same_term (Eph other.ephemeral) x)
        (both_or (same_term (Eph one.ephemeral) t) (same_term (Eph one.ephemeral) v) (same_term (Eph other.ephemeral) u) (same_term (Eph other.ephemeral) x)
        (turned t u first) (turned v x second)) (b.cut t v) (m.cut u x)
        (λ old. alike.cuts t u v x
        (old_term r held (one_of (add_ephemeral c d s z)) one other t u first (λ e. first_false (same_term (Eph one.ephemeral) t) (same_term (Eph one.ephemeral) v) old))
        (old_term r held (one_of (add_ephemeral c d s z)) one other v x second (λ e. second_false (same_term (Eph one.ephemeral) t) (same_term (Eph one.ephemeral) v) old)))
      where
        turned : (p q : TermId) → TermsAlike (renamed r (one_of (add_ephemeral c d s z)) one other) held p q
            → same_term (Eph other.ephemeral) q ≡ same_term (Eph one.ephemeral) p
        turned p q it =
            same_term_turned (Eph other.ephemeral) q ∙ is_new c d s z is one other fresh also p q it ∙ same_term_turned p (Eph one.ephemeral)
    cuts_after twin is one other fresh also t u v x first second = cuts_kept twin is one other refl t u v x
        (old_term r held (one_of twin) one other t u first (λ e. no_other e)) (old_term r held (one_of twin) one other v x second (λ e. no_other e))
