-- The start of a request: no name is stale then, so what the call owns is what its names stand for; and by its names, the two boards are alike as long as the
-- request runs.
use Rattle.std.proofs.Common.{◌≡◌, ◌∙◌, ◌<◌, ◌≤◌, ℕ, Bool, true, length, Option, Some, None, is_some, refl, sym, ap, subst, inl, inr, true≢false, ◌&&◌, ◌⊎◌}
use Rattle.std.proofs.Common.{not, unwrap_or}
use Rattle.mg_merge.proofs.Words.{Agent, Configuration, ContextValue, Eph, Gone, In, IsCommandOf, IsLive, IsScript, IsSlot, Line, Remote, Row, Script, Spot}
use Rattle.mg_merge.proofs.Words.{TermId, Termination, Unset, World, and_first, and_from, and_second, bound_by, built_by, cases_lt, is_free, is_number}
use Rattle.mg_merge.proofs.Words.{none_made, place_in, place_of, remote_in, remote_of, some_is_none, some_of, start_of, state_of, the_line, the_some}
use Rattle.mg_alike.proofs.Words.{BoardsAlike, CallAlike, IsRenaming, OptionalRowsAlike, OptionsAlike, OwnAlike, PlacesAlike, RemotesAlike, Renaming}
use Rattle.mg_alike.proofs.Words.{TermsAlike}
use Rattle.mg_model.specs.declared.commands.Termination.TheVariants as termination
use Rattle.mg_model.specs.declared.components.Remote.TheVariants.{To}
use Rattle.mg_merge.proofs.Commands.IdentifiersLeft.{Remain}
use Rattle.mg_safety.proofs.Events.Others.{created_only, is_call_of}
use Rattle.mg_safety.proofs.Invariant.Shown.{naming, Shown, RemoteReads, IsAccounted, eph_of, number_at, row_on, term_of}
use Rattle.mg_safety.proofs.Invariant.Sound.{IsOfScript, is_call, owned_in}
use Rattle.mg_safety.proofs.Requests.RunKnown.{built_all, built_known, state_is}
use Rattle.mg_safety.proofs.Requests.RunNames.{none_below}
use Rattle.mg_alike.proofs.Commands.Reading.{first_real}
use Rattle.mg_alike.proofs.Commands.Twins.{InUse}
use Rattle.mg_alike.proofs.Requests.Runs.{IsUnderway}
use Rattle.mg_alike.proofs.Shared.Below.{any_below, any_there, any_found, number_is, is_its}

-- what one name stands for in the two worlds
abbrev pub by_names : Script → Agent → Agent → Renaming
by_names script a b = record {
  contexts = λ x y. any_below (λ j. is_number (a.contexts j) x && is_number (b.contexts j) y) (length script.contexts);
  ephemerals = λ x y. any_below (λ k. is_number (a.ephemerals k) x && is_number (b.ephemerals k) y) (length script.ephemerals);
}

-- ---- options

paired_by : (pairs : ℕ → ℕ → Bool) (o p : Option ℕ) (x y : ℕ) → o ≡ Some x → p ≡ Some y → OptionsAlike pairs o p → pairs x y ≡ true
paired_by pairs o p x y first second alike =
    subst (λ (i : Option ℕ). OptionsAlike pairs i (Some y)) first (subst (λ (i : Option ℕ). OptionsAlike pairs o i) second alike)

pub partner : (pairs : ℕ → ℕ → Bool) (o p : Option ℕ) (x : ℕ) → o ≡ Some x → OptionsAlike pairs o p → (y : ℕ) × (p ≡ Some y) × (pairs x y ≡ true)
partner pairs None p x is alike = absurd (some_is_none x (sym is))
partner pairs (Some z) (Some y) x is alike = (y, refl, subst (λ (n : ℕ). pairs n y ≡ true) (the_some z x is) alike)
partner pairs (Some z) None x is alike = absurd alike

pub partner_back : (pairs : ℕ → ℕ → Bool) (o p : Option ℕ) (y : ℕ) → p ≡ Some y → OptionsAlike pairs o p → (x : ℕ) × (o ≡ Some x) × (pairs x y ≡ true)
partner_back pairs o None y is alike = absurd (some_is_none y (sym is))
partner_back pairs (Some x) (Some z) y is alike = (x, refl, subst (λ (n : ℕ). pairs x n ≡ true) (the_some z y is) alike)
partner_back pairs None (Some z) y is alike = absurd alike

none_too : (pairs more : ℕ → ℕ → Bool) (o p : Option ℕ) → o ≡ None → OptionsAlike pairs o p → OptionsAlike more o p
none_too pairs more None None is alike = tt
none_too pairs more (Some x) p is alike = absurd (some_is_none x is)
none_too pairs more None (Some y) is alike = absurd alike

-- a row that is alike by more is alike by what its place and its Remote need
narrow_row : (r small : Renaming) (t : TermId) (o p : Option Row) → OptionalRowsAlike r t o p
    → (PlacesAlike r (place_in o) (place_in p) → PlacesAlike small (place_in o) (place_in p))
    → (RemotesAlike r t (remote_in o) (remote_in p) → RemotesAlike small t (remote_in o) (remote_in p)) → OptionalRowsAlike small t o p
narrow_row r small t None None alike place remote = tt
narrow_row r small t (Some one) (Some other) alike place remote = record { place = place alike.place; mode = alike.mode; remote = remote alike.remote }
narrow_row r small t _ _ alike place remote = absurd alike

module _ (script : Script) (is_script : IsScript script) (w v : World) (call : ℕ) (r : Renaming) (a b : Agent) (alike : CallAlike r w v call a b) (c d : Configuration)
    (shown : Shown script (owned_in w.gateway call) (naming a) w.gateway.board c) (also : Shown script (owned_in v.gateway call) (naming b) v.gateway.board d)
    (of_script : IsOfScript script c) (live : IsLive c) (accounted : IsAccounted w.gateway.board) (accounted_back : IsAccounted v.gateway.board)
    (held_of : (l : ℕ) → is_call (w.gateway.holder l) call ≡ true → (i : ℕ) × (i < length script.lines) × (a.lines i ≡ l)) where
  abbrev small : Renaming
  small = by_names script a b

  abbrev held : ℕ → Bool
  held l = is_call (w.gateway.holder l) call

  -- ---- names

  context_within : (j x : ℕ) → a.contexts j ≡ Some x → j < length script.contexts
  context_within j x e = go (cases_lt j (length script.contexts))
    where
      go : (j < length script.contexts) ⊎ (length script.contexts ≤ j) → j < length script.contexts
      go (inl within) = within
      go (inr past) = absurd (true≢false (sym (ap is_some e) ∙ shown.bound j ∙ ap (λ (value : ContextValue). not (is_free value)) (of_script.context j past)))

  named_context : (j x y : ℕ) → a.contexts j ≡ Some x → b.contexts j ≡ Some y → (by_names script a b).contexts x y ≡ true
  named_context j x y first second =
      any_there (λ (i : ℕ). is_number (a.contexts i) x && is_number (b.contexts i) y) (length script.contexts) j (context_within j x first)
      (and_from (is_number (a.contexts j) x) (is_number (b.contexts j) y) (is_its (a.contexts j) x first) (is_its (b.contexts j) y second))

  named_ephemeral : (k x y : ℕ) → a.ephemerals k ≡ Some x → b.ephemerals k ≡ Some y → (by_names script a b).ephemerals x y ≡ true
  named_ephemeral k x y first second =
      any_there (λ (i : ℕ). is_number (a.ephemerals i) x && is_number (b.ephemerals i) y) (length script.ephemerals) k (shown.ephemeral_slot k x first)
      (and_from (is_number (a.ephemerals k) x) (is_number (b.ephemerals k) y) (is_its (a.ephemerals k) x first) (is_its (b.ephemerals k) y second))

  context_named : (x y : ℕ) → (by_names script a b).contexts x y ≡ true → (j : ℕ) × (a.contexts j ≡ Some x) × (b.contexts j ≡ Some y)
  context_named x y e =
      let j = any_found (λ (i : ℕ). is_number (a.contexts i) x && is_number (b.contexts i) y) (length script.contexts) e in (
        j.0,
        number_is (a.contexts j.0) x (and_first (is_number (a.contexts j.0) x) (is_number (b.contexts j.0) y) j.1),
        number_is (b.contexts j.0) y (and_second (is_number (a.contexts j.0) x) (is_number (b.contexts j.0) y) j.1),
      )

  ephemeral_named : (x y : ℕ) → (by_names script a b).ephemerals x y ≡ true → (k : ℕ) × (a.ephemerals k ≡ Some x) × (b.ephemerals k ≡ Some y)
  ephemeral_named x y e =
      let k = any_found (λ (i : ℕ). is_number (a.ephemerals i) x && is_number (b.ephemerals i) y) (length script.ephemerals) e in (
        k.0,
        number_is (a.ephemerals k.0) x (and_first (is_number (a.ephemerals k.0) x) (is_number (b.ephemerals k.0) y) k.1),
        number_is (b.ephemerals k.0) y (and_second (is_number (a.ephemerals k.0) x) (is_number (b.ephemerals k.0) y) k.1),
      )

  context_there : (x y : ℕ) → (by_names script a b).contexts x y ≡ true → r.contexts x y ≡ true
  context_there x y e =
      let j = context_named x y e in paired_by r.contexts (a.contexts j.0) (b.contexts j.0) x y j.1 j.2 (alike.agents.contexts j.0)

  ephemeral_there : (x y : ℕ) → (by_names script a b).ephemerals x y ≡ true → r.ephemerals x y ≡ true
  ephemeral_there x y e =
      let k = ephemeral_named x y e in paired_by r.ephemerals (a.ephemerals k.0) (b.ephemerals k.0) x y k.1 k.2 (alike.agents.ephemerals k.0)

  pub small_renaming : IsRenaming (by_names script a b)
  small_renaming = record {
    contexts = record {
      onward = λ x y z first second. alike.renaming.contexts.onward x y z (context_there x y first) (context_there x z second);
      back = λ x y z first second. alike.renaming.contexts.back x y z (context_there x z first) (context_there y z second);
    };
    ephemerals = record {
      onward = λ x y z first second. alike.renaming.ephemerals.onward x y z (ephemeral_there x y first) (ephemeral_there x z second);
      back = λ x y z first second. alike.renaming.ephemerals.back x y z (ephemeral_there x z first) (ephemeral_there y z second);
    };
    numbers = λ x y is. alike.renaming.numbers x y (context_there x y is);
  }

  pub small_contexts : (j : ℕ) → OptionsAlike (by_names script a b).contexts (a.contexts j) (b.contexts j)
  small_contexts j = go (a.contexts j) (b.contexts j) refl refl (alike.agents.contexts j)
    where
      go : (o p : Option ℕ) → a.contexts j ≡ o → b.contexts j ≡ p → OptionsAlike r.contexts o p → OptionsAlike (by_names script a b).contexts o p
      go None None first second same = tt
      go (Some x) (Some y) first second same = named_context j x y first second
      go _ _ first second same = absurd same

  pub small_ephemerals : (k : ℕ) → OptionsAlike (by_names script a b).ephemerals (a.ephemerals k) (b.ephemerals k)
  small_ephemerals k = go (a.ephemerals k) (b.ephemerals k) refl refl (alike.agents.ephemerals k)
    where
      go : (o p : Option ℕ) → a.ephemerals k ≡ o → b.ephemerals k ≡ p → OptionsAlike r.ephemerals o p → OptionsAlike (by_names script a b).ephemerals o p
      go None None first second same = tt
      go (Some x) (Some y) first second same = named_ephemeral k x y first second
      go _ _ first second same = absurd same

  -- ---- rows

  place_small : (t : Termination) (u : TermId) → IsSlot script t → term_of (naming a) t ≡ Some u → (q : ℕ) → PlacesAlike r (place_of w.gateway.board u) q
      → PlacesAlike (by_names script a b) (place_of w.gateway.board u) q
  place_small t u slot e q (inl none) = inl none
  place_small t u slot e q (inr is) = go (c.spot t) refl (ap (λ (o : Option TermId). place_in (row_on w.gateway.board o)) (sym e) ∙ shown.place t slot)
    where
      p : ℕ
      p = place_of w.gateway.board u

      none : place_of w.gateway.board u ≡ 0 → PlacesAlike (by_names script a b) (place_of w.gateway.board u) q
      none zeroth = absurd (first_real r held alike.renaming (place_of w.gateway.board u) q is zeroth)

      go : (spot : Spot) → c.spot t ≡ spot → place_of w.gateway.board u ≡ number_at (naming a) (c.spot t) → PlacesAlike (by_names script a b) (place_of w.gateway.board u) q
      go (In j) at reads =
          let bound = some_of (a.contexts j) (shown.in_bound t j slot at) in
          let here : place_of w.gateway.board u ≡ bound.0 = reads ∙ ap (number_at (naming a)) at ∙ ap (λ (o : Option ℕ). unwrap_or o 0) bound.1 in
          let its = partner r.contexts (a.contexts j) (b.contexts j) bound.0 bound.1 (alike.agents.contexts j) in
          let there : q ≡ its.0 = alike.renaming.contexts.onward bound.0 q its.0 (subst (λ (n : ℕ). r.contexts n q ≡ true) here is) its.2 in
          inr (named_context j (place_of w.gateway.board u) q (bound.1 ∙ ap (λ (n : ℕ). Some n) (sym here)) (its.1 ∙ ap (λ (n : ℕ). Some n) (sym there)))
      go _ at reads = none (reads ∙ ap (number_at (naming a)) at)

  remote_small : (k x : ℕ) → a.ephemerals k ≡ Some x → (p : Option ℕ) → OptionsAlike r.ephemerals (remote_of w.gateway.board (Eph x)) p
      → OptionsAlike (by_names script a b).ephemerals (remote_of w.gateway.board (Eph x)) p
  remote_small k x e p same =
      go (c.remote k) refl (subst (λ (o : Option ℕ). RemoteReads w.gateway.board (naming a) (c.remote k) (remote_in (row_on w.gateway.board (eph_of o)))) e (shown.remote k (shown.ephemeral_slot k x e)))
    where
      o : Option ℕ
      o = remote_of w.gateway.board (Eph x)

      go : (remote : Remote) → c.remote k ≡ remote → RemoteReads w.gateway.board (naming a) (c.remote k) (remote_of w.gateway.board (Eph x))
          → OptionsAlike (by_names script a b).ephemerals (remote_of w.gateway.board (Eph x)) p
      go remote is reads = by_remote remote is (subst (λ (s : Remote). RemoteReads w.gateway.board (naming a) s (remote_of w.gateway.board (Eph x))) is reads)
        where
          by_remote : (remote : Remote) → c.remote k ≡ remote → RemoteReads w.gateway.board (naming a) remote (remote_of w.gateway.board (Eph x))
              → OptionsAlike (by_names script a b).ephemerals (remote_of w.gateway.board (Eph x)) p
          by_remote Unset is reads = none_too r.ephemerals (by_names script a b).ephemerals (remote_of w.gateway.board (Eph x)) p reads same
          by_remote Gone is reads = absurd (live.remotes k is)
          by_remote (To i) is reads =
              let its = partner r.ephemerals (remote_of w.gateway.board (Eph x)) p reads.0 reads.1 same in
              let other = partner r.ephemerals (a.ephemerals i) (b.ephemerals i) reads.0 reads.2 (alike.agents.ephemerals i) in
              let there : its.0 ≡ other.0 = alike.renaming.ephemerals.onward reads.0 its.0 other.0 its.2 other.2 in
              rw (reads.1, its.1) (named_ephemeral i reads.0 its.0 reads.2 (other.1 ∙ ap (λ (n : ℕ). Some n) (sym there)))

  created_one : (x : ℕ) → owned_in w.gateway call (Eph x) ≡ true → w.gateway.creator x ≡ Some call
  created_one x owned =
      is_call_of (w.gateway.creator x) call (sym (created_only (is_call (w.gateway.creator x) call) (w.gateway.board.used_ephemeral x)) ∙ owned)

  created_other : (x : ℕ) → owned_in v.gateway call (Eph x) ≡ true → v.gateway.creator x ≡ Some call
  created_other x owned =
      is_call_of (v.gateway.creator x) call (sym (created_only (is_call (v.gateway.creator x) call) (v.gateway.board.used_ephemeral x)) ∙ owned)

  own_pair : (t u : TermId) → TermsAlike (by_names script a b) held t u → OwnAlike r w v call t u
  own_pair (Line l) (Line m) it = (it.0, is_call_of (w.gateway.holder l.0) call it.1)
  own_pair (Eph x) (Eph y) it =
      let k = ephemeral_named x y it in
      (ephemeral_there x y it, created_one x (shown.ephemeral_owned k.0 x k.1), created_other y (also.ephemeral_owned k.0 y k.2))
  own_pair _ _ it = absurd it

  rows_small : (t u : TermId) → TermsAlike (by_names script a b) held t u → OptionalRowsAlike (by_names script a b) t (w.gateway.board.row t) (v.gateway.board.row u)
  rows_small (Line l) (Line m) it =
      let i = held_of l.0 it.1 in
      narrow_row r (by_names script a b) (Line l) (w.gateway.board.row (Line l)) (v.gateway.board.row (Line m)) (alike.rows (Line l) (Line m) (own_pair (Line l) (Line m) it))
      (place_small (termination.Line i.0) (Line l) i.1 (ap (λ (n : ℕ). Some (Line (the_line n))) i.2) (place_of v.gateway.board (Line m))) (λ same. tt)
  rows_small (Eph x) (Eph y) it =
      let k = ephemeral_named x y it in
      narrow_row r (by_names script a b) (Eph x) (w.gateway.board.row (Eph x)) (v.gateway.board.row (Eph y)) (alike.rows (Eph x) (Eph y) (own_pair (Eph x) (Eph y) it))
      (place_small (termination.Ephemeral k.0) (Eph x) (shown.ephemeral_slot k.0 x k.1) (ap eph_of k.1) (place_of v.gateway.board (Eph y)))
      (remote_small k.0 x k.1 (remote_of v.gateway.board (Eph y)))
  rows_small _ _ it = absurd it

  boards_small : BoardsAlike (by_names script a b) held w.gateway.board v.gateway.board
  boards_small = record {
    rows = rows_small;
    cuts = λ t u s x first second. alike.cuts t u s x (own_pair t u first) (own_pair s x second);
  }

  -- ---- who stands in a context of the call

  slot_paired : (s : Termination) (t : TermId) → IsSlot script s → term_of (naming a) s ≡ Some t → (u : TermId) × TermsAlike (by_names script a b) held t u
  slot_paired (termination.Line i) t slot e =
      (Line (the_line (a.lines i)), subst (λ (k : TermId). TermsAlike (by_names script a b) held k (Line (the_line (a.lines i)))) (the_some (Line (the_line (a.lines i))) t e) (refl, shown.line_owned i slot))
  slot_paired (termination.Ephemeral k) t slot e = go (a.ephemerals k) refl
    where
      go : (o : Option ℕ) → a.ephemerals k ≡ o → (u : TermId) × TermsAlike (by_names script a b) held t u
      go None is = absurd (some_is_none t (sym e ∙ ap eph_of is))
      go (Some x) is =
          let its = partner r.ephemerals (a.ephemerals k) (b.ephemerals k) x is (alike.agents.ephemerals k) in
          (Eph its.0, subst (λ (z : TermId). TermsAlike (by_names script a b) held z (Eph its.0)) (the_some (Eph x) t (sym (ap eph_of is) ∙ e)) (named_ephemeral k x its.0 is its.1))

  slot_paired_back : (s : Termination) (u : TermId) → IsSlot script s → term_of (naming b) s ≡ Some u → (t : TermId) × TermsAlike (by_names script a b) held t u
  slot_paired_back (termination.Line i) u slot e = (
    Line (the_line (b.lines i)),
    subst (λ (k : TermId). TermsAlike (by_names script a b) held (Line (the_line (b.lines i))) k) (the_some (Line (the_line (b.lines i))) u e)
        (refl, subst (λ (of : ℕ → ℕ). is_call (w.gateway.holder (of i)) call ≡ true) (sym alike.agents.lines) (shown.line_owned i slot)),
  )
  slot_paired_back (termination.Ephemeral k) u slot e = go (b.ephemerals k) refl
    where
      go : (o : Option ℕ) → b.ephemerals k ≡ o → (t : TermId) × TermsAlike (by_names script a b) held t u
      go None is = absurd (some_is_none u (sym e ∙ ap eph_of is))
      go (Some y) is =
          let its = partner_back r.ephemerals (a.ephemerals k) (b.ephemerals k) y is (alike.agents.ephemerals k) in
          (Eph its.0, subst (λ (z : TermId). TermsAlike (by_names script a b) held (Eph its.0) z) (the_some (Eph y) u (sym (ap eph_of is) ∙ e)) (named_ephemeral k its.0 y its.1 is))

  in_use : InUse (by_names script a b) held w.gateway.board v.gateway.board
  in_use = record {
    members = λ x y is t at.
        let j = context_named x y is in let s = shown.members j.0 x t j.1 at in slot_paired s.0 t s.1 s.2;
    members_back = λ x y is u at.
        let j = context_named x y is in let s = also.members j.0 y u j.2 at in slot_paired_back s.0 u s.1 s.2;
    contexts = λ x y is.
        let j = context_named x y is in ((shown.context_real j.0 x j.1).1, (also.context_real j.0 y j.2).1);
    ephemerals = λ x y is.
        let k = ephemeral_named x y is in
        (accounted.ephemerals x (shown.ephemeral_stands k.0 x k.1), accounted_back.ephemerals y (also.ephemeral_stands k.0 y k.2));
    accounted = accounted;
    accounted_back = accounted_back;
  }

  -- ---- the request begins

  pub starts_alike : (state : ℕ) → Remain w.gateway.board (length (built_by script a state)) → Remain v.gateway.board (length (built_by script a state))
      → IsUnderway script (λ l. is_call (w.gateway.holder l) call) a b (by_names script a b) (start_of w.gateway) (start_of v.gateway) 0 (built_by script a state) none_made
  starts_alike state remain other_remain = record {
    running = record {
      renaming = small_renaming;
      boards = boards_small;
      ready = in_use;
      lines = λ l its. alike.lines l (is_call_of (w.gateway.holder l) call its);
      results = tt;
      notes = refl;
    };
    names = record { lines = alike.agents.lines; contexts = small_contexts; ephemerals = small_ephemerals };
    count = refl;
    other_count = refl;
    below = none_below;
    known = built_known (bound_by a) (state_of script state).commands;
    declared = built_all (IsCommandOf script) (bound_by a) (state_of script state).commands (state_is script is_script state).0;
    remain = remain;
    other_remain = other_remain;
  }
