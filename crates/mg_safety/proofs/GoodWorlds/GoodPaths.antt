-- Media that starts at a termination that a call names stays at what the call names, and goes there as media goes in the configuration that
-- the gateway shows of the call: each hop, each crossing, and so each path.
use Rattle.mg_safety.proofs.Words.{◌≡◌, ◌∙◌, ℕ, Bool, true, false, List, [], ◌∷◌, Option, Some, None, is_some, refl, sym, ap, subst, arith, true≢false, ◌==◌}
use Rattle.mg_safety.proofs.Words.{◌&&◌, not, IsTrue, unwrap_or, eqb-true, eq-eqb, false_from_ne_true, common_steps, TermId, Eph, Termination, Remote}
use Rattle.mg_safety.proofs.Words.{Unset, Gone, To, Spot, In, Board, same_term, exists, place_of, place_in, mode_of, mode_in, remote_of, remote_in}
use Rattle.mg_safety.proofs.Words.{Configuration, is_same, is_in, is_present, is_to, is_number, passes_in, passes_out, is_shared, Script, IsSlot, all_three}
use Rattle.mg_safety.proofs.Words.{none_is_some, the_some, three_parts, is_same_is, same_term_self, not_both}
use Rattle.mg_model.specs.declared.commands.Termination.TheVariants as termination
use Rattle.mg_model.specs.Media as media
use Rattle.mg_model.specs.Paths.{hops, crosses, goes_over}
use Rattle.mg_safety.proofs.InvariantWords.{Naming, eph_of, term_of, row_on, cut_on, number_at, RemoteSeen, Seen}
use Rattle.mg_safety.proofs.Shared.Sides.{receives_is, sends_is}
use Rattle.mg_safety.proofs.Shared.Components.{eph_is}

-- a slot of the script stands for a termination of the gateway
pub record IsNamed (script : Script) (n : Naming) (u : Termination) (t : TermId) : Type 0 where
  pub slot : IsSlot script u
  pub is : term_of n u ≡ Some t

-- ---- names and numbers

some_is : (o : Option ℕ) (x : ℕ) → is_some o ≡ true → x ≡ unwrap_or o 0 → o ≡ Some x
some_is None x bound e = absurd (true≢false (sym bound))
some_is (Some y) x bound e = ap (λ (z : ℕ). Some z) (sym e)

number_is : (o : Option ℕ) (i : ℕ) → is_number o i ≡ true → o ≡ Some i
number_is None i e = absurd (true≢false (sym e))
number_is (Some j) i e = ap (λ (z : ℕ). Some z) (eqb-true j i e)

-- a slot that stands for an ephemeral is one of an ephemeral
record IsEphemeral (n : Naming) (u : Termination) (x : ℕ) : Type 0 where
  k : ℕ
  slot_is : u ≡ termination.Ephemeral k
  bound : n.ephemerals k ≡ Some x

ephemeral_slot : (n : Naming) (u : Termination) (x : ℕ) → term_of n u ≡ Some (Eph x) → IsEphemeral n u x
ephemeral_slot n (termination.Line i) x e = absurd (cc)
ephemeral_slot n (termination.Ephemeral k) x e =
    let y = eph_is (n.ephemerals k) (Eph x) e in
    let same : y.0 ≡ x = (let one : Eph x ≡ Eph y.0 = y.2 in cc) in
    record { k = k; slot_is = refl; bound = y.1 ∙ ap (λ (z : ℕ). Some z) same }

-- ---- what hops and crossings ask

record HopParts (same : Bool) (p q : ℕ) (inward outward cut : Bool) : Type 0 where
  differ : same ≡ false
  outside : p ≡ 0 → ⊥
  together : p ≡ q
  goes_in : inward ≡ true
  goes_out : outward ≡ true
  not_cut : cut ≡ false

hop_parts : (same : Bool) (p q : ℕ) (inward outward cut : Bool) → IsTrue (not same && (not (p == 0) && p == q) && inward && outward && not cut)
    → HopParts same p q inward outward cut
hop_parts same p q inward outward cut h = record {
  differ = grind (arith, common_steps, h);
  outside = λ e. grind (arith, common_steps, h, e);
  together = grind (arith, common_steps, h);
  goes_in = grind (arith, common_steps, h);
  goes_out = grind (arith, common_steps, h);
  not_cut = grind (arith, common_steps, h);
}

hop_made : (same shared inward outward cut : Bool) → same ≡ false → shared ≡ true → inward ≡ true → outward ≡ true → cut ≡ false
    → IsTrue (not same && shared && inward && outward && not cut)
hop_made same shared inward outward cut a b c d e = rw (a, b, c, d, e) refl

record CrossParts (same first second out back : Bool) : Type 0 where
  differ : same ≡ false
  first_stands : first ≡ true
  second_stands : second ≡ true
  goes_out : out ≡ true
  comes_back : back ≡ true

cross_parts : (same first second out back : Bool) → IsTrue (not same && first && second && out && back) → CrossParts same first second out back
cross_parts same first second out back h = record {
  differ = grind (arith, common_steps, h);
  first_stands = grind (arith, common_steps, h);
  second_stands = grind (arith, common_steps, h);
  goes_out = grind (arith, common_steps, h);
  comes_back = grind (arith, common_steps, h);
}

cross_made : (same first second out back : Bool) → same ≡ false → first ≡ true → second ≡ true → out ≡ true → back ≡ true
    → IsTrue (not same && first && second && out && back)
cross_made same first second out back a b c d e = rw (a, b, c, d, e) refl

hop_starts_outside : (b : Board) (t s : TermId) → IsTrue (media.hops b t s) → place_of b t ≡ 0 → ⊥
hop_starts_outside b t s h =
    (hop_parts (same_term t s) (place_of b t) (place_of b s) (media.receives (mode_of b t)) (media.sends (mode_of b s)) (b.cut t s) h).outside

-- where a path starts stands in a context other than the null context
pub path_starts_outside : (b : Board) (t s : TermId) (crossings : List (ℕ × ℕ)) → IsTrue (media.goes_over b t crossings s) → place_of b t ≡ 0 → ⊥
path_starts_outside b t s [] h = hop_starts_outside b t s h
path_starts_outside b t s (crossing ∷ more) h =
    hop_starts_outside b t (Eph crossing.0)
    (three_parts (media.hops b t (Eph crossing.0)) (media.crosses b crossing.0 crossing.1) (media.goes_over b (Eph crossing.1) more s) h).0

-- ---- what the call names

-- no ephemeral that the call doesn't own names one of the call's that names it
abbrev pub NoStranger : (TermId → Bool) → Board → Type 0
NoStranger owned b =
    (x i : ℕ) → owned (Eph x) ≡ true → exists b (Eph x) ≡ true → exists b (Eph i) ≡ true → (owned (Eph i) ≡ true → ⊥) → remote_of b (Eph x) ≡ Some i
    → remote_of b (Eph i) ≡ Some x → ⊥

module _ (script : Script) (owned : TermId → Bool) (n : Naming) (b : Board) (c : Configuration) (shown : Seen script owned n b c)
    (no_stranger : NoStranger owned b) where
  abbrev Named : Termination → TermId → Type 0
  Named u t = IsNamed script n u t

  -- the context in which a named termination stands is one that the call names
  record IsInside (u : Termination) (t : TermId) : Type 0 where
    j : ℕ
    spot_is : c.spot u ≡ In j
    bound : n.contexts j ≡ Some (place_of b t)

  inside : (u : Termination) (t : TermId) → Named u t → (place_of b t ≡ 0 → ⊥) → IsInside u t
  inside u t named outside = at (c.spot u) refl
    where
      reads : place_of b t ≡ number_at n (c.spot u)
      reads = sym (ap (λ o. place_in (row_on b o)) named.is) ∙ shown.place u named.slot

      at : (spot : Spot) → c.spot u ≡ spot → IsInside u t
      at (In j) e = record { j = j; spot_is = e; bound = some_is (n.contexts j) (place_of b t) (shown.in_bound u j named.slot e) (reads ∙ ap (number_at n) e) }
      at spot e = absurd (outside (reads ∙ ap (number_at n) e))

  unlike : (u v : Termination) (t s : TermId) → Named u t → Named v s → same_term t s ≡ false → is_same u v ≡ false
  unlike u v t s first second differ = false_from_ne_true (is_same u v) (λ e. not_both (same_term_self t)
      (ap (same_term t) (the_some t s (sym first.is ∙ ap (term_of n) (is_same_is u v e) ∙ second.is)) ∙ differ))

  mode_is : (u : Termination) (t : TermId) → Named u t → c.mode u ≡ mode_of b t
  mode_is u t named = shown.mode u named.slot ∙ ap (λ o. mode_in (row_on b o)) named.is

  cut_is : (u v : Termination) (t s : TermId) → Named u t → Named v s → c.cut u v ≡ b.cut t s
  cut_is u v t s first second =
      shown.cut u v first.slot second.slot ∙ ap (λ o. cut_on b o (term_of n v)) first.is ∙ ap (cut_on b (Some t)) second.is

  shared : (u v : Termination) (t s : TermId) → place_of b t ≡ place_of b s → IsInside u t → IsInside v s → is_shared (c.spot u) (c.spot v) ≡ true
  shared u v t s together first second =
      let one : second.j ≡ first.j =
      shown.context_once second.j first.j (place_of b t) (second.bound ∙ ap (λ (x : ℕ). Some x) (sym together)) first.bound in
      ap (λ spot. is_shared spot (c.spot v)) first.spot_is ∙ ap (λ spot. is_in spot first.j) second.spot_is ∙ eq-eqb second.j first.j one

  -- a hop from a slot goes to a slot, and is a hop of the configuration
  record HopsTo (u : Termination) (s : TermId) : Type 0 where
    to : Termination
    named : Named to s
    hop : IsTrue (hops c u to)

  hop : (u : Termination) (t s : TermId) → Named u t → IsTrue (media.hops b t s) → HopsTo u s
  hop u t s named h =
      let p = hop_parts (same_term t s) (place_of b t) (place_of b s) (media.receives (mode_of b t)) (media.sends (mode_of b s)) (b.cut t s) h in
      let first = inside u t named p.outside in
      let member = shown.members u first.j (place_of b t) s named.slot first.spot_is first.bound (sym p.together) in
      let other : Named member.0 s = record { slot = member.1; is = member.2 } in
      let second = inside member.0 s other (λ e. p.outside (p.together ∙ e)) in
      record {
        to = member.0;
        named = other;
        hop = hop_made (is_same u member.0) (is_shared (c.spot u) (c.spot member.0)) (passes_in (c.mode u)) (passes_out (c.mode member.0)) (c.cut u member.0)
            (unlike u member.0 t s named other p.differ) (shared u member.0 t s p.together first second)
            (ap passes_in (mode_is u t named) ∙ (sym (receives_is (mode_of b t)) ∙ p.goes_in))
            (ap passes_out (mode_is member.0 s other) ∙ (sym (sends_is (mode_of b s)) ∙ p.goes_out))
            (cut_is u member.0 t s named other ∙ p.not_cut);
      }

  -- ---- crossings

  -- where the Remote of an ephemeral of the call names one that exists, that is one of the call's
  record NamesOne (k i : ℕ) : Type 0 where
    to : ℕ
    remote_is : c.remote k ≡ To to
    bound : n.ephemerals to ≡ Some i

  names_one : (k x i : ℕ) → n.ephemerals k ≡ Some x → is_number (remote_of b (Eph x)) i ≡ true → exists b (Eph i) ≡ true
      → is_number (remote_of b (Eph i)) x ≡ true → NamesOne k i
  names_one k x i bound names there back =
      at (c.remote k) refl (subst (RemoteSeen n (c.remote k)) set (shown.remote k (shown.ephemeral_slot k x bound)))
    where
      set : remote_in (row_on b (eph_of (n.ephemerals k))) ≡ Some i
      set = ap (λ o. remote_in (row_on b (eph_of o))) bound ∙ number_is (remote_of b (Eph x)) i names

      -- one that it doesn't name it doesn't own
      stranger : ((m : ℕ) → n.ephemerals m ≡ Some i → ⊥) → owned (Eph i) ≡ true → ⊥
      stranger none its = let named = shown.ephemeral_named i its there in none named.0 named.1

      at : (remote : Remote) → c.remote k ≡ remote → RemoteSeen n remote (Some i) → NamesOne k i
      at Unset e reads = absurd (none_is_some i (sym reads))
      at Gone e reads = absurd (no_stranger x i (shown.ephemeral_owned k x bound) (shown.ephemeral_stands k x bound) there
          (stranger (λ m named. reads.2 m (named ∙ reads.1))) (number_is (remote_of b (Eph x)) i names) (number_is (remote_of b (Eph i)) x back))
      at (To to) e reads = record { to = to; remote_is = e; bound = reads.2 ∙ sym reads.1 }

  record CrossesTo (k i : ℕ) : Type 0 where
    to : ℕ
    bound : n.ephemerals to ≡ Some i
    crossing : IsTrue (crosses c k to)

  present : (k x : ℕ) → n.ephemerals k ≡ Some x → exists b (Eph x) ≡ true → is_present (c.spot (termination.Ephemeral k)) ≡ true
  present k x bound there =
      sym (shown.stands (termination.Ephemeral k) (shown.ephemeral_slot k x bound)) ∙ ap (λ o. is_some (row_on b (eph_of o))) bound ∙ there

  to_it : (remote : Remote) (k : ℕ) → remote ≡ To k → is_to remote k ≡ true
  to_it remote k e = ap (λ r. is_to r k) e ∙ eq-eqb k k refl

  cross : (k x i : ℕ) → n.ephemerals k ≡ Some x → IsTrue (media.crosses b x i) → CrossesTo k i
  cross k x i bound h =
      let p = cross_parts (x == i) (exists b (Eph x)) (exists b (Eph i)) (is_number (remote_of b (Eph x)) i) (is_number (remote_of b (Eph i)) x) h in
      let there = names_one k x i bound p.goes_out p.second_stands p.comes_back in
      let back = names_one there.to i x there.bound p.comes_back p.first_stands p.goes_out in
      let home : back.to ≡ k = shown.ephemeral_once back.to k x back.bound bound in
      let apart : k ≡ there.to → ⊥ =
      λ e. true≢false (sym (eq-eqb x i (the_some x i (sym bound ∙ ap n.ephemerals e ∙ there.bound))) ∙ p.differ) in
      record {
        to = there.to;
        bound = there.bound;
        crossing = cross_made (k == there.to) (is_present (c.spot (termination.Ephemeral k))) (is_present (c.spot (termination.Ephemeral there.to)))
            (is_to (c.remote k) there.to) (is_to (c.remote there.to) k)
            (false_from_ne_true (k == there.to) (λ e. apart (eqb-true k there.to e))) (present k x bound p.first_stands)
            (present there.to i there.bound p.second_stands) (to_it (c.remote k) there.to there.remote_is)
            (to_it (c.remote there.to) k (back.remote_is ∙ ap (λ y. To y) home));
      }

  -- ---- paths

  pub record PathTo (u : Termination) (s : TermId) : Type 0 where
    pub to : Termination
    pub named : IsNamed script n to s
    pub crossings : List (ℕ × ℕ)
    pub path : IsTrue (goes_over c u crossings to)

  pub path_shown : (u : Termination) (t s : TermId) (crossings : List (ℕ × ℕ)) → IsNamed script n u t → IsTrue (media.goes_over b t crossings s) → PathTo u s
  path_shown u t s [] named h = let one = hop u t s named h in record { to = one.to; named = one.named; crossings = []; path = one.hop }
  path_shown u t s (crossing ∷ more) named h =
      let p = three_parts (media.hops b t (Eph crossing.0)) (media.crosses b crossing.0 crossing.1) (media.goes_over b (Eph crossing.1) more s) h in
      let first = hop u t (Eph crossing.0) named p.0 in
      let from = ephemeral_slot n first.to crossing.0 first.named.is in
      let crossed = cross from.k crossing.0 crossing.1 from.bound p.1 in
      let next : IsNamed script n (termination.Ephemeral crossed.to) (Eph crossing.1) =
      record { slot = shown.ephemeral_slot crossed.to crossing.1 crossed.bound; is = ap eph_of crossed.bound } in
      let rest = path_shown (termination.Ephemeral crossed.to) (Eph crossing.1) s more next p.2 in
      record {
        to = rest.to;
        named = rest.named;
        crossings = (from.k, crossed.to) ∷ rest.crossings;
        path = all_three (hops c u (termination.Ephemeral from.k)) (crosses c from.k crossed.to)
            (goes_over c (termination.Ephemeral crossed.to) rest.crossings rest.to)
            (subst (λ v. IsTrue (hops c u v)) from.slot_is first.hop) crossed.crossing rest.path;
      }
