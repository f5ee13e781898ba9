-- Topology carries over: the pair is cut in the configuration as on the board, and nothing else changes.
use Rattle.mg_safety.proofs.Words.{◌≡◌, ◌∙◌, ℕ, Bool, true, false, Option, Some, None, is_some, refl, sym, ap, subst, inl, true≢false, ◌==◌, ◌&&◌, ◌||◌, not}
use Rattle.mg_safety.proofs.Words.{if◌then◌else◌, unwrap_or, eqb-true, and_parts, and_from, or_left, or_right, false_from_ne_true, true_from_ne_false}
use Rattle.mg_safety.proofs.Words.{UnknownContext, UnknownTermination, NotInContext, TermId, Topology, all, SetTopology, Termination, Board, exists, place_of}
use Rattle.mg_safety.proofs.Words.{same_term, Configuration, is_same, is_in, is_live, with_pair, cuts_forward, cuts_backward, with_cut, first_receives}
use Rattle.mg_safety.proofs.Words.{termination_known, Script, IsSlot, not_both, same_test, some_is_none, some_of, the_some, is_same_is, is_same_self}
use Rattle.mg_safety.proofs.Words.{same_term_is, same_term_self}
use Rattle.mg_safety.proofs.InvariantWords.{IsCarried, IsCarriedOver, Naming, Shown, Owner, owned_at, cut_on, term_of, known_by, context_for, term_for}
use Rattle.mg_safety.proofs.InvariantWords.{ChangesOwned, IsAccounted, AreBuilt}
use Rattle.mg_safety.proofs.Shared.Sides.{forward_is, backward_is}
use Rattle.mg_safety.proofs.Shared.Components.{is_in_self}
use Rattle.mg_safety.proofs.Commands.InForce.{MayExist, names_once, in_named, context_in_force, live_context, term_in_force}
use Rattle.mg_safety.proofs.Events.Others.{name_owned}
use Rattle.mg_safety.proofs.Shared.ShownParts.{shown_with}
use Rattle.mg_safety.proofs.Commands.Carrying.{owned_given}

-- ---- the pair

-- names are one where they stand for one termination
pub same_name : (script : Script) (owned : TermId → Bool) (n : Naming) (b : Board) (c : Configuration) → Shown script owned n b c
    → (t u : Termination) → IsSlot script t → IsSlot script u → (v w : TermId) → term_of n t ≡ Some v → term_of n u ≡ Some w
    → is_same t u ≡ same_term v w
same_name script owned n b c shown t u slot also v w e f = same_test (is_same t u) (same_term v w)
    (λ one. ap (same_term v) (the_some w v (sym f ∙ ap (term_of n) (sym (is_same_is t u one)) ∙ e)) ∙ same_term_self v)
    (λ one. ap (is_same t) (sym (names_once script owned n b c shown t u slot also v e (f ∙ ap (λ x. Some x) (sym (same_term_is v w one))))) ∙ is_same_self t)

not_named : (n : Naming) (t u : Termination) (w : TermId) → term_of n t ≡ None → term_of n u ≡ Some w → is_same t u ≡ false
not_named n t u w e f = false_from_ne_true (is_same t u) (λ one. some_is_none w (sym f ∙ ap (term_of n) (sym (is_same_is t u one)) ∙ e))

-- the cuts of a pair that is set
abbrev set_both : Board → TermId → TermId → Bool → Bool → Board
set_both b v w forward backward = record b { cut = with_cut (with_cut b.cut v w forward) w v backward }

first_not : (p q : Bool) (x y : Bool) → p ≡ false → (if p && q then x else y) ≡ y
first_not p q x y e = rw e refl

second_not : (p q : Bool) (x y : Bool) → q ≡ false → (if p && q then x else y) ≡ y
second_not true q x y e = rw e refl
second_not false q x y e = refl

pair_after : (script : Script) (owned : TermId → Bool) (n : Naming) (b : Board) (c : Configuration) → Shown script owned n b c
    → (t u : Termination) → IsSlot script t → IsSlot script u → (v w : TermId) → term_of n t ≡ Some v → term_of n u ≡ Some w
    → (forward backward : Bool) (x y : Termination) → IsSlot script x → IsSlot script y
    → with_pair (with_pair c.cut t u forward) u t backward x y ≡ cut_on (set_both b v w forward backward) (term_of n x) (term_of n y)
pair_after script owned n b c shown t u slot also v w e f forward backward x y one other =
    go (term_of n x) (term_of n y) refl refl (shown.cut x y one other)
  where
    go : (o p : Option TermId) → term_of n x ≡ o → term_of n y ≡ p → c.cut x y ≡ cut_on b o p
        → with_pair (with_pair c.cut t u forward) u t backward x y ≡ cut_on (set_both b v w forward backward) o p
    go None p is and cut =
        first_not (is_same x u) (is_same y t) backward (with_pair c.cut t u forward x y) (not_named n x u w is f)
        ∙ first_not (is_same x t) (is_same y u) forward (c.cut x y) (not_named n x t v is e) ∙ cut
    go (Some a) None is and cut =
        second_not (is_same x u) (is_same y t) backward (with_pair c.cut t u forward x y) (not_named n y t v and e)
        ∙ second_not (is_same x t) (is_same y u) forward (c.cut x y) (not_named n y u w and f) ∙ cut
    go (Some a) (Some d) is and cut =
        rw (
          same_name script owned n b c shown x u one also a w is f,
          same_name script owned n b c shown y t other slot d v and e,
          same_name script owned n b c shown x t one slot a v is e,
          same_name script owned n b c shown y u other also d w and f,
          cut,
        ) refl

abbrev with_cuts : Configuration → Termination → Termination → Bool → Bool → Configuration
with_cuts c t u forward backward = record c { cut = with_pair (with_pair c.cut t u forward) u t backward }

same_owner : (own : Owner) (b : Board) (v w : TermId) (forward backward : Bool) (t : TermId)
    → owned_at own (set_both b v w forward backward) t ≡ owned_at own b t
same_owner own b v w forward backward = owned_given own b (set_both b v w forward backward) (λ x. refl)

shown_after : (script : Script) (own : Owner) (n : Naming) (b : Board) (c : Configuration) → Shown script (owned_at own b) n b c
    → (t u : Termination) → IsSlot script t → IsSlot script u → (v w : TermId) → term_of n t ≡ Some v → term_of n u ≡ Some w
    → (forward backward : Bool)
    → Shown script (owned_at own (set_both b v w forward backward)) n (set_both b v w forward backward) (with_cuts c t u forward backward)
shown_after script own n b c shown t u slot also v w e f forward backward =
    shown_with script (owned_at own b) (owned_at own (set_both b v w forward backward)) n b c (same_owner own b v w forward backward)
    (set_both b v w forward backward).cut c.state c.link c.context (with_cuts c t u forward backward).cut (λ j. refl)
    (pair_after script (owned_at own b) n b c shown t u slot also v w e f forward backward) shown

accounted_after : (b : Board) (v w : TermId) (forward backward : Bool) → IsAccounted b → IsAccounted (set_both b v w forward backward)
accounted_after b v w forward backward accounted = record { ephemerals = accounted.ephemerals; contexts = accounted.contexts }

built_names : (n m : Naming) (b : Board) (v w : TermId) (forward backward : Bool) → AreBuilt n m b → AreBuilt n m (set_both b v w forward backward)
built_names n m b v w forward backward built = record {
  lines = built.lines;
  context = built.context;
  context_lost = built.context_lost;
  context_real = built.context_real;
  ephemeral = built.ephemeral;
  ephemeral_lost = built.ephemeral_lost;
  ephemeral_given = built.ephemeral_given;
}

cut_unset : (own : Owner) (b : Board) (v w : TermId) (forward backward : Bool) → owned_at own b v ≡ true → owned_at own b w ≡ true
    → (x y : TermId) → owned_at own b x ≡ false → (set_both b v w forward backward).cut x y ≡ b.cut x y
cut_unset own b v w forward backward first second x y other =
    first_not (same_term x w) (same_term y v) backward (with_cut b.cut v w forward x y) (apart w second)
    ∙ first_not (same_term x v) (same_term y w) forward (b.cut x y) (apart v first)
  where
    apart : (t : TermId) → owned_at own b t ≡ true → same_term x t ≡ false
    apart t mine = false_from_ne_true (same_term x t) (λ e. not_both mine (ap (owned_at own b) (sym (same_term_is x t e)) ∙ other))

changes_after : (own : Owner) (b : Board) (v w : TermId) (forward backward : Bool) → owned_at own b v ≡ true → owned_at own b w ≡ true
    → ChangesOwned own b (set_both b v w forward backward)
changes_after own b v w forward backward first second = record {
  row = λ t other. refl;
  cut = λ t u other also. cut_unset own b v w forward backward first second t u (sym (same_owner own b v w forward backward t) ∙ other);
  used_context = λ x is. is;
  used_ephemeral = λ x is. is;
  place = λ t mine away. inl (t, sym (same_owner own b v w forward backward t) ∙ mine, refl);
  line = λ l. refl;
  ephemeral = λ x is. inl is;
}

-- ---- the command

pub topology_carried : (j : ℕ) (t u : Termination) (topology : Topology) → IsCarriedOver (SetTopology j t u topology)
topology_carried j t u topology script ok own n m b c after done ready executed =
    let known = and_parts (is_some (m.contexts j) && termination_known (known_by m) t) (termination_known (known_by m) u) ready.known in
    let both = and_parts (is_some (m.contexts j)) (termination_known (known_by m) t) known.0 in
    let given = some_of (m.contexts j) both.0 in
    let made : m.contexts j ≡ Some (context_for m j) = given.1 ∙ ap (λ o. Some (unwrap_or o all)) (sym given.1) in
    let v : TermId = term_for m t in
    let w : TermId = term_for m u in
    let stands : exists b v ≡ true = true_from_ne_false (exists b v)
    (λ e. executed.legal UnknownTermination (or_left (not (exists b v)) (not (exists b w)) (ap not e))) in
    let stands_also : exists b w ≡ true = true_from_ne_false (exists b w)
    (λ e. executed.legal UnknownTermination (or_right (not (exists b v)) (not (exists b w)) (ap not e))) in
    let here : Bool = place_of b v == context_for m j in
    let here_also : Bool = place_of b w == context_for m j in
    let at : place_of b v ≡ context_for m j = eqb-true (place_of b v) (context_for m j) (true_from_ne_false here
    (λ e. executed.legal NotInContext (or_left (not here) (not here_also || same_term v w) (ap not e)))) in
    let at_also : place_of b w ≡ context_for m j = eqb-true (place_of b w) (context_for m j) (true_from_ne_false here_also
    (λ e. executed.legal NotInContext (or_right (not here) (not here_also || same_term v w) (or_left (not here_also) (same_term v w) (ap not e))))) in
    let differ : same_term v w ≡ false = false_from_ne_true (same_term v w)
    (λ e. executed.legal NotInContext (or_right (not here) (not here_also || same_term v w) (or_right (not here_also) (same_term v w) e))) in
    let named : term_of n t ≡ Some v = term_in_force n m b ready.built t both.1 stands in
    let named_also : term_of n u ≡ Some w = term_in_force n m b ready.built u known.1 stands_also in
    let context : MayExist b (context_for m j) = executed.legal UnknownContext in
    let bound : n.contexts j ≡ Some (context_for m j) = context_in_force n m b ready.built j (context_for m j) made context in
    let owned : TermId → Bool = owned_at own b in
    let slot = ready.declared.1 in
    let slot_also = ready.declared.2 in
    let mine : owned v ≡ true = name_owned script owned n ready.shown.line_owned ready.shown.ephemeral_owned t slot v named in
    let mine_also : owned w ≡ true = name_owned script owned n ready.shown.line_owned ready.shown.ephemeral_owned u slot_also w named_also in
    let cuts : after ≡ set_both b v w (cuts_forward topology) (cuts_backward topology) = executed.effect_is
    ∙ ap (λ forward. set_both b v w forward (not (first_receives topology))) (forward_is topology)
    ∙ ap (set_both b v w (cuts_forward topology)) (backward_is topology) in
    subst (λ x. IsCarried script own n m b c (SetTopology j t u topology) x done) (sym cuts) (record {
      legal = and_from (is_live (c.context j) && is_in (c.spot t) j && is_in (c.spot u) j) (not (is_same t u))
          (and_from (is_live (c.context j) && is_in (c.spot t) j) (is_in (c.spot u) j)
          (and_from (is_live (c.context j)) (is_in (c.spot t) j)
          (live_context script ok owned n b c ready.shown ready.well_formed j (context_for m j) bound context)
          (is_in_self (c.spot t) j (in_named script owned n b c ready.shown t v slot named j (context_for m j) bound at)))
          (is_in_self (c.spot u) j (in_named script owned n b c ready.shown u w slot_also named_also j (context_for m j) bound at_also)))
          (ap not (same_name script owned n b c ready.shown t u slot slot_also v w named named_also ∙ differ));
      shown = shown_after script own n b c ready.shown t u slot slot_also v w named named_also (cuts_forward topology) (cuts_backward topology);
      accounted = accounted_after b v w (cuts_forward topology) (cuts_backward topology) ready.accounted;
      built = built_names n m b v w (cuts_forward topology) (cuts_backward topology) ready.built;
      changes = changes_after own b v w (cuts_forward topology) (cuts_backward topology) mine mine_also;
      leaving = λ x e. absurd (true≢false (sym e));
    })
