-- The two forms of Subtract carry over: a termination leaves its context, and all of a context do.
use Rattle.mg_safety.proofs.Words.{◌≡◌, ◌∙◌, ℕ, Bool, true, false, List, Option, Some, None, is_some, refl, sym, ap, subst, ◌==◌, ◌&&◌, not, if◌then◌else◌}
use Rattle.mg_safety.proofs.Words.{unwrap_or, eqb-true, eq-eqb, and_parts, and_from, true_from_ne_false, UnknownContext, UnknownTermination, NotInContext}
use Rattle.mg_safety.proofs.Words.{ContextValue, Free, TermId, Eph, all, Command, Subtract, SubtractAll, Termination, In, is_listed, Board, exists, place_of}
use Rattle.mg_safety.proofs.Words.{same_term, ContextExists, with_at, Configuration, is_same, is_in, is_free, is_live, is_legal, effect, Done, Lists, subtracts}
use Rattle.mg_safety.proofs.Words.{without, termination_known, Script, IsSlot, at_another, not_both, same_test, where_false, some_is_none, some_of, the_some}
use Rattle.mg_safety.proofs.Words.{is_same_is, is_same_self, same_term_is, same_term_self, same_turned}
use Rattle.mg_model.specs.declared.commands.Termination.TheVariants as termination
use Rattle.mg_safety.proofs.InvariantWords.{IsReady, IsCarried, IsCarriedOver, Naming, Shown, Owner, owned_at, term_of, eph_of, known_by, context_for, term_for}
use Rattle.mg_safety.proofs.InvariantWords.{item_for, named_after, built_after}
use Rattle.mg_safety.proofs.Shared.Components.{is_in_self, listed_test, and_true}
use Rattle.mg_safety.proofs.Commands.InForce.{MayExist, names_once, in_named, same_place, context_in_force, live_context, term_in_force}
use Rattle.mg_safety.proofs.Commands.Leaving.{Leaves, names_left, configuration_left, shown_left, stays_bound}
use Rattle.mg_safety.proofs.Commands.LeavingChanges.{accounted_left, built_left, leaving_owned, changes_left}

-- what a command carries over by which terminations leave
carried_left : (script : Script) (own : Owner) (n m : Naming) (contexts ephemerals : ℕ → Option ℕ) (b : Board) (c : Configuration)
    (left : Termination → Bool) (values : ℕ → ContextValue) (command : Command) (done : Done) → IsReady script own n m b c command
    → Leaves script n contexts ephemerals b c (subtracts b (item_for m command)) left values → is_legal c command ≡ true
    → named_after n command done ≡ names_left n contexts ephemerals → built_after m command done ≡ m
    → effect script c command ≡ configuration_left c left values
    → IsCarried script own n m b c command (without b (subtracts b (item_for m command))) done
carried_left script own n m contexts ephemerals b c left values command done ready leaving legal named built configured =
    let gone : TermId → Bool = subtracts b (item_for m command) in
    record {
      legal = legal;
      shown = rw (named, configured) (shown_left script own n contexts ephemerals b c gone left values ready.shown leaving ready.accounted);
      accounted = accounted_left b gone ready.accounted;
      built = rw (named, built) (built_left script own n contexts ephemerals b c gone left values ready.shown leaving m ready.built);
      changes = changes_left script own n contexts ephemerals b c gone left values ready.shown leaving;
      leaving = leaving_owned script own n contexts ephemerals b c gone left values ready.shown leaving;
    }

-- ---- one termination

one_leaves : (script : Script) (owned : TermId → Bool) (n : Naming) (b : Board) (c : Configuration) → Shown script owned n b c
    → (t : Termination) → IsSlot script t → (v : TermId) → term_of n t ≡ Some v → (ephemerals : ℕ → Option ℕ)
    → ((k : ℕ) → ephemerals k ≡ (if is_same t (termination.Ephemeral k) then None else n.ephemerals k))
    → Leaves script n n.contexts ephemerals b c (λ u. same_term u v) (is_same t) c.context
one_leaves script owned n b c shown t slot v named ephemerals unbound = record {
  agree = λ u also w e. same_test (same_term w v) (is_same t u)
      (λ one. ap (is_same t) (sym (names_once script owned n b c shown t u slot also v named (e ∙ ap (λ x. Some x) (same_term_is w v one)))) ∙ is_same_self t)
      (λ one. ap (λ x. same_term x v) (the_some w v (sym e ∙ ap (term_of n) (sym (is_same_is t u one)) ∙ named)) ∙ same_term_self v);
  slots = λ w leaving. (t, slot, named ∙ ap (λ x. Some x) (sym (same_term_is w v leaving)));
  unbound = unbound;
  stay_bound = λ j x is. is;
  in_use = λ u j also stays is. refl;
  bound = shown.bound;
  dropped = λ j x w is lost stays at. some_is_none x (sym is ∙ lost);
}

abbrev ephemerals_left : Naming → Termination → ℕ → Option ℕ
ephemerals_left n (termination.Line i) = n.ephemerals
ephemerals_left n (termination.Ephemeral k) = with_at n.ephemerals k None

unbound_left : (n : Naming) (t : Termination) (k : ℕ)
    → ephemerals_left n t k ≡ (if is_same t (termination.Ephemeral k) then None else n.ephemerals k)
unbound_left n (termination.Line i) k = refl
unbound_left n (termination.Ephemeral i) k = ap (λ p. if p then None else n.ephemerals k) (same_turned k i)

named_left : (n : Naming) (j : ℕ) (t : Termination) (done : Done)
    → named_after n (Subtract j t) done ≡ names_left n n.contexts (ephemerals_left n t)
named_left n j (termination.Line i) done = refl
named_left n j (termination.Ephemeral k) done = refl

pub subtract_carried : (j : ℕ) (t : Termination) → IsCarriedOver (Subtract j t)
subtract_carried j t script ok own n m b c after done ready executed =
    let known = and_parts (is_some (m.contexts j)) (termination_known (known_by m) t) ready.known in
    let given = some_of (m.contexts j) known.0 in
    let is : context_for m j ≡ given.0 = ap (λ o. unwrap_or o all) given.1 in
    let stands : exists b (term_for m t) ≡ true =
    true_from_ne_false (exists b (term_for m t)) (λ e. executed.legal UnknownTermination (ap not e)) in
    let named : term_of n t ≡ Some (term_for m t) = term_in_force n m b ready.built t known.1 stands in
    let context : MayExist b given.0 =
    λ none. executed.legal UnknownContext (λ real. none (subst (ContextExists b) is real)) in
    let bound : n.contexts j ≡ Some given.0 = context_in_force n m b ready.built j given.0 given.1 context in
    let at : place_of b (term_for m t) ≡ given.0 = eqb-true (place_of b (term_for m t)) (context_for m j)
    (true_from_ne_false (place_of b (term_for m t) == context_for m j) (λ e. executed.legal NotInContext (ap not e))) ∙ is in
    let legal : is_legal c (Subtract j t) ≡ true = and_from (is_live (c.context j)) (is_in (c.spot t) j)
    (live_context script ok (owned_at own b) n b c ready.shown ready.well_formed j given.0 bound context)
    (is_in_self (c.spot t) j (in_named script (owned_at own b) n b c ready.shown t (term_for m t) ready.declared.1 named j given.0 bound at)) in
    subst (λ x. IsCarried script own n m b c (Subtract j t) x done) (sym executed.effect_is)
    (carried_left script own n m n.contexts (ephemerals_left n t) b c (is_same t) c.context (Subtract j t) done ready
    (one_leaves script (owned_at own b) n b c ready.shown t ready.declared.1 (term_for m t) named (ephemerals_left n t) (unbound_left n t))
    legal (named_left n j t done) refl refl)

-- ---- all terminations of a context

if_none : (p : Bool) → (if◌then◌else◌ {A = Option ℕ} p None None) ≡ None
if_none true = refl
if_none false = refl

-- the ephemerals that the result lists are those that stood in the context
listed_stood : (script : Script) (owned : TermId → Bool) (n : Naming) (b : Board) (c : Configuration) → Shown script owned n b c
    → (j x : ℕ) → n.contexts j ≡ Some x → (numbers : List ℕ) → Lists (λ y. (place_of b (Eph y) == x) && exists b (Eph y)) numbers
    → (k y : ℕ) → n.ephemerals k ≡ Some y → is_listed numbers (Some y) ≡ is_in (c.spot (termination.Ephemeral k)) j
listed_stood script owned n b c shown j x bound numbers lists k y is =
    listed_test (λ z. (place_of b (Eph z) == x) && exists b (Eph z)) numbers lists y
    ∙ and_true (place_of b (Eph y) == x) (exists b (Eph y)) (shown.ephemeral_stands k y is)
    ∙ same_place script owned n b c shown j x bound (termination.Ephemeral k) (shown.ephemeral_slot k y is) (Eph y) (ap eph_of is)

all_leave : (script : Script) (owned : TermId → Bool) (n : Naming) (b : Board) (c : Configuration) → Shown script owned n b c
    → (j x : ℕ) → n.contexts j ≡ Some x → (numbers : List ℕ) → Lists (λ y. (place_of b (Eph y) == x) && exists b (Eph y)) numbers
    → Leaves script n (with_at n.contexts j None) (λ k. if is_listed numbers (n.ephemerals k) then None else n.ephemerals k) b c
    (λ v. place_of b v == x) (λ u. is_in (c.spot u) j) (with_at c.context j Free)
all_leave script owned n b c shown j x bound numbers lists = record {
  agree = same_place script owned n b c shown j x bound;
  slots = λ v leaving. shown.members j x v bound (eqb-true (place_of b v) x leaving);
  unbound = λ k. unbound k (n.ephemerals k) refl;
  stay_bound = λ i y is. (stays_bound (i == j) (n.contexts i) (with_at n.contexts j None i) y refl is).1;
  in_use = λ u i slot stays is. at_another j i None (n.contexts i) (λ e. not_both (is_in_self (c.spot u) j (is ∙ ap (λ y. In y) e)) stays);
  bound = λ i. values i (i == j);
  dropped = λ i y v is lost stays at. lose i y v is lost stays at (i == j) refl;
}
  where
    unbound : (k : ℕ) (o : Option ℕ) → n.ephemerals k ≡ o
        → (if is_listed numbers o then None else o) ≡ (if is_in (c.spot (termination.Ephemeral k)) j then None else o)
    unbound k None is = if_none (is_listed numbers None) ∙ sym (if_none (is_in (c.spot (termination.Ephemeral k)) j))
    unbound k (Some y) is = ap (λ p. if p then None else Some y) (listed_stood script owned n b c shown j x bound numbers lists k y is)

    values : (i : ℕ) (p : Bool) → is_some (if p then None else n.contexts i) ≡ not (is_free (if p then Free else c.context i))
    values i true = refl
    values i false = shown.bound i

    lose : (i y : ℕ) (v : TermId) → n.contexts i ≡ Some y → with_at n.contexts j None i ≡ None → (place_of b v == x) ≡ false
        → place_of b v ≡ y → (p : Bool) → (i == j) ≡ p → ⊥
    lose i y v is lost stays at true e =
        not_both (eq-eqb (place_of b v) x (at ∙ the_some y x (sym is ∙ ap n.contexts (eqb-true i j e) ∙ bound))) stays
    lose i y v is lost stays at false e = some_is_none y (sym is ∙ sym (where_false (i == j) None (n.contexts i) e) ∙ lost)

pub subtract_all_carried : (j : ℕ) → IsCarriedOver (SubtractAll j)
subtract_all_carried j script ok own n m b c after done ready executed =
    let given = some_of (m.contexts j) ready.known in
    let is : context_for m j ≡ given.0 = ap (λ o. unwrap_or o all) given.1 in
    let made : m.contexts j ≡ Some (context_for m j) = given.1 ∙ ap (λ x. Some x) (sym is) in
    let context : MayExist b (context_for m j) = executed.legal UnknownContext in
    let bound : n.contexts j ≡ Some (context_for m j) = context_in_force n m b ready.built j (context_for m j) made context in
    subst (λ x. IsCarried script own n m b c (SubtractAll j) x done) (sym executed.effect_is)
    (carried_left script own n m (with_at n.contexts j None) (λ k. if is_listed done.ephemerals (n.ephemerals k) then None else n.ephemerals k) b c
    (λ u. is_in (c.spot u) j) (with_at c.context j Free) (SubtractAll j) done ready
    (all_leave script (owned_at own b) n b c ready.shown j (context_for m j) bound done.ephemerals executed.result.ephemerals)
    (live_context script ok (owned_at own b) n b c ready.shown ready.well_formed j (context_for m j) bound context) refl refl refl)
