-- What is known of the context into which a command places its termination, and of the place at which Modify finds one: a context that
-- exists is live in the configuration and something owned stands in it; a created one is fresh.
use Rattle.mg_safety.proofs.Words.{◌≡◌, ◌∙◌, ◌&&◌, ◌<◌, ℕ, true, false, Some, None, is_some, refl, sym, ap, inr, arith, and_from, ◌==◌, unwrap_or, TermId}
use Rattle.mg_safety.proofs.Words.{Place, NullContext, Context, Termination, In, Board, exists, place_of, Configuration, IsWellFormed, is_in, is_live}
use Rattle.mg_safety.proofs.Words.{place_exists, stands_at, choose, all, is_context_number, place_known, Script, IsScript, IsSlot, none_is_some, some_of}
use Rattle.mg_safety.proofs.Words.{Command, where_false, different, Chosen, ContextExists, target, same_itself, subst}
use Rattle.mg_safety.proofs.InvariantWords.{Naming, term_of, Shown, IsAccounted, Owner, owned_at, AreBuilt, known_by, context_for, place_for, IsReady}
use Rattle.mg_safety.proofs.Commands.Binding.{with_context, with_given, with_at_some, with_at_kept, given_new, not_fresh}
use Rattle.mg_safety.proofs.Commands.Carrying.{IsEntered, entered_before}
use Rattle.mg_safety.proofs.Commands.InForce.{MayExist, context_in_force, someone_in, owned_in_context, live_of, in_named, null_named}

-- ---- numbers of contexts

-- a name that commands may use is bound to a number
known_context : (m : Naming) (j : ℕ) → is_some (m.contexts j) ≡ true → (x : ℕ) × (m.contexts j ≡ Some x) × (context_for m j ≡ x)
known_context m j known =
    let x = some_of (m.contexts j) known in
    (x.0, x.1, ap (λ o. unwrap_or o all) x.1)

real_not_null : (x : ℕ) → is_context_number x → x ≡ 0 → ⊥
real_not_null x real null = let positive : 0 < x = real.0 in omega (arith, positive, null)

real_not_choose : (x : ℕ) → is_context_number x → x ≡ choose → ⊥
real_not_choose x real is = let below : x < choose = real.1 in omega (arith, below, is)

-- ---- a context that exists

pub record IsExisting (own : Owner) (n m : Naming) (b : Board) (c : Configuration) (j x : ℕ) : Type 0 where
  pub bound : n.contexts j ≡ Some x
  pub live : is_live (c.context j) ≡ true
  pub entered : IsEntered own n m b b.used_context x

existing_context : (script : Script) → IsScript script → (own : Owner) (n m : Naming) (b : Board) (c : Configuration) (j x : ℕ)
    → Shown script (owned_at own b) n b c → IsWellFormed c → IsAccounted b → AreBuilt n m b → m.contexts j ≡ Some x → MayExist b x
    → IsExisting own n m b c j x
existing_context script is_script own n m b c j x shown well_formed accounted built named may =
    let bound : n.contexts j ≡ Some x = context_in_force n m b built j x named may in
    let one = someone_in script (owned_at own b) n b c shown j x bound may in
    let there = owned_in_context script (owned_at own b) n b c shown j x one.0 bound one.1 one.2 in
    record {
      bound = bound;
      live = live_of script is_script c well_formed j one.0 one.1 one.2;
      entered = entered_before own n m b x there.0 accounted built (real_not_null x (built.context_real j x named).0) there.1 there.2;
    }

-- the context that a command names, by the names that it is built with
module _ (script : Script) (is_script : IsScript script) (own : Owner) (n m : Naming) (b : Board) (c : Configuration) (command : Command)
    (ready : IsReady script own n m b c command) (j : ℕ) (known : is_some (m.contexts j) ≡ true) where
  number : (x : ℕ) × (m.contexts j ≡ Some x) × (context_for m j ≡ x)
  number = known_context m j known

  pub named_existing : MayExist b (context_for m j) → IsExisting own n m b c j (context_for m j)
  named_existing may = subst (IsExisting own n m b c j) (sym number.2) (existing_context script is_script own n m b c j number.0
      ready.shown ready.well_formed ready.accounted ready.built number.1 (subst (MayExist b) number.2 may))

  not_choose : context_for m j ≡ choose → ⊥
  not_choose is = real_not_choose number.0 (ready.built.context_real j number.0 number.1).0 (sym number.2 ∙ is)

  -- an Add by that name goes there
  pub target_existing : (chosen : Chosen) → ((context_for m j ≡ choose → ⊥) × (ContextExists b (context_for m j) → ⊥) → ⊥)
      → IsExisting own n m b c j (target (record { 0 = context_for m j }) chosen)
  target_existing chosen may = subst (IsExisting own n m b c j)
      (sym (where_false (context_for m j == choose) chosen.context (context_for m j) (different (context_for m j) choose not_choose)))
      (named_existing (λ lacks. may (not_choose, lacks)))

-- ---- a context that is created

pub entered_fresh : (own : Owner) (n m : Naming) (b : Board) (j y : ℕ) → AreBuilt n m b → b.used_context y ≡ false
    → IsEntered own (with_context n j y) (with_context m j y) b (with_given b y).used_context y
entered_fresh own n m b j y built fresh = record {
  was_given = given_new y b.used_context;
  in_force = λ i bound lost. with_at_some n.contexts j (Some y) i None ⊥ lost
      (λ same is. none_is_some y (sym is))
      (λ other before. not_fresh n m b j y fresh y
      (built.context_real i y (sym (with_at_kept m.contexts j (Some y) i other) ∙ bound)).1 refl);
  stood = inr fresh;
}

-- ---- the place at which Modify finds a termination

pub modified_place : (script : Script) → IsScript script → (own : Owner) (n m : Naming) (b : Board) (c : Configuration)
    → Shown script (owned_at own b) n b c → IsWellFormed c → AreBuilt n m b → (t : Termination) (u : TermId) → IsSlot script t
    → term_of n t ≡ Some u → exists b u ≡ true → (place : Place) → place_known (known_by m) place ≡ true → place_of b u ≡ place_for m place
    → (place_exists c place && stands_at (c.spot t) place) ≡ true
modified_place script is_script own n m b c shown well_formed built t u slot named stood NullContext known at =
    null_named script (owned_at own b) n b c shown t u slot named stood at
modified_place script is_script own n m b c shown well_formed built t u slot named stood (Context j) known at =
    let x = known_context m j known in
    let there : place_of b u ≡ x.0 = at ∙ x.2 in
    let bound : n.contexts j ≡ Some x.0 =
    context_in_force n m b built j x.0 x.1 (λ none. none (real_not_null x.0 (built.context_real j x.0 x.1).0, (u, there))) in
    let spot : c.spot t ≡ In j = in_named script (owned_at own b) n b c shown t u slot named j x.0 bound there in
    and_from (is_live (c.context j)) (is_in (c.spot t) j) (live_of script is_script c well_formed j t slot spot)
    (ap (λ s. is_in s j) spot ∙ same_itself j)
