-- A command of a request is executed, or a code refuses it: which of both is told by what the call's configuration shows of the board, and where
-- identifiers are left no command is refused for want of one.
use Rattle.std.proofs.Common.{◌≡◌, ◌∙◌, ◌+◌, ◌<◌, ◌⊎◌, ℕ, zero, suc, Bool, true, false, Option, Some, None, is_some, refl, sym, ap, subst, arith, inl, inr}
use Rattle.std.specs.Prelude.{◌&&◌, ◌||◌, unwrap_or}
use Rattle.std.proofs.lemmas.Bool.{cases_lt, eqb-true}
use Rattle.mg_names.specs.declared.codes.Code.{Code}
use Rattle.mg_names.specs.declared.codes.Code.TheVariants.{UnknownContext, UnknownTermination, AlreadyInContext, NotInContext, InternalFailure, InsufficientResources}
use Rattle.mg_names.specs.declared.identifiers.TermId.{TermId}
use Rattle.mg_names.specs.declared.identifiers.TermId.TheVariants.{Line, Eph}
use Rattle.mg_model.specs.declared.commands.Command.{Command}
use Rattle.mg_model.specs.declared.commands.Command.TheVariants.{AddLine, AddEphemeral, ModifyLine, ModifyEphemeral, MoveLine, MoveEphemeral, Subtract, SubtractAll, SetTopology}
use Rattle.mg_model.specs.declared.commands.Place.{Place}
use Rattle.mg_model.specs.declared.commands.Place.TheVariants.{NullContext, Context}
use Rattle.mg_model.specs.declared.commands.Termination.{Termination}
use Rattle.mg_model.specs.declared.items.Item.{Item}
use Rattle.mg_model.specs.Accepted.{IsSlot}
use Rattle.mg_model.specs.Board.{Board, ContextExists, exists, place_of}
use Rattle.mg_model.specs.Configuration.{Configuration, is_in}
use Rattle.mg_model.specs.Items.{Applies, Chosen, Done, IsExecuted, IsLegal, IsResult, IsUsedUp, LacksContext, creates_context, creates_ephemeral, effect, is_misplaced, is_taken, lacks_termination, only_if, rank, subtracts}
use Rattle.mg_model.specs.Numbers.{all, choose, null, the_line}
use Rattle.mg_model.specs.Request.{place_known, uses_known}
use Rattle.mg_model.specs.RequestRun.{IsRefusedWith}
use Rattle.mg_model.specs.Script.{Script}
use Rattle.mg_model.proofs.Cases.{and_first, none_is_some, not_both, some_of}
use Rattle.mg_model.proofs.Terminations.{is_in_is, same_term_is}
use Rattle.mg_safety.proofs.Commands.InForce.{context_in_force, owned_in_context, someone_in}
use Rattle.mg_safety.proofs.GoingOn.Searching.{bound_of_slots, listed_below, search_slots}
use Rattle.mg_safety.proofs.GoingOn.Taking.{Remain, not_used_up, taken}
use Rattle.mg_safety.proofs.Invariant.Shown.{AreBuilt, Naming, Shown, context_for, item_for, known_by, place_for, target_for, term_for, term_of}
use Rattle.mg_safety.proofs.Shared.Components.{is_in_self}

abbrev Decided : Type 0 → Type 0
Decided P = P ⊎ (P → ⊥)

turned : {P : Type 0} → Decided P → Decided (P → ⊥)
turned (inl is) = inr (λ never. never is)
turned (inr never) = inl never

-- ---- the first code that applies

abbrev code_at : ℕ → Code
code_at zero = UnknownContext
code_at (suc zero) = UnknownTermination
code_at (suc (suc zero)) = AlreadyInContext
code_at (suc (suc (suc zero))) = NotInContext
code_at (suc (suc (suc (suc zero)))) = InternalFailure
code_at (suc (suc (suc (suc (suc n))))) = InsufficientResources

of_rank : (code : Code) → code_at (rank code) ≡ code
of_rank UnknownContext = refl
of_rank UnknownTermination = refl
of_rank AlreadyInContext = refl
of_rank NotInContext = refl
of_rank InternalFailure = refl
of_rank InsufficientResources = refl

below_six : (code : Code) → rank code < 6
below_six UnknownContext = omega arith
below_six UnknownTermination = omega arith
below_six AlreadyInContext = omega arith
below_six NotInContext = omega arith
below_six InternalFailure = omega arith
below_six InsufficientResources = omega arith

module _ (b : Board) (item : Item) where
  -- none of the first codes applies
  abbrev NoneBefore : ℕ → Type 0
  NoneBefore k = (earlier : Code) → rank earlier < k → Applies b item earlier → ⊥

  none_first : NoneBefore 0
  none_first earlier below applies = absurd (omega (arith, below))

  one_more : (code : Code) → NoneBefore (rank code) → (Applies b item code → ⊥) → NoneBefore (rank code + 1)
  one_more code before never earlier below applies = elim (cases_lt (rank earlier) (rank code)) [
    | inl less ↦ before earlier less applies
    | inr more ↦ (let same : rank earlier ≡ rank code = omega (arith, below, more) in
        never (subst (Applies b item) (sym (of_rank earlier) ∙ ap code_at same ∙ of_rank code) applies))
  ]

  abbrev Outcome : Type 0
  Outcome = IsLegal b item ⊎ ((code : Code) × IsRefusedWith b item None code)

  refused : (code : Code) → NoneBefore (rank code) → Applies b item code → Outcome
  refused code before applies = inr (
    code,
    record {
      may = inl applies;
      first = λ earlier below may. elim may [
        | inl also ↦ before earlier below also
        | inr chosen ↦ none_is_some earlier chosen
      ];
    },
  )

  outcome : Decided (LacksContext b item) → (IsUsedUp b item → ⊥) → Outcome
  outcome lacks enough = by_context lacks
    where
      by_place : (test : Bool) → is_misplaced b item ≡ test → NoneBefore 3 → Outcome
      by_place true e before = refused NotInContext before e
      by_place false e before = inl (λ code. one_more InsufficientResources
          (one_more InternalFailure (one_more NotInContext before (λ is. not_both is e)) (λ never. never)) enough code (below_six code))

      by_taken : (test : Bool) → is_taken b item ≡ test → NoneBefore 2 → Outcome
      by_taken true e before = refused AlreadyInContext before e
      by_taken false e before = by_place (is_misplaced b item) refl (one_more AlreadyInContext before (λ is. not_both is e))

      by_termination : (test : Bool) → lacks_termination b item ≡ test → NoneBefore 1 → Outcome
      by_termination true e before = refused UnknownTermination before e
      by_termination false e before = by_taken (is_taken b item) refl (one_more UnknownTermination before (λ is. not_both is e))

      by_context : Decided (LacksContext b item) → Outcome
      by_context (inl is) = refused UnknownContext none_first is
      by_context (inr never) = by_termination (lacks_termination b item) refl (one_more UnknownContext none_first never)

  -- ---- the result

  -- what the command takes out of its context has numbers below a bound
  record IsBounded : Type 0 where
    most : ℕ
    lines : (n : ℕ) → subtracts b item (Line (the_line n)) ≡ true → n < most
    ephemerals : (n : ℕ) → subtracts b item (Eph n) ≡ true → n < most

  none_leaves : ((u : TermId) → subtracts b item u ≡ false) → IsBounded
  none_leaves none = record {
    most = 0;
    lines = λ n is. absurd (not_both is (none (Line (the_line n))));
    ephemerals = λ n is. absurd (not_both is (none (Eph n)));
  }

  told : IsBounded → (chosen : Chosen) → (done : Done) × IsResult b item chosen done
  told bounded chosen =
      let lines = listed_below (λ n. subtracts b item (Line (the_line n)) && exists b (Line (the_line n))) bounded.most
      (λ n is. bounded.lines n (and_first (subtracts b item (Line (the_line n))) (exists b (Line (the_line n))) is)) in
      let ephemerals = listed_below (λ n. subtracts b item (Eph n) && exists b (Eph n)) bounded.most
      (λ n is. bounded.ephemerals n (and_first (subtracts b item (Eph n)) (exists b (Eph n)) is)) in (
        record {
          context = only_if (creates_context item) chosen.context;
          ephemeral = only_if (creates_ephemeral item) chosen.ephemeral;
          lines = lines.0;
          ephemerals = ephemerals.0;
        },
        record { context = refl; ephemeral = refl; lines = lines.1; ephemerals = ephemerals.1 },
      )

-- ---- a command by its names

abbrev number_in : TermId → ℕ
number_in (Line l) = l.0
number_in (Eph x) = x

abbrev number_of : Option TermId → ℕ
number_of None = 0
number_of (Some u) = number_in u

-- executed, with what is left then
pub record IsDone (b : Board) (item : Item) (wanted : ℕ) : Type 0 where
  pub board : Board
  pub done : Done
  pub ran : IsExecuted b item board done
  pub left : Remain board wanted

module _ (script : Script) (owned : TermId → Bool) (n m : Naming) (b : Board) (c : Configuration) (shown : Shown script owned n b c)
    (built : AreBuilt n m b) where
  -- whether a context that has a name exists
  named_exists : (j x : ℕ) → m.contexts j ≡ Some x → Decided (ContextExists b x)
  named_exists j x bound = by_name (n.contexts j) refl
    where
      real : x ≡ null → ⊥
      real is = let above : 0 < x = (built.context_real j x bound).0.0 in omega (arith, above, is)

      by_name : (o : Option ℕ) → n.contexts j ≡ o → Decided (ContextExists b x)
      by_name None e = inr (built.context_lost j x bound e)
      by_name (Some y) e =
          let force : n.contexts j ≡ Some x = e ∙ sym (built.context j y e) ∙ bound in
          elim (search_slots script (λ t. is_in (c.spot t) j)) [
            | inl found ↦ (let u = owned_in_context script owned n b c shown j x found.0 force found.1 (is_in_is (c.spot found.0) j found.2) in
                inl (real, (u.0, u.2)))
            | inr none ↦ inr (λ there.
                let one = someone_in script owned n b c shown j x force (λ never. never there) in none one.0 one.1 (is_in_self (c.spot one.0) j one.2))
          ]

  context_exists : (j : ℕ) → is_some (m.contexts j) ≡ true → Decided (ContextExists b (context_for m j))
  context_exists j known =
      let x = some_of (m.contexts j) known in
      subst (λ (y : ℕ). Decided (ContextExists b y)) (sym (ap (λ (o : Option ℕ). unwrap_or o all) x.1)) (named_exists j x.0 x.1)

  is_number : (j : ℕ) → is_some (m.contexts j) ≡ true → (0 < context_for m j) × (context_for m j < choose)
  is_number j known =
      let x = some_of (m.contexts j) known in
      subst (λ (y : ℕ). (0 < y) × (y < choose)) (sym (ap (λ (o : Option ℕ). unwrap_or o all) x.1)) (built.context_real j x.0 x.1).0

  lacks_added : (create : Bool) (j : ℕ) → (create || is_some (m.contexts j)) ≡ true
      → Decided ((target_for m create j ≡ choose → ⊥) × (ContextExists b (target_for m create j) → ⊥))
  lacks_added true j known = inr (λ lacks. lacks.0 refl)
  lacks_added false j known = elim (context_exists j known) [
    | inl there ↦ inr (λ lacks. lacks.1 there)
    | inr never ↦ inl ((λ is. let below = (is_number j known).1 in omega (arith, below, is)), never)
  ]

  lacks_place : (place : Place) → place_known (known_by m) place ≡ true → Decided ((place_for m place ≡ null → ⊥) × (ContextExists b (place_for m place) → ⊥))
  lacks_place NullContext known = inr (λ lacks. lacks.0 refl)
  lacks_place (Context j) known = elim (context_exists j known) [
    | inl there ↦ inr (λ lacks. lacks.1 there)
    | inr never ↦ inl ((λ is. let above = (is_number j known).0 in omega (arith, above, is)), never)
  ]

  lacks : (command : Command) → uses_known (known_by m) command ≡ true → Decided (LacksContext b (item_for m command))
  lacks (AddLine create j i o) known = lacks_added create j known
  lacks (AddEphemeral create j k o) known = lacks_added create j (and_first _ _ known)
  lacks (ModifyLine place i o) known = lacks_place place known
  lacks (ModifyEphemeral place k o) known = lacks_place place (and_first _ _ (and_first _ _ known))
  lacks (MoveLine j i o) known = turned (context_exists j known)
  lacks (MoveEphemeral j k o) known = turned (context_exists j (and_first _ _ (and_first _ _ known)))
  lacks (Subtract j t) known = turned (context_exists j (and_first _ _ known))
  lacks (SubtractAll j) known = turned (context_exists j known)
  lacks (SetTopology j t u topology) known = turned (context_exists j (and_first _ _ (and_first _ _ known)))

  -- who stands in a context that exists is the call's
  all_bounded : (j : ℕ) → is_some (m.contexts j) ≡ true → IsLegal b (item_for m (SubtractAll j)) → IsBounded b (item_for m (SubtractAll j))
  all_bounded j known legal = record {
    most = bound.0;
    lines = λ k is. below (Line (the_line k)) (eqb-true (place_of b (Line (the_line k))) (context_for m j) is);
    ephemerals = λ k is. below (Eph k) (eqb-true (place_of b (Eph k)) (context_for m j) is);
  }
    where
      bound : (most : ℕ) × ((t : Termination) → IsSlot script t → number_of (term_of n t) < most)
      bound = bound_of_slots script (λ t. number_of (term_of n t))

      below : (u : TermId) → place_of b u ≡ context_for m j → number_in u < bound.0
      below u at =
          let x = some_of (m.contexts j) known in
          let is : context_for m j ≡ x.0 = ap (λ (o : Option ℕ). unwrap_or o all) x.1 in
          let force = context_in_force n m b built j x.0 x.1 (subst (λ (y : ℕ). (ContextExists b y → ⊥) → ⊥) is (legal UnknownContext)) in
          let its = shown.members j x.0 u force (at ∙ is) in
          subst (λ (o : Option TermId). number_of o < bound.0) its.2 (bound.1 its.0 its.1)

  bounded : (command : Command) → uses_known (known_by m) command ≡ true → IsLegal b (item_for m command) → IsBounded b (item_for m command)
  bounded (AddLine create j i o) known legal = none_leaves b (item_for m (AddLine create j i o)) (λ u. refl)
  bounded (AddEphemeral create j k o) known legal = none_leaves b (item_for m (AddEphemeral create j k o)) (λ u. refl)
  bounded (ModifyLine place i o) known legal = none_leaves b (item_for m (ModifyLine place i o)) (λ u. refl)
  bounded (ModifyEphemeral place k o) known legal = none_leaves b (item_for m (ModifyEphemeral place k o)) (λ u. refl)
  bounded (MoveLine j i o) known legal = none_leaves b (item_for m (MoveLine j i o)) (λ u. refl)
  bounded (MoveEphemeral j k o) known legal = none_leaves b (item_for m (MoveEphemeral j k o)) (λ u. refl)
  bounded (SetTopology j t u topology) known legal = none_leaves b (item_for m (SetTopology j t u topology)) (λ v. refl)
  bounded (SubtractAll j) known legal = all_bounded j known legal
  bounded (Subtract j t) known legal = record {
    most = number_in (term_for m t) + 1;
    lines = λ k is. let same : k ≡ number_in (term_for m t) = ap number_in (same_term_is (Line (the_line k)) (term_for m t) is) in omega (arith, same);
    ephemerals = λ k is. let same : k ≡ number_in (term_for m t) = ap number_in (same_term_is (Eph k) (term_for m t) is) in omega (arith, same);
  }

  -- a command that uses known names is executed, or it is refused
  pub goes_through : (wanted : ℕ) → Remain b (suc wanted) → (command : Command) → uses_known (known_by m) command ≡ true
      → IsDone b (item_for m command) wanted ⊎ ((code : Code) × IsRefusedWith b (item_for m command) None code)
  goes_through wanted left command known =
      elim (outcome b (item_for m command) (lacks command known) (not_used_up b wanted left (item_for m command))) [
        | inl legal ↦ inl (executed legal)
        | inr fails ↦ inr fails
      ]
    where
      executed : IsLegal b (item_for m command) → IsDone b (item_for m command) wanted
      executed legal =
          let it = taken b (item_for m command) wanted left in
          let done = told b (item_for m command) (bounded command known legal) it.chosen in
          record {
            board = effect b (item_for m command) it.chosen;
            done = done.0;
            ran = record { chosen = it.chosen; fresh = it.fresh; legal = legal; effect_is = refl; result = done.1 };
            left = it.left;
          }
