-- The names that a built request may use: they are those that its commands are built with, at each place; and what was kept of a state's
-- commands is as declared, creates no name twice, and creates names that were unbound.
use Rattle.mg_safety.proofs.Words.{◌≡◌, ◌∙◌, ℕ, Bool, true, false, List, [], ◌∷◌, Option, Some, None, is_some, refl, sym, ap, inl, inr, zero, suc, fun_ext}
use Rattle.mg_safety.proofs.Words.{and_from, All-nil, All-cons, All-head, All-tail, ◌==◌, not, if◌then◌else◌, unwrap_or, slice_get, All, list_all, TermId}
use Rattle.mg_safety.proofs.Words.{Command, AddLine, AddEphemeral, Agent, bound_by, bound_if, Board, Configuration, is_present, is_free, Done, IsExecuted}
use Rattle.mg_safety.proofs.Words.{bound_names, Names, uses_known, with_name, names_after, created_context, created_ephemeral, built, Script, State, state_of}
use Rattle.mg_safety.proofs.Words.{no_state, IsScript, IsCommandOf, IsStateOf, creates_apart, create_once, and_first, and_second, by_test, none_is_some}
use Rattle.mg_model.specs.declared.commands.Termination.TheVariants as termination
use Rattle.mg_safety.proofs.InvariantWords.{Naming, naming, Seen, known_by, item_for, built_after, eph_of, row_on, IsOfScript}
use Rattle.mg_safety.proofs.Certificate.Declared.{slot_or_not}

-- ---- what a command creates is in its result

pub record IsBinding (command : Command) (done : Done) : Type 0 where
  pub context : (j : ℕ) → created_context command ≡ Some j → is_some done.context ≡ true
  pub ephemeral : (k : ℕ) → created_ephemeral command ≡ Some k → is_some done.ephemeral ≡ true

none_created : {P : Type 0} (i : ℕ) → None ≡ Some i → P
none_created i e = absurd (none_is_some i e)

nothing_created : (command : Command) (done : Done) → created_context command ≡ None → created_ephemeral command ≡ None → IsBinding command done
nothing_created command done no_context no_ephemeral = record {
  context = λ j e. none_created j (sym no_context ∙ e);
  ephemeral = λ k e. none_created k (sym no_ephemeral ∙ e);
}

pub binds : (m : Naming) (b after : Board) (command : Command) (done : Done) → IsExecuted b (item_for m command) after done → IsBinding command done
binds m b after (AddLine true j i o) done x = record { context = λ n e. ap is_some x.result.context; ephemeral = λ n e. none_created n e }
binds m b after (AddEphemeral true j k o) done x = record { context = λ n e. ap is_some x.result.context; ephemeral = λ n e. ap is_some x.result.ephemeral }
binds m b after (AddEphemeral false j k o) done x = record { context = λ n e. none_created n e; ephemeral = λ n e. ap is_some x.result.ephemeral }
binds m b after command done x = nothing_created command done refl refl

-- ---- the names that are known are those that are bound

abbrev names_of : (ℕ → Bool) → (ℕ → Bool) → Names
names_of contexts ephemerals = record { contexts = contexts; ephemerals = ephemerals }

names_agree : (contexts other_contexts ephemerals other_ephemerals : ℕ → Bool) → ((j : ℕ) → contexts j ≡ other_contexts j)
    → ((k : ℕ) → ephemerals k ≡ other_ephemerals k) → names_of contexts ephemerals ≡ names_of other_contexts other_ephemerals
names_agree contexts other_contexts ephemerals other_ephemerals first second =
    ap (λ x. names_of x ephemerals) (fun_ext first) ∙ ap (names_of other_contexts) (fun_ext second)

bound_at : (test : Bool) (made was : Option ℕ) → is_some made ≡ true → (if test then true else is_some was) ≡ is_some (if test then made else was)
bound_at true made was bound = sym bound
bound_at false made was bound = refl

context_at_name : (bound : ℕ → Option ℕ) (create : Bool) (i : ℕ) (made : Option ℕ)
    → ((j : ℕ) → (if create then Some i else None) ≡ Some j → is_some made ≡ true)
    → (j : ℕ) → with_name (λ n. is_some (bound n)) (if create then Some i else None) j ≡ is_some (bound_if create bound i made j)
context_at_name bound true i made binding j = bound_at (j == i) made (bound j) (binding i refl)
context_at_name bound false i made binding j = refl

pub known_on : (m : Naming) (command : Command) (done : Done) → IsBinding command done
    → names_after (known_by m) command ≡ known_by (built_after m command done)
known_on m (AddLine create i l o) done binding =
    names_agree (with_name (known_by m).contexts (if create then Some i else None)) (λ j. is_some (bound_if create m.contexts i done.context j))
    (known_by m).ephemerals (known_by m).ephemerals (context_at_name m.contexts create i done.context binding.context) (λ k. refl)
known_on m (AddEphemeral create i x o) done binding =
    names_agree (with_name (known_by m).contexts (if create then Some i else None)) (λ j. is_some (bound_if create m.contexts i done.context j))
    (with_name (known_by m).ephemerals (Some x)) (λ k. is_some (bound_if true m.ephemerals x done.ephemeral k))
    (context_at_name m.contexts create i done.context binding.context)
    (context_at_name m.ephemerals true x done.ephemeral binding.ephemeral)
known_on m command done binding = refl

-- ---- what is kept of a state's commands

-- each command uses names that are known at its place
abbrev pub AreKnown : Names → List Command → Type 0
AreKnown names [] = Unit {0}
AreKnown names (command ∷ more) = (uses_known names command ≡ true) × AreKnown (names_after names command) more

pub built_known : (names : Names) (commands : List Command) → AreKnown names (built names commands)
built_known names [] = tt
built_known names (command ∷ more) =
    by_test (AreKnown names) (command ∷ built (names_after names command) more) (built names more) (uses_known names command)
    (λ uses. (uses, built_known (names_after names command) more)) (λ uses. built_known names more)

-- a fact of each command stays one of each that is kept
pub built_all : (P : Command → Type 0) (names : Names) (commands : List Command) → All P commands → All P (built names commands)
built_all P names [] all = all
built_all P names (command ∷ more) all =
    by_test (All P) (command ∷ built (names_after names command) more) (built names more) (uses_known names command)
    (λ uses. All-cons P command (built (names_after names command) more) (All-head P command more all)
    (built_all P (names_after names command) more (All-tail P command more all)))
    (λ uses. built_all P names more (All-tail P command more all))

-- the same of a test
pub built_pass : (test : Command → Bool) (names : Names) (commands : List Command) → list_all test commands ≡ true → list_all test (built names commands) ≡ true
built_pass test names [] all = refl
built_pass test names (command ∷ more) all =
    let rest : list_all test more ≡ true = and_second (test command) (list_all test more) all in
    by_test (λ (kept : List Command). list_all test kept ≡ true) (command ∷ built (names_after names command) more) (built names more)
    (uses_known names command)
    (λ uses. and_from (test command) (list_all test (built (names_after names command) more)) (and_first (test command) (list_all test more) all)
    (built_pass test (names_after names command) more rest))
    (λ uses. built_pass test names more rest)

pub built_once : (names : Names) (commands : List Command) → create_once commands ≡ true → create_once (built names commands) ≡ true
built_once names [] once = refl
built_once names (command ∷ more) once =
    let apart : list_all (creates_apart command) more ≡ true = and_first (list_all (creates_apart command) more) (create_once more) once in
    let rest : create_once more ≡ true = and_second (list_all (creates_apart command) more) (create_once more) once in
    by_test (λ (kept : List Command). create_once kept ≡ true) (command ∷ built (names_after names command) more) (built names more)
    (uses_known names command)
    (λ uses. and_from (list_all (creates_apart command) (built (names_after names command) more)) (create_once (built (names_after names command) more))
    (built_pass (creates_apart command) (names_after names command) more apart) (built_once (names_after names command) more rest))
    (λ uses. built_once names more rest)

-- ---- a state of a script

pub all_at : (P : State → Type 0) (d : State) (states : List State) (i : ℕ) → All P states → P d → P (unwrap_or (slice_get states i) d)
all_at P d [] i all otherwise = otherwise
all_at P d (state ∷ states) zero all otherwise = All-head P state states all
all_at P d (state ∷ states) (suc i) all otherwise = all_at P d states i (All-tail P state states all) otherwise

pub state_is : (script : Script) → IsScript script → (i : ℕ) → IsStateOf script (state_of script i)
state_is script is i = all_at (IsStateOf script) no_state script.states i is.states (All-nil (IsCommandOf script), refl)

-- ---- the names of a call before its request

module _ (script : Script) (owned : TermId → Bool) (a : Agent) (b : Board) (c : Configuration) (shown : Seen script owned (naming a) b c)
    (of_script : IsOfScript script c) where
  ephemeral_bound : (k : ℕ) → is_some (a.ephemerals k) ≡ is_present (c.spot (termination.Ephemeral k))
  ephemeral_bound k = go (a.ephemerals k) refl
    where
      go : (o : Option ℕ) → a.ephemerals k ≡ o → is_some o ≡ is_present (c.spot (termination.Ephemeral k))
      go (Some x) e = sym (ap (λ o. is_some (row_on b (eph_of o))) e ∙ shown.ephemeral_stands k x e)
          ∙ shown.stands (termination.Ephemeral k) (shown.ephemeral_slot k x e)
      go None e = elim (slot_or_not script (termination.Ephemeral k)) [
        | inl slot ↦ sym (ap (λ o. is_some (row_on b (eph_of o))) e) ∙ shown.stands (termination.Ephemeral k) slot
        | inr undeclared ↦ sym (ap is_present (of_script.spot (termination.Ephemeral k) undeclared))
      ]

  pub bound_agree : bound_by a ≡ bound_names c
  bound_agree = names_agree (λ j. is_some (a.contexts j)) (λ j. not (is_free (c.context j))) (λ k. is_some (a.ephemerals k))
      (λ k. is_present (c.spot (termination.Ephemeral k))) shown.bound ephemeral_bound
