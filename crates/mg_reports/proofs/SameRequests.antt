-- A request runs in one way with the same results: they tell what the gateway chose.
use Rattle.std.proofs.Common.{◌≡◌, ◌∙◌, ◌+◌, ◌++◌, ◌==◌, ℕ, Bool, true, false, List, [], ◌∷◌, Option, Some, option_map, refl, sym, ap, subst, inl, inr}
use Rattle.std.proofs.Common.{true≢false}
use Rattle.std.proofs.lemmas.List.{append-nil as append_nil}
use Rattle.mg_merge.proofs.Words.{Add, Added, Board, Chosen, ChosenRefusal, Code, ContextId, Done, Fails, Failure, IsExecuted, Item, RequestCommand, Running}
use Rattle.mg_merge.proofs.Words.{RunsFrom, Settings, Succeeds, after_command, append_assoc, append_cancel_left, choose, chosen_at, code_of, creates_context}
use Rattle.mg_merge.proofs.Words.{creates_ephemeral, effect, item_at, none_is_some, only_if, the_some}
use Rattle.mg_model.specs.declared.items.Added.TheVariants as added
use Rattle.mg_alike.proofs.Requests.OneCommand.{one_code}

-- ---- lists

abbrev head_or : {A : Type 0} → A → List A → A
head_or a [] = a
head_or a (x ∷ xs) = x

pub first_same : {A : Type 0} (a b : A) (l m : List A) → a ∷ l ≡ b ∷ m → a ≡ b
first_same a b l m e = ap (head_or a) e

-- ---- one command

-- what a command does depends on what is chosen only for what it creates
same_context : (b : Board) (context : ContextId) (what : Added) (settings : Settings) (x y k : ℕ) (test : Bool) → (context.0 == choose) ≡ test
    → (test ≡ true → x ≡ y)
    → effect b (Add context what settings) (record { context = x; ephemeral = k }) ≡ effect b (Add context what settings) (record { context = y; ephemeral = k })
same_context b context what settings x y k true e same = ap (λ n. effect b (Add context what settings) (record { context = n; ephemeral = k })) (same refl)
same_context b context (added.Line l) settings x y k false e same = rw e refl
same_context b context added.NewEphemeral settings x y k false e same = rw e refl

same_effect : (b : Board) (item : Item) (c d : Chosen) → (creates_context item ≡ true → c.context ≡ d.context)
    → (creates_ephemeral item ≡ true → c.ephemeral ≡ d.ephemeral) → effect b item c ≡ effect b item d
same_effect b (Add context (added.Line l) settings) c d contexts ephemerals =
    same_context b context (added.Line l) settings c.context d.context c.ephemeral (context.0 == choose) refl contexts
same_effect b (Add context added.NewEphemeral settings) c d contexts ephemerals =
    same_context b context added.NewEphemeral settings c.context d.context c.ephemeral (context.0 == choose) refl contexts
    ∙ ap (λ k. effect b (Add context added.NewEphemeral settings) (record { context = d.context; ephemeral = k })) (ephemerals refl)
same_effect b _ c d contexts ephemerals = refl

-- what the result names was chosen
named : (test : Bool) (x y : ℕ) → only_if test x ≡ only_if test y → test ≡ true → x ≡ y
named true x y e is = the_some x y e
named false x y e is = absurd (true≢false (sym is))

same_board : (b : Board) (item : Item) (one other : Board) (done : Done) → IsExecuted b item one done → IsExecuted b item other done → one ≡ other
same_board b item one other done x y =
    x.effect_is
    ∙ same_effect b item x.chosen y.chosen
    (named (creates_context item) x.chosen.context y.chosen.context (sym x.result.context ∙ y.result.context))
    (named (creates_ephemeral item) x.chosen.ephemeral y.chosen.ephemeral (sym x.result.ephemeral ∙ y.result.ephemeral))
    ∙ sym y.effect_is

-- ---- a command fails, or it is executed

not_both : (r : Running) (command : RequestCommand) (place number : ℕ) (chosen : Option ChosenRefusal) (next : Running) (code : Code)
    → Succeeds r command place chosen number next → Fails r command place chosen code → ⊥
not_both r command place number chosen next code s fails = elim fails.may [
  | inl applies ↦ s.executed.legal code applies
  | inr is_chosen ↦ none_is_some code (ap (option_map code_of) (sym s.not_chosen) ∙ is_chosen)
]

-- ---- the commands one after the other

-- the results so far stay
results_go_on : (number : ℕ) (chosen : Option ChosenRefusal) (r : Running) (place : ℕ) (commands : List RequestCommand) (end : Running) (failure : Option Failure)
    → RunsFrom number chosen r place commands end failure → (more : List Done) × (end.results ≡ r.results ++ more)
unfolding RunsFrom
results_go_on number chosen r place [] end failure runs = ([], ap (λ (x : Running). x.results) runs.0 ∙ sym (append_nil r.results))
results_go_on number chosen r place (command ∷ rest) end failure (inl (next, s, runs)) =
    let later = results_go_on number chosen next (place + 1) rest end failure runs in
    (s.done ∷ later.0, later.1 ∙ ap (λ (x : Running). x.results ++ later.0) s.next_is ∙ append_assoc r.results (s.done ∷ []) later.0)
results_go_on number chosen r place (command ∷ rest) end failure (inr (code, fails, is, tells)) =
    ([], ap (λ (x : Running). x.results) is ∙ sym (append_nil r.results))

-- after a command the results go on with its own
result_next : (number : ℕ) (chosen : Option ChosenRefusal) (r : Running) (command : RequestCommand) (place : ℕ) (next : Running) (rest : List RequestCommand)
    (end : Running) (failure : Option Failure) (s : Succeeds r command place chosen number next) → RunsFrom number chosen next (place + 1) rest end failure
    → (more : List Done) × (end.results ≡ r.results ++ (s.done ∷ more))
result_next number chosen r command place next rest end failure s runs =
    let later = results_go_on number chosen next (place + 1) rest end failure runs in
    (later.0, later.1 ∙ ap (λ (x : Running). x.results ++ later.0) s.next_is ∙ append_assoc r.results (s.done ∷ []) later.0)

pub same_run : (number : ℕ) (chosen : Option ChosenRefusal) (r : Running) (place : ℕ) (commands : List RequestCommand) (end other : Running)
    (failure also : Option Failure) → RunsFrom number chosen r place commands end failure → RunsFrom number chosen r place commands other also
    → end.results ≡ other.results → (end ≡ other) × (failure ≡ also)
unfolding RunsFrom
same_run number chosen r place [] end other failure also x y same = (x.0 ∙ sym y.0, x.1 ∙ sym y.1)
same_run number chosen r place (command ∷ rest) end other failure also (inl (next, s, runs)) (inl (later, t, run)) same =
    let first = result_next number chosen r command place next rest end failure s runs in
    let second = result_next number chosen r command place later rest other also t run in
    let done : s.done ≡ t.done = first_same s.done t.done first.0 second.0
    (append_cancel_left r.results (s.done ∷ first.0) (t.done ∷ second.0) (sym first.1 ∙ same ∙ second.1)) in
    let board : s.board ≡ t.board = same_board r.board (item_at r.results command) s.board t.board t.done
    (subst (IsExecuted r.board (item_at r.results command) s.board) done s.executed) t.executed in
    let is : next ≡ later = s.next_is ∙ ap (λ b. after_command r command (item_at r.results command) b s.done number) board
    ∙ ap (λ d. after_command r command (item_at r.results command) t.board d number) done ∙ sym t.next_is in
    same_run number chosen later (place + 1) rest end other failure also
    (subst (λ (x : Running). RunsFrom number chosen x (place + 1) rest end failure) is runs) run same
same_run number chosen r place (command ∷ rest) end other failure also (inl (next, s, runs)) (inr (code, fails, is, tells)) same =
    absurd (not_both r command place number chosen next code s fails)
same_run number chosen r place (command ∷ rest) end other failure also (inr (code, fails, is, tells)) (inl (next, s, runs)) same =
    absurd (not_both r command place number chosen next code s fails)
same_run number chosen r place (command ∷ rest) end other failure also (inr (code, fails, is, tells)) (inr (its, refused, at, told)) same =
    let one = one_code r.board r.board (item_at r.results command) (item_at r.results command) (chosen_at chosen place) (λ c may. may) (λ c may. may) code its
    fails refused in
    (is ∙ sym at, tells ∙ ap (λ (c : Code). Some (record { place = place; code = c })) one ∙ sym told)
