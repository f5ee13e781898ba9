-- The numbers that are used, and those of what stands, are in two lists: each command adds one to each of them at most, and settling and restarts none.
use Rattle.std.proofs.Common.{◌≡◌, ◌∙◌, ◌+◌, ◌≤◌, ℕ, suc, Bool, true, false, List, [], ◌∷◌, length, Option, Some, None, is_some, refl, sym, ap, subst, arith}
use Rattle.std.proofs.Common.{inl, inr, ◌==◌, ◌||◌, ◌⊎◌, not, Contains, IsTrue, if◌then◌else◌}
use Rattle.mg_merge.proofs.Words.{Add, Board, Chosen, ChosenRefusal, ContextExists, Eph, Failure, IsLegal, IsSettled, Item, Line, Modify, Move, RequestCommand}
use Rattle.mg_merge.proofs.Words.{Row, Running, RunsFrom, SetTopology, Subtract, SubtractAll, TermId, UnknownContext, UnknownTermination, board_restarted}
use Rattle.mg_merge.proofs.Words.{by_test, choose, creates_context, creates_ephemeral, effect, eq-eqb, eqb-true, exists, false_not_true, first_in}
use Rattle.mg_merge.proofs.Words.{first_or_later, given, later_in, mode_of, neither_first, none_in, not_refused, null, place_in, place_of, remote_of, row_at}
use Rattle.mg_merge.proofs.Words.{same_term, subtracted, target}
use Rattle.mg_model.specs.declared.items.Added.TheVariants as added
use Rattle.mg_model.proofs.Terminations.{same_term_is}
use Rattle.mg_model.proofs.Settled.{restarted_gone, restarted_in_null}
use Rattle.mg_merge.proofs.Commands.Changes.{class_stays}

-- ---- boards

-- each number that is used, and each that stands, is in these lists
pub record AreAmong (b : Board) (contexts ephemerals : List ℕ) : Type 0 where
  pub used_contexts : (n : ℕ) → b.used_context n ≡ true → Contains contexts n
  pub places : (t : TermId) → (place_of b t ≡ null → ⊥) → Contains contexts (place_of b t)
  pub used_ephemerals : (n : ℕ) → b.used_ephemeral n ≡ true → Contains ephemerals n
  pub existing : (k : ℕ) → exists b (Eph k) ≡ true → Contains ephemerals k

-- at most so many contexts and so many ephemerals are used
pub record UsesFew (b : Board) (most : ℕ) : Type 0 where
  pub contexts : List ℕ
  pub ephemerals : List ℕ
  pub few_contexts : length contexts ≤ most
  pub few_ephemerals : length ephemerals ≤ most
  pub among : AreAmong b contexts ephemerals

-- ---- a command

in_or_not : (xs : List ℕ) (n : ℕ) → Contains xs n ⊎ (Contains xs n → ⊥)
in_or_not [] n = inr (none_in n)
in_or_not (x ∷ xs) n = go (x == n) refl (in_or_not xs n)
  where
    go : (test : Bool) → (x == n) ≡ test → Contains xs n ⊎ (Contains xs n → ⊥) → Contains (x ∷ xs) n ⊎ (Contains (x ∷ xs) n → ⊥)
    go true e later = inl (subst (Contains (x ∷ xs)) (eqb-true x n e) (first_in x xs))
    go false e (inl there) = inl (later_in x xs n there)
    go false e (inr never) = inr (λ there. elim (first_or_later x xs n there) [
      | inl is ↦ false_not_true (sym e ∙ eq-eqb x n is)
      | inr later ↦ never later
    ])

given_among : (creates : Bool) (number : ℕ) (was : ℕ → Bool) (numbers : List ℕ) → ((n : ℕ) → was n ≡ true → Contains numbers n) → (n : ℕ)
    → given creates number was n ≡ true → Contains (number ∷ numbers) n
given_among false number was numbers each n e = later_in number numbers n (each n e)
given_among true number was numbers each n e = go (n == number) refl e
  where
    go : (test : Bool) → (n == number) ≡ test → (test || was n) ≡ true → Contains (number ∷ numbers) n
    go true is e = subst (Contains (number ∷ numbers)) (sym (eqb-true n number is)) (first_in number numbers)
    go false is e = later_in number numbers n (each n e)

module _ (b : Board) (contexts ephemerals : List ℕ) (among : AreAmong b contexts ephemerals) (chosen : Chosen) where
  standing_context : (c : ℕ) → ((ContextExists b c → ⊥) → ⊥) → Contains (chosen.context ∷ contexts) c
  standing_context c legal = elim (in_or_not contexts c) [
    | inl there ↦ later_in chosen.context contexts c there
    | inr never ↦ absurd (legal (λ stands. never (subst (Contains contexts) stands.1.1 (among.places stands.1.0 (λ is. stands.0 (sym stands.1.1 ∙ is))))))
  ]

  standing_term : (t : TermId) (more : Bool) → (IsTrue (not (exists b t) || more) → ⊥) → exists b t ≡ true
  standing_term t more legal = not_refused (exists b t) (neither_first (not (exists b t)) more legal)

  standing_ephemeral : (k : ℕ) → exists b (Eph k) ≡ true → Contains (chosen.ephemeral ∷ ephemerals) k
  standing_ephemeral k there = later_in chosen.ephemeral ephemerals k (among.existing k there)

  -- a row that stands nowhere, or in one of these contexts
  abbrev StandsAmong : Option Row → Type 0
  StandsAmong r = (place_in r ≡ null → ⊥) → Contains (chosen.context ∷ contexts) (place_in r)

  stood : (t : TermId) → StandsAmong (b.row t)
  stood t real = later_in chosen.context contexts (place_of b t) (among.places t real)

  target_among : (context : ℕ) → ((context ≡ choose → ⊥) → (ContextExists b context → ⊥) → ⊥)
      → Contains (chosen.context ∷ contexts) (if context == choose then chosen.context else context)
  target_among context legal = by_test (Contains (chosen.context ∷ contexts)) chosen.context context (context == choose)
      (λ e. first_in chosen.context contexts)
      (λ e. standing_context context (legal (λ is. false_not_true (sym e ∙ eq-eqb context choose is))))

  taken_away : (t : TermId) (leaves : Bool) → StandsAmong (if leaves then subtracted t else b.row t)
  taken_away (Line l) true real = absurd (real refl)
  taken_away (Eph k) true real = absurd (real refl)
  taken_away t false real = stood t real

  places_after : (item : Item) → IsLegal b item → (t : TermId) → StandsAmong ((effect b item chosen).row t)
  places_after (Add context (added.Line l) settings) legal t =
      by_test StandsAmong (Some (row_at (target context chosen) settings (mode_of b (Line l)) (remote_of b (Line l)))) (b.row t) (same_term t (Line l))
      (λ e real. target_among context.0 (λ named lacks. legal UnknownContext (named, lacks))) (λ e. stood t)
  places_after (Add context added.NewEphemeral settings) legal t =
      by_test StandsAmong (Some (row_at (target context chosen) settings _ None)) (b.row t) (same_term t (Eph chosen.ephemeral))
      (λ e real. target_among context.0 (λ named lacks. legal UnknownContext (named, lacks))) (λ e. stood t)
  places_after (Modify context u settings) legal t =
      by_test StandsAmong (Some (row_at context.0 settings (mode_of b u) (remote_of b u))) (b.row t) (same_term t u)
      (λ e real. standing_context context.0 (λ lacks. legal UnknownContext (real, lacks))) (λ e. stood t)
  places_after (Move context u settings) legal t =
      by_test StandsAmong (Some (row_at context.0 settings (mode_of b u) (remote_of b u))) (b.row t) (same_term t u)
      (λ e real. standing_context context.0 (legal UnknownContext)) (λ e. stood t)
  places_after (Subtract context u) legal t = taken_away t (same_term t u)
  places_after (SubtractAll context) legal t = taken_away t (place_of b t == context.0)
  places_after (SetTopology context u v topology) legal t = stood t

  -- an ephemeral that exists is among them
  abbrev ExistsAmong : ℕ → Option Row → Type 0
  ExistsAmong k r = is_some r ≡ true → Contains (chosen.ephemeral ∷ ephemerals) k

  kept_ephemeral : (k : ℕ) (u : TermId) → same_term (Eph k) u ≡ true → exists b u ≡ true → Contains (chosen.ephemeral ∷ ephemerals) k
  kept_ephemeral k u e there = standing_ephemeral k (ap (λ t. exists b t) (same_term_is (Eph k) u e) ∙ there)

  existing_after : (item : Item) → IsLegal b item → (k : ℕ) → ExistsAmong k ((effect b item chosen).row (Eph k))
  existing_after (Add context (added.Line l) settings) legal k = standing_ephemeral k
  existing_after (Add context added.NewEphemeral settings) legal k =
      by_test (ExistsAmong k) (Some (row_at (target context chosen) settings _ None)) (b.row (Eph k)) (k == chosen.ephemeral)
      (λ e there. subst (Contains (chosen.ephemeral ∷ ephemerals)) (sym (eqb-true k chosen.ephemeral e)) (first_in chosen.ephemeral ephemerals))
      (λ e. standing_ephemeral k)
  existing_after (Modify context u settings) legal k =
      by_test (ExistsAmong k) (Some (row_at context.0 settings (mode_of b u) (remote_of b u))) (b.row (Eph k)) (same_term (Eph k) u)
      (λ e there. kept_ephemeral k u e (standing_term u _ (legal UnknownTermination))) (λ e. standing_ephemeral k)
  existing_after (Move context u settings) legal k =
      by_test (ExistsAmong k) (Some (row_at context.0 settings (mode_of b u) (remote_of b u))) (b.row (Eph k)) (same_term (Eph k) u)
      (λ e there. kept_ephemeral k u e (standing_term u _ (legal UnknownTermination))) (λ e. standing_ephemeral k)
  existing_after (Subtract context u) legal k =
      by_test (ExistsAmong k) None (b.row (Eph k)) (same_term (Eph k) u) (λ e there. absurd (false_not_true there)) (λ e. standing_ephemeral k)
  existing_after (SubtractAll context) legal k =
      by_test (ExistsAmong k) None (b.row (Eph k)) (place_of b (Eph k) == context.0) (λ e there. absurd (false_not_true there)) (λ e. standing_ephemeral k)
  existing_after (SetTopology context u v topology) legal k = standing_ephemeral k

  among_after : (item : Item) → IsLegal b item → AreAmong (effect b item chosen) (chosen.context ∷ contexts) (chosen.ephemeral ∷ ephemerals)
  among_after item legal = record {
    used_contexts = given_among (creates_context item) chosen.context b.used_context contexts among.used_contexts;
    places = places_after item legal;
    used_ephemerals = given_among (creates_ephemeral item) chosen.ephemeral b.used_ephemeral ephemerals among.used_ephemerals;
    existing = existing_after item legal;
  }

-- a command uses one context and one ephemeral more at most
one_more : (b : Board) (most : ℕ) → UsesFew b most → (item : Item) → IsLegal b item → (chosen : Chosen) → UsesFew (effect b item chosen) (suc most)
one_more b most few item legal chosen = record {
  contexts = chosen.context ∷ few.contexts;
  ephemerals = chosen.ephemeral ∷ few.ephemerals;
  few_contexts = (let it = few.few_contexts in omega (arith, it));
  few_ephemerals = (let it = few.few_ephemerals in omega (arith, it));
  among = among_after b few.contexts few.ephemerals few.among chosen item legal;
}

pub or_more : (b : Board) (most more : ℕ) → most ≤ more → UsesFew b most → UsesFew b more
or_more b most more less few = record {
  contexts = few.contexts;
  ephemerals = few.ephemerals;
  few_contexts = (let it = few.few_contexts in omega (arith, it, less));
  few_ephemerals = (let it = few.few_ephemerals in omega (arith, it, less));
  among = few.among;
}

-- ---- a request

-- commands use as many more as they are, at most, and the class stays
pub commands_use_few : (number : ℕ) (chosen : Option ChosenRefusal) (r : Running) (place : ℕ) (commands : List RequestCommand) (end : Running)
    (failure : Option Failure) (most : ℕ) → UsesFew r.board most → RunsFrom number chosen r place commands end failure
    → UsesFew end.board (most + length commands) × ((n : ℕ) → end.board.class n ≡ r.board.class n)
unfolding RunsFrom
commands_use_few number chosen r place [] end failure most few (ends, none) =
    (or_more end.board most (most + 0) (omega (arith)) (rw ends few), λ n. ap (λ (x : Running). x.board.class n) ends)
commands_use_few number chosen r place (command ∷ more) end failure most few (inr (code, fails, ends, failed)) = (
  or_more end.board most (most + length (command ∷ more)) (omega (arith)) (subst (λ (x : Running). UsesFew x.board most) (sym ends) few),
  λ n. ap (λ (x : Running). x.board.class n) ends,
)
commands_use_few number chosen r place (command ∷ more) end failure most few (inl (next, succeeds, runs)) =
    let after : UsesFew next.board (suc most) = subst (λ (x : Running). UsesFew x.board (suc most)) (sym succeeds.next_is)
    (rw succeeds.executed.effect_is (one_more r.board most few _ succeeds.executed.legal succeeds.executed.chosen)) in
    let later = commands_use_few number chosen next (place + 1) more end failure (suc most) after runs in (
      or_more end.board (suc most + length more) (most + length (command ∷ more)) (omega (arith)) later.0,
      λ n. later.1 n ∙ ap (λ (x : Running). x.board.class n) succeeds.next_is ∙ ap (λ (x : Board). x.class n) succeeds.executed.effect_is
          ∙ class_stays r.board _ succeeds.executed.chosen n,
    )

-- ---- settling, and restarts

pub settled_uses_few : (b after : Board) (most : ℕ) → UsesFew b most → IsSettled b after → UsesFew after most
settled_uses_few b after most few is = record {
  contexts = few.contexts;
  ephemerals = few.ephemerals;
  few_contexts = few.few_contexts;
  few_ephemerals = few.few_ephemerals;
  among = record {
    used_contexts = λ n used.
        let stands = (is.contexts n).0 used in
        subst (Contains few.contexts) stands.1.1 (few.among.places stands.1.0 (λ null. stands.0 (sym stands.1.1 ∙ null)));
    places = rw is.row few.among.places;
    used_ephemerals = λ k used. few.among.existing k (sym (is.ephemerals k) ∙ used);
    existing = subst (λ (rows : TermId → Option Row). (k : ℕ) → is_some (rows (Eph k)) ≡ true → Contains few.ephemerals k) (sym is.row) few.among.existing;
  };
}

-- a board on which no identifier is used and nothing stands
pub nothing_used : (b : Board) (most : ℕ) → ((n : ℕ) → b.used_context n ≡ false) → ((n : ℕ) → b.used_ephemeral n ≡ false)
    → ((t : TermId) → place_of b t ≡ null) → ((k : ℕ) → exists b (Eph k) ≡ false) → UsesFew b most
nothing_used b most no_context no_ephemeral restarted_in_null none = record {
  contexts = [];
  ephemerals = [];
  few_contexts = omega (arith);
  few_ephemerals = omega (arith);
  among = record {
    used_contexts = λ n used. absurd (false_not_true (sym (no_context n) ∙ used));
    places = λ t real. absurd (real (restarted_in_null t));
    used_ephemerals = λ n used. absurd (false_not_true (sym (no_ephemeral n) ∙ used));
    existing = λ k there. absurd (false_not_true (sym (none k) ∙ there));
  };
}

pub restarted_uses_none : (b : Board) (most : ℕ) → UsesFew (board_restarted b) most
restarted_uses_none b most = nothing_used (board_restarted b) most (λ n. refl) (λ n. refl) (λ t. restarted_in_null t (b.row t)) (λ k. restarted_gone k (b.row (Eph k)))
