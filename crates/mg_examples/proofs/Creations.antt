-- A command that adds a line to a new context is executed on any board where the line is in the null context and a context's number was
-- not given yet: the context gets that number.
use Rattle.std.proofs.Common.{◌≡◌, ◌∙◌, ◌==◌, ◌<◌, arith, true, ℕ, Bool, false, List, [], Option, Some, None, is_some, refl, sym, ap, true≢false, inl, inr}
use Rattle.std.specs.Prelude.{◌||◌, not, IsTrue}
use Rattle.std.proofs.lemmas.Bool.{eq-eqb}
use Rattle.mg_examples.proofs.Words.{UnknownContext, UnknownTermination, AlreadyInContext, NotInContext, InternalFailure, InsufficientResources, Mode, Row}
use Rattle.mg_examples.proofs.Words.{Board, place_in, mode_of, remote_of, same_term, IsSettled, choose, null, Done, Lists, IsExecuted, IsLegal, row_at}
use Rattle.mg_examples.proofs.Words.{is_context_number, ListItem, Number, RequestCommand, add_line, item_at, null_row, Chosen}
use Rattle.mg_names.specs.declared.identifiers.TermId.TheVariants.{Line}
use Rattle.mg_model.specs.Items.{effect}
use Rattle.mg_model.proofs.Cases.{false_not_true, where_true, where_false}
use Rattle.mg_model.proofs.Single.{none_in}
use Rattle.mg_examples.proofs.Settled.{still_settled, given_or, given_still, given_here}

-- a line is added to a new context, with this mode and these events where they are set
abbrev pub creates : ℕ → Option Mode → Option (List ListItem) → RequestCommand
creates line mode events = add_line (Number (record { 0 = choose })) line record { mode = mode; remote = None; events = events; signals = None }

-- the context that is created has this number
abbrev pub picks : ℕ → Chosen
picks number = record { context = number; ephemeral = 1 }

abbrev pub made : ℕ → Done
made number = record { context = Some number; ephemeral = None; lines = []; ephemerals = [] }

abbrev pub created : Board → ℕ → Option Mode → Option (List ListItem) → ℕ → Board
created b line mode events number = effect b (item_at [] (creates line mode events)) (picks number)

pub record CanCreate (b : Board) (line number : ℕ) : Type 0 where
  pub row : b.row (Line (record { 0 = line })) ≡ Some null_row
  pub is_number : is_context_number number
  pub not_given : b.used_context number ≡ false
  pub in_class : IsTrue (b.class number)

pub none_listed : Lists (λ n. false) []
none_listed = record { rising = tt; exactly = λ n. (λ among. absurd (none_in n among), λ h. absurd (false_not_true h)) }

-- what the refusals of an added line read of its row
abbrev pub is_unknown : Option Row → Bool
is_unknown row = not (is_some row) || false

abbrev pub is_taken : Option Row → Bool
is_taken row = not (place_in row == 0)

module _ (b : Board) (line : ℕ) (mode : Option Mode) (events : Option (List ListItem)) (number : ℕ) (can : CanCreate b line number) where
  legal : IsLegal b (item_at [] (creates line mode events))
  legal UnknownContext h = h.0 refl
  legal UnknownTermination h = true≢false (sym h ∙ ap is_unknown can.row)
  legal AlreadyInContext h = true≢false (sym h ∙ ap is_taken can.row)
  legal NotInContext h = true≢false (sym h)
  legal InternalFailure h = h
  legal InsufficientResources (inl used) = true≢false (sym (used.1 number can.is_number can.in_class) ∙ can.not_given)
  legal InsufficientResources (inr used) = used

  pub creation_executed : IsExecuted b (item_at [] (creates line mode events)) (created b line mode events number) (made number)
  creation_executed = record {
    chosen = picks number;
    fresh = record { context = λ h. (can.is_number, can.not_given, can.in_class); ephemeral = λ h. absurd (true≢false (sym h)) };
    legal = legal;
    effect_is = refl;
    result = record { context = refl; ephemeral = refl; lines = none_listed; ephemerals = none_listed };
  }

  not_null : number ≡ null → ⊥
  not_null e = let above : 0 < number = can.is_number.0 in omega (arith, above, e)

  -- what is in use is what stands, as before
  pub created_settled : IsSettled b b → IsSettled (created b line mode events number) (created b line mode events number)
  created_settled exact = still_settled b (created b line mode events number) line number (record {
    row = row_at number (record { mode = mode; remote = None }) (mode_of b (Line (record { 0 = line }))) (remote_of b (Line (record { 0 = line })));
    was = can.row;
    at = where_true (line == line)
        (Some (row_at number (record { mode = mode; remote = None }) (mode_of b (Line (record { 0 = line }))) (remote_of b (Line (record { 0 = line })))))
        (b.row (Line (record { 0 = line }))) (eq-eqb line line refl);
    place = refl;
    not_null = not_null;
    elsewhere = λ t e. where_false (same_term t (Line (record { 0 = line })))
        (Some (row_at number (record { mode = mode; remote = None }) (mode_of b (Line (record { 0 = line }))) (remote_of b (Line (record { 0 = line })))))
        (b.row t) e;
    used = given_or true number b.used_context;
    used_here = given_here number b.used_context;
    used_still = given_still true number b.used_context;
    ephemerals = λ k. refl;
  }) exact
