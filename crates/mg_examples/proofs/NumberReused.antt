-- The boards of a number that is given again: line 1 is put into a new context with the number 1 and subtracted from it, so the number is free;
-- line 3 is put into a new context, which gets the number 1; and line 1 is put into the context 1, beside line 3.
use Rattle.mg_examples.proofs.EmptiedContext as emptied
use Rattle.mg_examples.proofs.EmptiedContext.{IsEmpty, not_null, taken_out}
use Rattle.std.proofs.Common.{◌≡◌, ℕ, false, [], Option, Some, None, refl, arith, inl, inr}
use Rattle.mg_examples.proofs.Words.{UnknownContext, UnknownTermination, AlreadyInContext, NotInContext, InternalFailure, InsufficientResources, SendReceive}
use Rattle.mg_examples.proofs.Words.{Number, Row, Board, same_term, IsSettled, Done, IsExecuted, IsLegal, RequestCommand, add_line, choose, item_at, Mode}
use Rattle.mg_names.specs.declared.identifiers.TermId.TheVariants.{Line}
use Rattle.mg_model.specs.Items.{effect}
use Rattle.mg_model.proofs.Cases.{false_not_true, where_false}
use Rattle.mg_examples.proofs.Creations.{CanCreate, creates, created, creation_executed, created_settled, made, none_listed, picks}
use Rattle.mg_examples.proofs.Settled.{still_settled, given_or, given_still}
use Rattle.mg_examples.proofs.TwoLinesJoined.{receiving}
use Rattle.mg_examples.proofs.TwoLinesOpening.{all_null, board, opening_settled}
use Rattle.mg_examples.proofs.TwoTalksRun.{calls}

-- ---- the commands

-- a line is put into a new context, SendReceive
abbrev pub puts : ℕ → RequestCommand
puts line = creates line (Some SendReceive) None

abbrev pub takes_out : RequestCommand
takes_out = emptied.takes_out (Number (record { 0 = 1 }))

abbrev pub puts_back : RequestCommand
puts_back = add_line (Number (record { 0 = 1 })) 1 receiving

-- what the last one tells of itself
abbrev pub put_back : Done
put_back = record { context = None; ephemeral = None; lines = []; ephemerals = [] }

-- ---- the boards

abbrev talks : Option Mode
talks = Some SendReceive

abbrev pub with_one : Board
with_one = emptied.with_mode (board calls) talks

abbrev pub emptied_board : Board
emptied_board = emptied.emptied (board calls) talks

abbrev pub freed : Board
freed = emptied.freed (board calls) talks

abbrev pub with_other : Board
with_other = created freed 3 (Some SendReceive) None 1

abbrev pub with_both : Board
with_both = effect with_other (item_at [] puts_back) (picks 1)

-- ---- line 1 is put into a new context

can_put : CanCreate (board calls) 1 1
can_put = record { row = refl; is_number = (omega (arith), omega (arith)); not_given = refl; in_class = refl }

pub one_put : IsExecuted (board calls) (item_at [] (puts 1)) with_one (made 1)
one_put = creation_executed (board calls) 1 (Some SendReceive) None 1 can_put

pub one_settled : IsSettled with_one with_one
one_settled = created_settled (board calls) 1 (Some SendReceive) None 1 can_put (opening_settled calls)

-- ---- it is subtracted

empty : IsEmpty (board calls) 1
empty = record { can = can_put; all_null = all_null calls; exact = opening_settled calls }

pub one_taken_out : IsExecuted with_one (item_at [] takes_out) emptied_board taken_out
one_taken_out = emptied.one_taken_out (board calls) talks empty

pub one_freed : IsSettled emptied_board freed
one_freed = emptied.one_freed (board calls) talks empty

-- ---- line 3 is put into a new context, which has the number 1 once more

can_put_other : CanCreate freed 3 1
can_put_other = record { row = refl; is_number = (omega (arith), omega (arith)); not_given = refl; in_class = refl }

pub other_put : IsExecuted freed (item_at [] (puts 3)) with_other (made 1)
other_put = creation_executed freed 3 (Some SendReceive) None 1 can_put_other

pub other_settled : IsSettled with_other with_other
other_settled = created_settled freed 3 (Some SendReceive) None 1 can_put_other (emptied.freed_settled (board calls) talks empty)

-- ---- line 1 is put into it too

legal_back : IsLegal with_other (item_at [] puts_back)
legal_back UnknownContext h = h.1 (not_null, (Line (record { 0 = 3 }), refl))
legal_back UnknownTermination h = false_not_true h
legal_back AlreadyInContext h = false_not_true h
legal_back NotInContext h = false_not_true h
legal_back InternalFailure h = h
legal_back InsufficientResources (inl used) = let is : 1 ≡ choose = used.0 in omega (arith, is)
legal_back InsufficientResources (inr used) = used

pub one_put_back : IsExecuted with_other (item_at [] puts_back) with_both put_back
one_put_back = record {
  chosen = picks 1;
  fresh = record { context = λ h. absurd (false_not_true h); ephemeral = λ h. absurd (false_not_true h) };
  legal = legal_back;
  effect_is = refl;
  result = record { context = refl; ephemeral = refl; lines = none_listed; ephemerals = none_listed };
}

abbrev talking : Row
talking = record { place = record { 0 = 1 }; mode = SendReceive; remote = None }

pub both_settled : IsSettled with_both with_both
both_settled = still_settled with_other with_both 1 1 (record {
  row = talking;
  was = refl;
  at = refl;
  place = refl;
  not_null = not_null;
  elsewhere = λ t e. where_false (same_term t (Line (record { 0 = 1 }))) (Some talking) (with_other.row t) e;
  used = given_or false 1 with_other.used_context;
  used_here = refl;
  used_still = given_still false 1 with_other.used_context;
  ephemerals = λ k. refl;
}) other_settled
