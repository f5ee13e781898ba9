-- A request that puts line 1 into a new context and takes it out of a context again, on a board where nothing stands: where both are the context with the
-- number 1, both commands are done and nothing stands once more; where the new context has the number 2 and line 1 is to leave the context 1, there is no
-- such context, and the second command is refused.
use Rattle.std.proofs.Common.{◌≡◌, ◌∙◌, ◌≤◌, ◌<◌, ℕ, Bool, true, false, if◌then◌else◌, [], ◌∷◌, Option, Some, None, refl, sym, subst, arith, inl, inr}
use Rattle.std.proofs.lemmas.Bool.{eqb-true}
use Rattle.std.specs.Prelude.{◌==◌, ◌&&◌, Contains, IsTrue}
use Rattle.mg_examples.proofs.Words.{UnknownContext, UnknownTermination, AlreadyInContext, NotInContext, InternalFailure, InsufficientResources, TermId, Eph}
use Rattle.mg_examples.proofs.Words.{ContextRef, Number, Row, Board, exists, null_row, mode_of, remote_of, place_in, place_of, IsSettled, fresh, Gateway}
use Rattle.mg_examples.proofs.Words.{after_request, offer_to, start_of, Done, IsExecuted, IsLegal, Lists, row_at, Request, Reply, RequestCommand, subtract}
use Rattle.mg_examples.proofs.Words.{null, Running, after_command, item_at, World, IsFirst, with_gateway, rank, Fails, Succeeds, Mode}
use Rattle.mg_names.specs.declared.identifiers.TermId.TheVariants.{Line}
use Rattle.mg_model.specs.declared.failures.Failure.{Failure}
use Rattle.mg_model.specs.declared.references.TerminationRef.TheVariants as on
use Rattle.mg_model.specs.Items.{effect}
use Rattle.mg_model.specs.RequestRun.{RunsFrom}
use Rattle.mg_model.proofs.Cases.{and_first, false_not_true}
use Rattle.mg_model.proofs.Single.{none_in, only_one, only_here}
use Rattle.mg_examples.proofs.Creations.{CanCreate, creates, created, creation_executed, created_settled, made, none_listed, picks}
use Rattle.mg_examples.proofs.TalkEntries.{two}
use Rattle.mg_examples.proofs.TwoLinesJoined.{second}

-- ---- the messages

abbrev puts : RequestCommand
puts = creates 1 None None

abbrev pub takes_out : ContextRef → RequestCommand
takes_out context = subtract context (on.Line (record { 0 = 1 }))

abbrev pub asks : ℕ → ContextRef → Request
asks number context = record { call = 7; association = 1; number = number; commands = puts ∷ takes_out context ∷ [] }

abbrev pub taken_out : Done
taken_out = record { context = None; ephemeral = None; lines = 1 ∷ []; ephemerals = [] }

abbrev pub both_done : ℕ → Reply
both_done number = record { call = 7; association = 1; number = number; results = made 1 ∷ taken_out ∷ []; failure = None }

abbrev unknown_context : Option Failure
unknown_context = Some (record { place = 1; code = UnknownContext })

abbrev pub one_refused : ℕ → Reply
one_refused number = record { call = 7; association = 1; number = number; results = made 2 ∷ []; failure = unknown_context }

-- ---- the boards

abbrev with_one : Board → ℕ → Board
with_one b number = created b 1 None None number

-- line 1 is put into a new context, the number 1, with this mode where it is set, and taken out of it
abbrev pub with_mode : Board → Option Mode → Board
with_mode b mode = created b 1 mode None 1

abbrev pub emptied : Board → Option Mode → Board
emptied b mode = effect (with_mode b mode) (item_at [] (takes_out (Number (record { 0 = 1 })))) (picks 1)

-- after the request the number 1 may be given again
abbrev pub freed : Board → Option Mode → Board
freed b mode = record (emptied b mode) { used_context = λ n. false }

-- line 1 can be put into a new context of this number, and nothing stands
pub record IsEmpty (b : Board) (number : ℕ) : Type 0 where
  pub can : CanCreate b 1 number
  pub all_null : (t : TermId) → place_of b t ≡ null
  pub exact : IsSettled b b

pub not_null : 1 ≡ null → ⊥
not_null e = omega (arith, e)

module _ (b : Board) (mode : Option Mode) (empty : IsEmpty b 1) where
  legal_out : IsLegal (with_mode b mode) (item_at [] (takes_out (Number (record { 0 = 1 }))))
  legal_out UnknownContext h = h (not_null, (Line (record { 0 = 1 }), refl))
  legal_out UnknownTermination h = false_not_true h
  legal_out AlreadyInContext h = false_not_true h
  legal_out NotInContext h = false_not_true h
  legal_out InternalFailure h = h
  legal_out InsufficientResources h = h

  -- line 1 alone went to the null context
  only_first : Lists (λ n. (n == 1) && exists (with_mode b mode) (Line (record { 0 = n }))) (1 ∷ [])
  only_first = record {
    rising = ((λ y among. absurd (none_in y among)), tt);
    exactly = λ n. (
      (λ among. subst (λ (x : ℕ). IsTrue ((x == 1) && exists (with_mode b mode) (Line (record { 0 = x })))) (only_one 1 n among) refl),
      (λ h.
          let same = eqb-true n 1 (and_first (n == 1) (exists (with_mode b mode) (Line (record { 0 = n }))) h) in
          subst (λ (x : ℕ). Contains (1 ∷ []) x) (sym same) (only_here 1)),
    );
  }

  pub one_taken_out : IsExecuted (with_mode b mode) (item_at [] (takes_out (Number (record { 0 = 1 })))) (emptied b mode) taken_out
  one_taken_out = record {
    chosen = picks 1;
    fresh = record { context = λ h. absurd (false_not_true h); ephemeral = λ h. absurd (false_not_true h) };
    legal = legal_out;
    effect_is = refl;
    result = record { context = refl; ephemeral = refl; lines = only_first; ephemerals = none_listed };
  }

  -- everything is in the null context again
  pub emptied_null : (t : TermId) → place_of (emptied b mode) t ≡ null
  emptied_null (Line l) = either (l.0 == 1) ((with_mode b mode).row (Line (record { 0 = 1 }))) (b.row (Line l)) (empty.all_null (Line l))
    where
      either : (first : Bool) (row other : Option Row) → place_in other ≡ null → place_in (if first then Some null_row else (if first then row else other)) ≡ null
      either true row other e = refl
      either false row other e = e
  emptied_null (Eph k) = empty.all_null (Eph k)

  pub one_freed : IsSettled (emptied b mode) (freed b mode)
  one_freed = record {
    row = refl;
    cut = refl;
    class = refl;
    contexts = λ n. (λ h. absurd (false_not_true h), λ there. absurd (there.0 (sym there.1.1 ∙ emptied_null there.1.0)));
    ephemerals = λ k. empty.exact.ephemerals k;
  }

  pub freed_settled : IsSettled (freed b mode) (freed b mode)
  freed_settled = record { row = refl; cut = refl; class = refl; contexts = one_freed.contexts; ephemerals = one_freed.ephemerals }

-- line 1 is in the context 2, and all else in the null context
not_one : (b : Board) → IsEmpty b 2 → (t : TermId) → place_of (with_one b 2) t ≡ 1 → ⊥
not_one b empty (Line l) is =
    either (l.0 == 1) (row_at 2 (record { mode = None; remote = None }) (mode_of b (Line (record { 0 = 1 }))) (remote_of b (Line (record { 0 = 1 }))))
    (b.row (Line l)) refl (empty.all_null (Line l)) is
  where
    either : (first : Bool) (row : Row) (other : Option Row) → row.place.0 ≡ 2 → place_in other ≡ null → place_in (if first then Some row else other) ≡ 1 → ⊥
    either true row other two nowhere is = let one : 2 ≡ 1 = sym two ∙ is in omega (arith, one)
    either false row other two nowhere is = let one : 0 ≡ 1 = sym nowhere ∙ is in omega (arith, one)
not_one b empty (Eph k) is = let one : 0 ≡ 1 = sym (empty.all_null (Eph k)) ∙ is in omega (arith, one)

-- ---- the request is executed

module _ (w : World) (number : ℕ) (context : ContextRef) where
  abbrev after_one : ℕ → Running
  after_one given = after_command (start_of w.gateway) puts (item_at [] puts) (with_one w.gateway.board given) (made given) number

  abbrev after_both : Running
  after_both = after_command (after_one 1) (takes_out context) (item_at (made 1 ∷ []) (takes_out context)) (emptied w.gateway.board None) taken_out number

  -- both commands are done
  abbrev emptied_gateway : Gateway
  emptied_gateway = after_request w.gateway (asks number context) after_both (freed w.gateway.board None) None

  abbrev pub emptied_world : World
  emptied_world = record (with_gateway w emptied_gateway) { replies = both_done number ∷ w.replies }

  -- the second command is refused
  abbrev refused_gateway : Gateway
  refused_gateway = after_request w.gateway (asks number context) (after_one 2) (with_one w.gateway.board 2) unknown_context

  abbrev pub refused_world : World
  refused_world = record (with_gateway w refused_gateway) { replies = one_refused number ∷ w.replies }

  first_succeeds : (given : ℕ) → CanCreate w.gateway.board 1 given → Succeeds (start_of w.gateway) puts 0 None number (after_one given)
  first_succeeds given can = record {
    board = with_one w.gateway.board given;
    done = made given;
    not_chosen = refl;
    executed = creation_executed w.gateway.board 1 None None given can;
    next_is = refl;
  }

  at_end : RunsFrom number None after_both 2 [] after_both None
  unfolding RunsFrom
  at_end = (refl, refl)

  both_run : CanCreate w.gateway.board 1 1 → IsExecuted (with_one w.gateway.board 1) (item_at (made 1 ∷ []) (takes_out context)) (emptied w.gateway.board None) taken_out
      → RunsFrom number None (start_of w.gateway) 0 (puts ∷ takes_out context ∷ []) after_both None
  unfolding RunsFrom
  both_run can second = inl (
    after_one 1,
    first_succeeds 1 can,
    inl (after_both, record { board = emptied w.gateway.board None; done = taken_out; not_chosen = refl; executed = second; next_is = refl }, at_end),
  )

  pub empties : IsEmpty w.gateway.board 1 → offer_to w.gateway (asks number context) ≡ fresh → (w.gateway.link 7).notes ≤ 1
      → IsExecuted (with_one w.gateway.board 1) (item_at (made 1 ∷ []) (takes_out context)) (emptied w.gateway.board None) taken_out
      → IsFirst w (asks number context) None emptied_world
  empties empty is_fresh few second = record {
    gateway = emptied_gateway;
    answer = both_done number;
    sent = [];
    executed = record {
      end = after_both;
      settled = freed w.gateway.board None;
      failure = None;
      is_fresh = is_fresh;
      room = omega (arith, few);
      runs = both_run empty.can second;
      is_settled = one_freed w.gateway.board None empty;
      after_is = refl;
      reply_is = refl;
      notes_are = refl;
    };
    after_is = refl;
  }

module _ (w : World) (number : ℕ) where
  abbrev old_context : ContextRef
  old_context = Number (record { 0 = 1 })

  fails : IsEmpty w.gateway.board 2 → Fails (after_one w number old_context 2) (takes_out old_context) 1 None UnknownContext
  fails empty = record {
    may = inl (λ there. not_one w.gateway.board empty there.1.0 there.1.1);
    first = λ earlier below may. let less : rank earlier < 0 = below in omega (arith, less);
  }

  one_runs : IsEmpty w.gateway.board 2
      → RunsFrom number None (start_of w.gateway) 0 (puts ∷ takes_out old_context ∷ []) (after_one w number old_context 2) unknown_context
  unfolding RunsFrom
  one_runs empty = inl (after_one w number old_context 2, first_succeeds w number old_context 2 empty.can, inr (UnknownContext, fails empty, refl, refl))

  pub is_refused : IsEmpty w.gateway.board 2 → offer_to w.gateway (asks number old_context) ≡ fresh → (w.gateway.link 7).notes ≤ 1
      → IsFirst w (asks number old_context) None (refused_world w number old_context)
  is_refused empty is_fresh few = record {
    gateway = refused_gateway w number old_context;
    answer = one_refused number;
    sent = [];
    executed = record {
      end = after_one w number old_context 2;
      settled = with_one w.gateway.board 2;
      failure = unknown_context;
      is_fresh = is_fresh;
      room = omega (arith, few);
      runs = one_runs empty;
      is_settled = created_settled w.gateway.board 1 None None 2 empty.can empty.exact;
      after_is = refl;
      reply_is = refl;
      notes_are = refl;
    };
    after_is = refl;
  }
