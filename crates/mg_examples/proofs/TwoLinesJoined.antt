-- The request of the state `talk` joins the two lines of a call on any gateway where both are in the null context and the number of the
-- context that it creates wasn't given yet; and a world where two lines are joined isn't good if the script marks no pair.
use Rattle.std.proofs.Common.{eqb-true, eq-eqb, ◌≡◌, ◌∙◌, ◌<◌, ◌==◌, ℕ, Bool, true, false, if◌then◌else◌, List, [], ◌∷◌, Option, Some, None, refl, sym, ap, arith, true≢false, inl, inr}
use Rattle.std.specs.Prelude.{not, ◌&&◌, IsTrue}
use Rattle.mg_examples.proofs.Words.{UnknownContext, UnknownTermination, AlreadyInContext, NotInContext, InternalFailure, InsufficientResources, TermId}
use Rattle.mg_examples.proofs.Words.{SendReceive, Row, Pair, Board, null_row, place_in, remote_of, same_term, IsSettled, Gateway, after_request, start_of}
use Rattle.mg_examples.proofs.Words.{choose, null, Done, IsExecuted, IsLegal, is_context_number, ListItem, MadeAt, RequestCommand, add_line, Request, Reply}
use Rattle.mg_examples.proofs.Words.{Running, after_command, item_at, Script, state_of, is_marked, World, IsGood, Opened, with_gateway, mode_in, row_with}
use Rattle.mg_examples.proofs.Words.{Descriptors}
use Rattle.mg_names.specs.declared.identifiers.TermId.TheVariants.{Line}
use Rattle.mg_examples.proofs.Settled.{still_settled, given_or, given_still, given_here}
use Rattle.mg_model.specs.Items.{effect}
use Rattle.mg_model.specs.Media.{AreJoined, receives, sends}
use Rattle.mg_model.proofs.Cases.{different, where_true, where_false}
use Rattle.mg_model.specs.RequestRun.{RunsFrom}
use Rattle.mg_examples.proofs.Creations.{creates, picks, made, created, none_listed, is_unknown, is_taken, creation_executed}

-- ---- the request

abbrev pub receiving : Descriptors
receiving = record { mode = Some SendReceive; remote = None; events = None; signals = None }

-- the first command may ask for events
abbrev pub first : Opened → Option (List ListItem) → RequestCommand
first one = creates (one.lines 0) (Some SendReceive)

abbrev pub second : Opened → RequestCommand
second one = add_line (MadeAt 0) (one.lines 1) receiving

abbrev pub to_talk : Opened → ℕ → Request
to_talk one association = record { call = one.call; association = association; number = 1; commands = first one None ∷ second one ∷ [] }

-- ---- its commands

abbrev nothing : Done
nothing = record { context = None; ephemeral = None; lines = []; ephemerals = [] }

abbrev line_at : Opened → ℕ → TermId
line_at one i = Line (record { 0 = one.lines i })

-- the two lines of a call differ and are in the null context, nothing from the first to the second is cut, and no context has this number
pub record IsReady (b : Board) (one : Opened) (context : ℕ) : Type 0 where
  pub differ : one.lines 0 ≡ one.lines 1 → ⊥
  pub first_row : b.row (line_at one 0) ≡ Some null_row
  pub second_row : b.row (line_at one 1) ≡ Some null_row
  pub uncut : b.cut (line_at one 0) (line_at one 1) ≡ false
  pub is_number : is_context_number context
  pub not_given : b.used_context context ≡ false
  pub in_class : IsTrue (b.class context)
  -- no number is barred but those of what stands
  pub exact : IsSettled b b

pub is_ready : (b : Board) (one : Opened) (context : ℕ) → (one.lines 0 ≡ one.lines 1 → ⊥) → is_context_number context
    → (b.row (line_at one 0) ≡ Some null_row) × (b.row (line_at one 1) ≡ Some null_row) × (b.cut (line_at one 0) (line_at one 1) ≡ false)
    × (b.used_context context ≡ false) × IsTrue (b.class context) → IsSettled b b → IsReady b one context
is_ready b one context differ is_number is exact =
    record { differ = differ; first_row = is.0; second_row = is.1; uncut = is.2; is_number = is_number; not_given = is.3; in_class = is.4; exact = exact }

abbrev pub with_first : Board → Opened → ℕ → Board
with_first b one context = created b (one.lines 0) (Some SendReceive) None context

abbrev pub with_both : Board → Opened → ℕ → Board
with_both b one context = effect (with_first b one context) (item_at (made context ∷ []) (second one)) (picks context)

abbrev talking_row : ℕ → Option ℕ → Row
talking_row context remote = record { place = record { 0 = context }; mode = SendReceive; remote = remote }

-- there is a hop between two rows of one context that talk
hop_made : (same cut : Bool) (from to : Option Row) (context : ℕ) (remote far : Option ℕ) → same ≡ false → cut ≡ false → from ≡ Some (talking_row context remote)
    → to ≡ Some (talking_row context far) → (context == null) ≡ false
    → IsTrue (not same && (not (place_in from == null) && place_in from == place_in to) && receives (mode_in from) && sends (mode_in to) && not cut)
hop_made same cut from to context remote far differ uncut at_from at_to real = rw (differ, uncut, at_from, at_to, real, eq-eqb context context refl) refl

module _ (b : Board) (one : Opened) (context : ℕ) (ready : IsReady b one context) where
  is_itself : (i : ℕ) → (one.lines i == one.lines i) ≡ true
  is_itself i = eq-eqb (one.lines i) (one.lines i) refl

  differ : (one.lines 0 == one.lines 1) ≡ false
  differ = different (one.lines 0) (one.lines 1) ready.differ

  differ_back : (one.lines 1 == one.lines 0) ≡ false
  differ_back = different (one.lines 1) (one.lines 0) (λ e. ready.differ (sym e))

  not_choose : context ≡ choose → ⊥
  not_choose e = let below : context < choose = ready.is_number.1 in omega (arith, below, e)

  not_null : context ≡ null → ⊥
  not_null e = let above : 0 < context = ready.is_number.0 in omega (arith, above, e)

  -- the first line stands in the context, and the second is where it was
  first_added : (with_first b one context).row (line_at one 0) ≡ Some (talking_row context (remote_of b (line_at one 0)))
  first_added = where_true (one.lines 0 == one.lines 0) (Some (talking_row context (remote_of b (line_at one 0)))) (b.row (line_at one 0)) (is_itself 0)

  second_waits : (with_first b one context).row (line_at one 1) ≡ Some null_row
  second_waits =
      where_false (one.lines 1 == one.lines 0) (Some (talking_row context (remote_of b (line_at one 0)))) (b.row (line_at one 1)) differ_back ∙ ready.second_row

  second_legal : IsLegal (with_first b one context) (item_at (made context ∷ []) (second one))
  second_legal UnknownContext h = h.1 (not_null, (line_at one 0, ap place_in first_added))
  second_legal UnknownTermination h = true≢false (sym h ∙ ap is_unknown second_waits)
  second_legal AlreadyInContext h = true≢false (sym h ∙ ap is_taken second_waits)
  second_legal NotInContext h = true≢false (sym h)
  second_legal InternalFailure h = h
  second_legal InsufficientResources (inl used) = not_choose used.0
  second_legal InsufficientResources (inr used) = used

  first_executed : IsExecuted b (item_at [] (first one None)) (with_first b one context) (made context)
  first_executed =
      creation_executed b (one.lines 0) (Some SendReceive) None context
      (record { row = ready.first_row; is_number = ready.is_number; not_given = ready.not_given; in_class = ready.in_class })

  second_executed : IsExecuted (with_first b one context) (item_at (made context ∷ []) (second one)) (with_both b one context) nothing
  second_executed = record {
    chosen = picks context;
    fresh = record { context = λ h. absurd (not_choose (eqb-true context choose h)); ephemeral = λ h. absurd (true≢false (sym h)) };
    legal = second_legal;
    effect_is = refl;
    result = record {
      context = sym (where_false (context == choose) (Some context) None (different context choose not_choose));
      ephemeral = refl;
      lines = none_listed;
      ephemerals = none_listed;
    };
  }

  -- the context that the second command names is that one
  abbrev named : ℕ
  named = if context == choose then context else context

  named_is : named ≡ context
  named_is = where_false (context == choose) context context (different context choose not_choose)

  abbrev second_row : ℕ → Row
  second_row at = talking_row at (remote_of (with_first b one context) (line_at one 1))

  first_stays : (with_both b one context).row (line_at one 0) ≡ Some (talking_row context (remote_of b (line_at one 0)))
  first_stays =
      where_false (one.lines 0 == one.lines 1) (Some (second_row named)) ((with_first b one context).row (line_at one 0)) differ ∙ first_added

  second_added : (with_both b one context).row (line_at one 1) ≡ Some (second_row context)
  second_added =
      where_true (one.lines 1 == one.lines 1) (Some (second_row named)) ((with_first b one context).row (line_at one 1)) (is_itself 1)
      ∙ ap (λ (n : ℕ). Some (second_row n)) named_is

  -- what is in use is what stands
  elsewhere : (rows : TermId → Option Row) (row : Option Row) (u t : TermId) → same_term t u ≡ false → row_with rows u row t ≡ rows t
  elsewhere rows row u t e = where_false (same_term t u) row (rows t) e

  first_settled : IsSettled (with_first b one context) (with_first b one context)
  first_settled = still_settled b (with_first b one context) (one.lines 0) context (record {
    row = talking_row context (remote_of b (line_at one 0));
    was = ready.first_row;
    at = first_added;
    place = refl;
    not_null = not_null;
    elsewhere = elsewhere b.row (Some (talking_row context (remote_of b (line_at one 0)))) (line_at one 0);
    used = given_or true context b.used_context;
    used_here = given_here context b.used_context;
    used_still = given_still true context b.used_context;
    ephemerals = λ k. refl;
  }) ready.exact

  pub both_settled : IsSettled (with_both b one context) (with_both b one context)
  both_settled = still_settled (with_first b one context) (with_both b one context) (one.lines 1) context (record {
    row = second_row context;
    was = second_waits;
    at = second_added;
    place = refl;
    not_null = not_null;
    elsewhere = elsewhere (with_first b one context).row (Some (second_row named)) (line_at one 1);
    used = given_or (context == choose) context (with_first b one context).used_context;
    used_here = given_still (context == choose) context (with_first b one context).used_context context (given_here context b.used_context);
    used_still = given_still (context == choose) context (with_first b one context).used_context;
    ephemerals = λ k. refl;
  }) first_settled

  pub joined : AreJoined (with_both b one context) (one.lines 0) (one.lines 1)
  joined = inl (record {
    another = ready.differ;
    crossings = [];
    goes = hop_made (one.lines 0 == one.lines 1) (b.cut (line_at one 0) (line_at one 1)) ((with_both b one context).row (line_at one 0))
        ((with_both b one context).row (line_at one 1)) context (remote_of b (line_at one 0)) (remote_of (with_first b one context) (line_at one 1)) differ
        ready.uncut first_stays second_added (different context null not_null);
  })

-- ---- its execution

module _ (w : World) (one : Opened) (context : ℕ) (ready : IsReady w.gateway.board one context) (events : Option (List ListItem)) where
  abbrev r0 : Running
  r0 = start_of w.gateway

  abbrev r1 : Running
  r1 = after_command r0 (first one events) (item_at [] (first one events)) (with_first w.gateway.board one context) (made context) 1

  abbrev pub r2 : Running
  r2 = after_command r1 (second one) (item_at (made context ∷ []) (second one)) (with_both w.gateway.board one context) nothing 1

  at_end : RunsFrom 1 None r2 2 [] r2 None
  unfolding RunsFrom
  at_end = (refl, refl)

  at_second : RunsFrom 1 None r1 1 (second one ∷ []) r2 None
  unfolding RunsFrom
  at_second = inl (
    r2,
    record {
      board = with_both w.gateway.board one context;
      done = nothing;
      not_chosen = refl;
      executed = second_executed w.gateway.board one context ready;
      next_is = refl;
    },
    at_end,
  )

  pub runs_through : RunsFrom 1 None r0 0 (first one events ∷ second one ∷ []) r2 None
  unfolding RunsFrom
  runs_through = inl (
    r1,
    record {
      board = with_first w.gateway.board one context;
      done = made context;
      not_chosen = refl;
      executed = first_executed w.gateway.board one context ready;
      next_is = refl;
    },
    at_second,
  )

module _ (w : World) (one : Opened) (context : ℕ) (ready : IsReady w.gateway.board one context) where
  abbrev pub talking_gateway : Gateway
  talking_gateway =
      after_request w.gateway (to_talk one w.gateway.association) (r2 w one context ready None) (with_both w.gateway.board one context) None

  abbrev pub all_done : Reply
  all_done = record { call = one.call; association = w.gateway.association; number = 1; results = made context ∷ nothing ∷ []; failure = None }

  abbrev pub talking_world : World
  talking_world = record (with_gateway w talking_gateway) { replies = all_done ∷ w.replies }

-- ---- a world that isn't good

pub not_good : (script : Script) (w : World) (l m : ℕ) → ((n : ℕ) → (state_of script n).talk ≡ []) → AreJoined w.gateway.board l m → IsGood script w → ⊥
not_good script w l m none joined good =
    let pair = good.joined l m joined in
    true≢false (sym pair.marked ∙ ap (λ (talk : List Pair). is_marked talk pair.i pair.j) (none pair.agent.state))
