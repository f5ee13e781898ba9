-- Between requests the numbers that can't be given are those of what stands: so it is at an opening, where a request ends, and after a restart.
use Rattle.std.proofs.Common.{◌≡◌, ◌∙◌, ℕ, Bool, false, List, Option, Some, None, is_some, refl, sym, ap, subst}
use Rattle.mg_merge.proofs.Words.{Board, ChosenRefusal, Eph, Event, Gateway, IsFirst, IsOpening, IsSettled, Line, Opened, Request, Row, Runs, Script, TermId}
use Rattle.mg_merge.proofs.Words.{World, board_restarted, false_not_true, null, place_in, row_restarted}
use Rattle.mg_alike.proofs.Events.Kept.{boards_keep}

-- a board that is settled as it stands
settled_itself : (b settled : Board) → IsSettled b settled → IsSettled settled settled
settled_itself b settled is = record {
  row = refl;
  cut = refl;
  class = refl;
  contexts = λ c. (
    λ used. let there = (is.contexts c).0 used in (there.0, (there.1.0, ap (λ (rows : TermId → Option Row). place_in (rows there.1.0)) is.row ∙ there.1.1)),
    λ there. (is.contexts c).1 (there.0, (there.1.0, sym (ap (λ (rows : TermId → Option Row). place_in (rows there.1.0)) is.row) ∙ there.1.1)),
  );
  ephemerals = λ k. is.ephemerals k ∙ sym (ap (λ (rows : TermId → Option Row). is_some (rows (Eph k))) is.row);
}

-- nobody stands in a context
nowhere : (b : Board) → ((t : TermId) → place_in (b.row t) ≡ null) → b.used_context ≡ (λ n. false) → ((k : ℕ) → b.used_ephemeral k ≡ is_some (b.row (Eph k))) → IsSettled b b
nowhere b places unused ephemerals = record {
  row = refl;
  cut = refl;
  class = refl;
  contexts = λ c. (
    λ used. absurd (false_not_true (sym (ap (λ (f : ℕ → Bool). f c) unused) ∙ used)),
    λ there. absurd (there.0 (sym there.1.1 ∙ places there.1.0)),
  );
  ephemerals = ephemerals;
}

restarted_place : (t : TermId) (o : Option Row) → place_in (row_restarted t o) ≡ null
restarted_place t None = refl
restarted_place (Line l) (Some row) = refl
restarted_place (Eph k) (Some row) = refl

restarted_none : (k : ℕ) (o : Option Row) → false ≡ is_some (row_restarted (Eph k) o)
restarted_none k None = refl
restarted_none k (Some row) = refl

restarted_settled : (b : Board) → IsSettled (board_restarted b) (board_restarted b)
restarted_settled b = nowhere (board_restarted b) (λ t. restarted_place t (b.row t)) refl (λ k. restarted_none k (b.row (Eph k)))

pub opening_settled : (script : Script) (calls : List Opened) (w : World) → IsOpening script calls w → IsSettled w.gateway.board w.gateway.board
opening_settled script calls w opens =
    nowhere w.gateway.board places opens.gateway.no_context_given
    (λ k. ap (λ (f : ℕ → Bool). f k) opens.gateway.no_ephemeral_given ∙ sym (ap is_some (opens.gateway.no_ephemeral k)))
  where
    places : (t : TermId) → place_in (w.gateway.board.row t) ≡ null
    places (Eph k) = ap place_in (opens.gateway.no_ephemeral k)
    places (Line l) = go (w.gateway.board.row (Line l)) refl
      where
        go : (o : Option Row) → w.gateway.board.row (Line l) ≡ o → place_in (w.gateway.board.row (Line l)) ≡ null
        go None is = ap place_in is
        go (Some row) is = ap place_in is ∙ ap (λ (r : Row). r.place.0) (opens.lines.others_null l.0 row is)

-- ---- a run

executed_settled : (w after : World) (request : Request) (chosen : Option ChosenRefusal) → IsFirst w request chosen after
    → IsSettled after.gateway.board after.gateway.board
executed_settled w after request chosen f =
    subst (λ (b : Board). IsSettled b b) (sym (ap (λ (x : World). x.gateway.board) f.after_is ∙ ap (λ (g : Gateway). g.board) f.executed.after_is))
    (settled_itself f.executed.end.board f.executed.settled f.executed.is_settled)

pub runs_settled : (script : Script) (events : List Event) (w end : World) → IsSettled w.gateway.board w.gateway.board → Runs script events w end
    → IsSettled end.gateway.board end.gateway.board
runs_settled script =
    boards_keep script (λ b. IsSettled b b) (λ w after request chosen f is. executed_settled w after request chosen f) (λ b is. restarted_settled b)
