-- No line has a Remote: a command that would set one is refused.
use Rattle.std.proofs.Common.{◌≡◌, ◌∙◌, ◌+◌, ℕ, Bool, true, false, List, [], ◌∷◌, Option, Some, None, refl, sym, ap, subst, inl, inr, ◌==◌, IsTrue, not}
use Rattle.std.proofs.Common.{if◌then◌else◌}
use Rattle.mg_merge.proofs.Words.{Add, Board, Chosen, ChosenRefusal, Event, Failure, Gateway, IsFirst, IsLegal, IsOpening, Item, Line, LineNo, Modify, Move}
use Rattle.mg_merge.proofs.Words.{Opened, RemoteSetting, Request, RequestCommand, Row, Running, Runs, RunsFrom, Script, Subtract, SubtractAll, TermId}
use Rattle.mg_merge.proofs.Words.{UnknownTermination, World, effect, exists, item_at, neither_second, place_of, remote_in, remote_refused, remote_set}
use Rattle.mg_merge.proofs.Words.{row_restarted, same_term, start_of}
use Rattle.mg_model.specs.declared.items.Added.TheVariants as added
use Rattle.mg_alike.proofs.Events.Kept.{boards_keep}

-- no line has a Remote on a board
abbrev pub IsPlain : Board → Type 0
IsPlain b = (l : LineNo) → remote_in (b.row (Line l)) ≡ None

none_set : (b : Board) (l : LineNo) (remote : Option RemoteSetting) (was : Option ℕ) → (IsTrue (remote_refused b (Line l) remote) → ⊥) → was ≡ None → remote_set remote was ≡ None
none_set b l None was legal is = is
none_set b l (Some setting) was legal is = absurd (legal refl)

where_plain : (test : Bool) (row : Row) (o : Option Row) → (test ≡ true → row.remote ≡ None) → remote_in o ≡ None → remote_in (if test then Some row else o) ≡ None
where_plain true row o first second = first refl
where_plain false row o first second = second

plain_after : (b : Board) (item : Item) (chosen : Chosen) → IsLegal b item → IsPlain b → IsPlain (effect b item chosen)
plain_after b (Add context (added.Line m) settings) chosen legal plain l =
    where_plain (same_term (Line l) (Line m)) _ (b.row (Line l))
    (λ e. none_set b m settings.remote _ (neither_second (not (exists b (Line m))) _ (legal UnknownTermination)) (plain m)) (plain l)
plain_after b (Modify context (Line m) settings) chosen legal plain l =
    where_plain (same_term (Line l) (Line m)) _ (b.row (Line l))
    (λ e. none_set b m settings.remote _ (neither_second (not (exists b (Line m))) _ (legal UnknownTermination)) (plain m)) (plain l)
plain_after b (Move context (Line m) settings) chosen legal plain l =
    where_plain (same_term (Line l) (Line m)) _ (b.row (Line l))
    (λ e. none_set b m settings.remote _ (neither_second (not (exists b (Line m))) _ (legal UnknownTermination)) (plain m)) (plain l)
plain_after b (Subtract context t) chosen legal plain l = where_plain (same_term (Line l) t) _ (b.row (Line l)) (λ e. refl) (plain l)
plain_after b (SubtractAll context) chosen legal plain l = where_plain (place_of b (Line l) == context.0) _ (b.row (Line l)) (λ e. refl) (plain l)
plain_after b _ chosen legal plain l = plain l

run_plain : (number : ℕ) (chosen : Option ChosenRefusal) (r : Running) (place : ℕ) (commands : List RequestCommand) (end : Running) (failure : Option Failure)
    → RunsFrom number chosen r place commands end failure → IsPlain r.board → IsPlain end.board
unfolding RunsFrom
run_plain number chosen r place [] end failure runs plain = subst (λ (x : Running). IsPlain x.board) (sym runs.0) plain
run_plain number chosen r place (command ∷ more) end failure (inl (next, s, runs)) plain =
    run_plain number chosen next (place + 1) more end failure runs
    (subst IsPlain (sym (ap (λ (x : Running). x.board) s.next_is ∙ s.executed.effect_is))
    (plain_after r.board (item_at r.results command) s.executed.chosen s.executed.legal plain))
run_plain number chosen r place (command ∷ more) end failure (inr (code, fails, is, tells)) plain = subst (λ (x : Running). IsPlain x.board) (sym is) plain

-- ---- events

same_plain : (b after : Board) → after.row ≡ b.row → IsPlain b → IsPlain after
same_plain b after same plain l = ap (λ (rows : TermId → Option Row). remote_in (rows (Line l))) same ∙ plain l

executed_plain : (w after : World) (request : Request) (chosen : Option ChosenRefusal) → IsFirst w request chosen after → IsPlain w.gateway.board
    → IsPlain after.gateway.board
executed_plain w after request chosen f plain =
    same_plain f.executed.end.board after.gateway.board
    (ap (λ (x : World). x.gateway.board.row) f.after_is ∙ ap (λ (g : Gateway). g.board.row) f.executed.after_is ∙ f.executed.is_settled.row)
    (run_plain request.number chosen (start_of w.gateway) 0 request.commands f.executed.end f.executed.failure f.executed.runs plain)

restarted_plain : (l : LineNo) (o : Option Row) → remote_in (row_restarted (Line l) o) ≡ None
restarted_plain l None = refl
restarted_plain l (Some row) = refl

pub runs_plain : (script : Script) (events : List Event) (w end : World) → IsPlain w.gateway.board → Runs script events w end → IsPlain end.gateway.board
runs_plain script = boards_keep script IsPlain executed_plain (λ b plain l. restarted_plain l (b.row (Line l)))

pub opening_plain : (script : Script) (calls : List Opened) (w : World) → IsOpening script calls w → IsPlain w.gateway.board
opening_plain script calls w opens l = go (w.gateway.board.row (Line l)) refl
  where
    go : (o : Option Row) → w.gateway.board.row (Line l) ≡ o → remote_in (w.gateway.board.row (Line l)) ≡ None
    go None is = ap remote_in is
    go (Some row) is = ap remote_in is ∙ ap (λ (r : Row). r.remote) (opens.lines.others_null l.0 row is)
