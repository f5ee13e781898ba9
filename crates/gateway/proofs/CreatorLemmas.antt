-- Which call created an ephemeral: what a request creates wasn't used before, and what stands after it stood before it or was created by it.
use Rattle.std.proofs.Common.{◌≡◌, ◌∙◌, ℕ, ◌+◌, ◌==◌, Bool, true, false, ◌&&◌, ◌||◌, if◌then◌else◌, List, [], ◌∷◌, ◌++◌, Option, Some, None, is_some, ◌⊎◌, inl, inr, refl, sym, ap, rules}
use Rattle.std.proofs.Common.{IsTrue, Result, Ok, Err, OnOk, true≢false, ◌<◌, ◌≤◌, take, drop, length, get_or}
use Rattle.std.proofs.lemmas.List.{take_more, take_all, take-append-drop}
use Rattle.std.specs.declared.alloc.AllocError.{AllocError}
use Rattle.std.proofs.lemmas.Bool.{eqb-true, or_right, or_left, or_cases}
use Rattle.std.proofs.lemmas.List.Folds.{list_any-append}
use Rattle.mg_names.specs.declared.codes.Code.TheVariants.{UnknownTermination}
use Rattle.mg_names.specs.declared.identifiers.TermId.{TermId}
use Rattle.mg_names.specs.declared.identifiers.TermId.TheVariants.{Eph}
use Rattle.mg_model.specs.declared.failures.ChosenRefusal.{ChosenRefusal}
use Rattle.mg_model.specs.declared.failures.Failure.{Failure}
use Rattle.mg_model.specs.declared.items.Added.TheVariants as added
use Rattle.mg_model.specs.declared.items.Item.{Item}
use Rattle.mg_model.specs.declared.items.Item.TheVariants.{Add, Modify, Move, Subtract, SubtractAll, SetTopology}
use Rattle.mg_model.specs.declared.rows.Row.{Row}
use Rattle.mg_model.specs.Board.{Board, IsSettled, exists, same_term}
use Rattle.mg_model.specs.Items.{Chosen, Done, IsLegal, IsExecuted, effect, creates_ephemeral, only_if, subtracts}
use Rattle.mg_model.specs.Messages.{RequestCommand}
use Rattle.mg_model.specs.RequestRun.{Running, RunsFrom, Succeeds, item_at}
use Rattle.mg_model.proofs.Terminations.{same_term_is}
use Rattle.contexts.proofs.ExecLemmas.{both_known}
use Rattle.contexts.proofs.TermLemmas.{by_value}
use Rattle.gateway.specs.Creators.{creator_at, creator_on, is_that, is_created, any_created, IsKeptOrNoted}

-- ---- one command

set_stood : (b : Board) (t : TermId) (row : Row) (k : ℕ) (same : Bool) → same_term (Eph k) t ≡ same → exists b t ≡ true → is_some (if same then Some row else b.row (Eph k)) ≡ true →
    exists b (Eph k) ≡ true
set_stood b t row k true e there h = ap (λ (u : TermId). exists b u) (same_term_is (Eph k) t e) ∙ there
set_stood b t row k false e there h = h

out_stood : (row : Option Row) (gone : Bool) → is_some (if gone then None else row) ≡ true → is_some row ≡ true
out_stood row true h = absurd (search rules)
out_stood row false h = h

new_stood : (b : Board) (row : Row) (n k : ℕ) (same : Bool) → (k == n) ≡ same → is_some (if same then Some row else b.row (Eph k)) ≡ true → (exists b (Eph k) ≡ true) ⊎ ((k == n) ≡ true)
new_stood b row n k true e h = inr e
new_stood b row n k false e h = inl h

-- what stands after a command stood before it, or the command created it
stood : (b : Board) (item : Item) (chosen : Chosen) (k : ℕ) → IsLegal b item → exists (effect b item chosen) (Eph k) ≡ true →
    (exists b (Eph k) ≡ true) ⊎ (is_that (only_if (creates_ephemeral item) chosen.ephemeral) k ≡ true)
stood b (Add context (added.Line l) settings) chosen k legal h = inl h
stood b (Add context added.NewEphemeral settings) chosen k legal h = new_stood b _ chosen.ephemeral k _ refl h
stood b (Modify context t settings) chosen k legal h = inl (set_stood b t _ k _ refl (both_known _ _ (legal UnknownTermination)).0 h)
stood b (Move context t settings) chosen k legal h = inl (set_stood b t _ k _ refl (both_known _ _ (legal UnknownTermination)).0 h)
stood b (Subtract context t) chosen k legal h = inl (out_stood (b.row (Eph k)) (subtracts b (Subtract context t) (Eph k)) h)
stood b (SubtractAll context) chosen k legal h = inl (out_stood (b.row (Eph k)) (subtracts b (SubtractAll context) (Eph k)) h)
stood b (SetTopology context t u topology) chosen k legal h = inl h

stood_before : (b : Board) (item : Item) (after : Board) (done : Done) (k : ℕ) → IsExecuted b item after done → exists after (Eph k) ≡ true → (exists b (Eph k) ≡ true) ⊎ (is_created done k ≡ true)
stood_before b item after done k e h = by (stood b item e.chosen k e.legal (sym (ap (λ (c : Board). exists c (Eph k)) e.effect_is) ∙ h))
  where
    by : (exists b (Eph k) ≡ true) ⊎ (is_that (only_if (creates_ephemeral item) e.chosen.ephemeral) k ≡ true) → (exists b (Eph k) ≡ true) ⊎ (is_created done k ≡ true)
    by (inl there) = inl there
    by (inr made) = inr (ap (λ (o : Option ℕ). is_that o k) e.result.ephemeral ∙ made)

was_fresh : (creates : Bool) (n k : ℕ) (used : ℕ → Bool) → (IsTrue creates → used n ≡ false) → is_that (only_if creates n) k ≡ true → used k ≡ false
was_fresh true n k used fresh h = ap used (eqb-true k n h) ∙ fresh (search rules)
was_fresh false n k used fresh h = absurd (search rules)

-- what a command created wasn't used
fresh_before : (b : Board) (item : Item) (after : Board) (done : Done) (k : ℕ) → IsExecuted b item after done → is_created done k ≡ true → b.used_ephemeral k ≡ false
fresh_before b item after done k e h =
    was_fresh (creates_ephemeral item) e.chosen.ephemeral k b.used_ephemeral (λ creates. (e.fresh.ephemeral creates).1) (sym (ap (λ (o : Option ℕ). is_that o k) e.result.ephemeral) ∙ h)

second_false : (a b : Bool) → (a || b) ≡ false → b ≡ false
second_false true b h = absurd (search rules)
second_false false b h = h

-- what isn't used after a command wasn't used before it
unused_before : (b : Board) (item : Item) (after : Board) (done : Done) (k : ℕ) → IsExecuted b item after done → after.used_ephemeral k ≡ false → b.used_ephemeral k ≡ false
unused_before b item after done k e h = second_false (creates_ephemeral item && k == e.chosen.ephemeral) (b.used_ephemeral k) (sym (ap (λ (c : Board). c.used_ephemeral k) e.effect_is) ∙ h)

-- ---- the commands of a request

one_more : (results : List Done) (done : Done) (k : ℕ) → any_created (results ++ done ∷ []) k ≡ (any_created results k || (is_created done k || false))
one_more results done k = list_any-append (λ (d : Done). is_created d k) results (done ∷ [])

after_step : (r next : Running) (command : RequestCommand) (place : ℕ) (refusal : Option ChosenRefusal) (number k : ℕ) → (e : Succeeds r command place refusal number next) →
    any_created next.results k ≡ (any_created r.results k || (is_created e.done k || false))
after_step r next command place refusal number k e = ap (λ (q : Running). any_created q.results k) e.next_is ∙ one_more r.results e.done k

created_still : (number : ℕ) (refusal : Option ChosenRefusal) (r : Running) (place : ℕ) (commands : List RequestCommand) (end : Running) (failure : Option Failure) (k : ℕ) →
    RunsFrom number refusal r place commands end failure → any_created r.results k ≡ true → any_created end.results k ≡ true
unfolding RunsFrom
created_still number refusal r place [] end failure k h made = ap (λ (q : Running). any_created q.results k) h.0 ∙ made
created_still number refusal r place (command ∷ more) end failure k (inl h) made =
    created_still number refusal h.0 (place + 1) more end failure k h.2 (after_step r h.0 command place refusal number k h.1 ∙ or_left _ _ made)
created_still number refusal r place (command ∷ more) end failure k (inr (code, fails, stays, failed)) made = ap (λ (q : Running). any_created q.results k) stays ∙ made

stood_or_created : (number : ℕ) (refusal : Option ChosenRefusal) (r : Running) (place : ℕ) (commands : List RequestCommand) (end : Running) (failure : Option Failure) (k : ℕ) →
    RunsFrom number refusal r place commands end failure → exists end.board (Eph k) ≡ true → (exists r.board (Eph k) ≡ true) ⊎ (any_created end.results k ≡ true)
unfolding RunsFrom
stood_or_created number refusal r place [] end failure k h there = inl (sym (ap (λ (q : Running). exists q.board (Eph k)) h.0) ∙ there)
stood_or_created number refusal r place (command ∷ more) end failure k (inl h) there = by (stood_or_created number refusal h.0 (place + 1) more end failure k h.2 there)
  where
    by_step : (exists r.board (Eph k) ≡ true) ⊎ (is_created h.1.done k ≡ true) → (exists r.board (Eph k) ≡ true) ⊎ (any_created end.results k ≡ true)
    by_step (inl was) = inl was
    by_step (inr made) = inr (created_still number refusal h.0 (place + 1) more end failure k h.2
        (after_step r h.0 command place refusal number k h.1 ∙ or_right (any_created r.results k) (is_created h.1.done k || false) (or_left _ false made)))

    by : (exists h.0.board (Eph k) ≡ true) ⊎ (any_created end.results k ≡ true) → (exists r.board (Eph k) ≡ true) ⊎ (any_created end.results k ≡ true)
    by (inl next) = by_step (stood_before r.board (item_at r.results command) h.1.board h.1.done k h.1.executed (sym (ap (λ (q : Running). exists q.board (Eph k)) h.1.next_is) ∙ next))
    by (inr made) = inr made
stood_or_created number refusal r place (command ∷ more) end failure k (inr (code, fails, stays, failed)) there = inl (sym (ap (λ (q : Running). exists q.board (Eph k)) stays) ∙ there)

pub created_unused : (number : ℕ) (refusal : Option ChosenRefusal) (r : Running) (place : ℕ) (commands : List RequestCommand) (end : Running) (failure : Option Failure) (k : ℕ) →
    RunsFrom number refusal r place commands end failure → any_created end.results k ≡ true → (any_created r.results k ≡ true) ⊎ (r.board.used_ephemeral k ≡ false)
unfolding RunsFrom
created_unused number refusal r place [] end failure k h made = inl (sym (ap (λ (q : Running). any_created q.results k) h.0) ∙ made)
created_unused number refusal r place (command ∷ more) end failure k (inl h) made = by (created_unused number refusal h.0 (place + 1) more end failure k h.2 made)
  where
    by_done : (is_created h.1.done k ≡ true) ⊎ (false ≡ true) → r.board.used_ephemeral k ≡ false
    by_done (inl is) = fresh_before r.board (item_at r.results command) h.1.board h.1.done k h.1.executed is
    by_done (inr bad) = absurd (search rules)

    by_first : (any_created r.results k ≡ true) ⊎ ((is_created h.1.done k || false) ≡ true) → (any_created r.results k ≡ true) ⊎ (r.board.used_ephemeral k ≡ false)
    by_first (inl before) = inl before
    by_first (inr now) = inr (by_done (or_cases (is_created h.1.done k) false now))

    by : (any_created h.0.results k ≡ true) ⊎ (h.0.board.used_ephemeral k ≡ false) → (any_created r.results k ≡ true) ⊎ (r.board.used_ephemeral k ≡ false)
    by (inl next) = by_first (or_cases (any_created r.results k) (is_created h.1.done k || false) (sym (after_step r h.0 command place refusal number k h.1) ∙ next))
    by (inr unused) = inr (unused_before r.board (item_at r.results command) h.1.board h.1.done k h.1.executed (sym (ap (λ (q : Running). q.board.used_ephemeral k) h.1.next_is) ∙ unused))
created_unused number refusal r place (command ∷ more) end failure k (inr (code, fails, stays, failed)) made = inl (sym (ap (λ (q : Running). any_created q.results k) stays) ∙ made)

-- ---- where a request is put in place

module _ (number : ℕ) (refusal : Option ChosenRefusal) (start : Running) (commands : List RequestCommand) (end : Running) (failure : Option Failure)
    (runs : RunsFrom number refusal start 0 commands end failure) (nothing_yet : start.results ≡ []) where
  pub new_ones : (k : ℕ) → any_created end.results k ≡ true → start.board.used_ephemeral k ≡ false
  new_ones k made = by (created_unused number refusal start 0 commands end failure k runs made)
    where
      by : (any_created start.results k ≡ true) ⊎ (start.board.used_ephemeral k ≡ false) → start.board.used_ephemeral k ≡ false
      by (inl before) = let bad : false ≡ true = sym (ap (λ (ds : List Done). any_created ds k) nothing_yet) ∙ before in absurd (search rules)
      by (inr unused) = unused

  pub creator_put : (settled : Board) → IsSettled end.board settled → ((k : ℕ) → start.board.used_ephemeral k ≡ exists start.board (Eph k)) → (call : ℕ) (creators after : List (ℕ × ℕ)) →
      ((k : ℕ) → creator_at after k ≡ (if any_created end.results k then Some call else creator_at creators k)) → (k : ℕ) →
      creator_on settled after k ≡ (if exists end.board (Eph k) then (if exists start.board (Eph k) then creator_on start.board creators k else Some call) else None)
  creator_put settled is_settled tied call creators after noted k =
      ap (λ (rows : TermId → Option Row). if is_some (rows (Eph k)) then creator_at after k else None) is_settled.row
      ∙ by_value (exists end.board (Eph k)) stands (λ gone. rw gone refl)
    where
      stood_there : (exists start.board (Eph k) ≡ true) ⊎ (any_created end.results k ≡ true) → any_created end.results k ≡ false → exists start.board (Eph k) ≡ true
      stood_there (inl there) none = there
      stood_there (inr made) none = let bad : false ≡ true = sym none ∙ made in absurd (search rules)

      stands : exists end.board (Eph k) ≡ true →
          (if exists end.board (Eph k) then creator_at after k else None) ≡ (if exists end.board (Eph k) then (if exists start.board (Eph k) then creator_on start.board creators k else Some call) else None)
      stands there = by_value (any_created end.results k)
          (λ made. rw (there, noted k, made, sym (tied k) ∙ new_ones k made) refl)
          (λ none. let before = stood_there (stood_or_created number refusal start 0 commands end failure k runs there) none in rw (there, noted k, none, before) refl)

-- ---- what is noted, result by result

-- what was noted of the results up to a place
abbrev pub NotedTo : List Done → ℕ → ℕ → List (ℕ × ℕ) → List (ℕ × ℕ) → Type 0
NotedTo results place call before now = (k : ℕ) → creator_at now k ≡ (if any_created (take place results) k then Some call else creator_at before k)

noted_first : (one more : Bool) (x y z : Option ℕ) → y ≡ (if one then x else z) → (if more || false then x else y) ≡ (if one || (more || false) then x else z)
noted_first true true x y z e = refl
noted_first false true x y z e = refl
noted_first true false x y z e = e
noted_first false false x y z e = e

pub noted_more : (results : List Done) (place call : ℕ) (done : Done) (before now after : List (ℕ × ℕ)) → place < length results → done ≡ get_or results place done → NotedTo results place call before now →
    ((k : ℕ) → creator_at after k ≡ (if is_created done k then Some call else creator_at now k)) → NotedTo results (place + 1) call before after
noted_more results place call done before now after within is so_far noted k =
    noted k ∙ ap (λ (b : Bool). if b then Some call else creator_at now k) (or_false (is_created done k))
    ∙ noted_first (any_created (take place results) k) (is_created done k) (Some call) (creator_at now k) (creator_at before k) (so_far k)
    ∙ ap (λ (b : Bool). if b then Some call else creator_at before k) (sym (one_more (take place results) done k)
    ∙ ap (λ (d : Done). any_created (take place results ++ d ∷ []) k) is ∙ ap (λ (ds : List Done). any_created ds k) (sym (take_more results place done within)))
  where
    or_false : (b : Bool) → b ≡ (b || false)
    or_false true = refl
    or_false false = refl

pub noted_all : (results : List Done) (place call : ℕ) (before now : List (ℕ × ℕ)) → length results ≤ place → NotedTo results place call before now →
    (k : ℕ) → creator_at now k ≡ (if any_created results k then Some call else creator_at before k)
noted_all results place call before now past so_far k = so_far k ∙ ap (λ (ds : List Done). if any_created ds k then Some call else creator_at before k) (take_all place results past)

made_whole : (results : List Done) (place k : ℕ) → any_created (take place results) k ≡ true → any_created results k ≡ true
made_whole results place k made =
    sym (ap (λ (ds : List Done). any_created ds k) (take-append-drop place results)) ∙ list_any-append (λ (d : Done). is_created d k) (take place results) (drop place results) ∙ or_left _ _ made

pub kept_or_noted : (results : List Done) (place call : ℕ) (before now : List (ℕ × ℕ)) → NotedTo results place call before now → (k : ℕ) → IsKeptOrNoted call results before now k
kept_or_noted results place call before now so_far k = by_value (any_created (take place results) k)
    (λ made. inr (made_whole results place k made, so_far k ∙ rw made refl))
    (λ none. inl (so_far k ∙ rw none refl))

-- what was noted shows only under numbers that commands created
pub others_kept : (results : List Done) (call : ℕ) (before now : List (ℕ × ℕ)) → ((k : ℕ) → IsKeptOrNoted call results before now k)
    → (k : ℕ) → any_created results k ≡ false → creator_at now k ≡ creator_at before k
others_kept results call before now noted k none = by (noted k)
  where
    by : IsKeptOrNoted call results before now k → creator_at now k ≡ creator_at before k
    by (inl same) = same
    by (inr (made, is)) = let bad : true ≡ false = sym made ∙ none in absurd (true≢false bad)

pub on_ok : {P Q : Type 0} (r : Result (Unit {0}) AllocError) → OnOk r P → (P → Q) → OnOk r Q
on_ok (Ok done) h f = f h
on_ok (Err fault) h f = h

-- what was noted of numbers that aren't used shows nowhere
pub same_creators : (b : Board) (results : List Done) (before now : List (ℕ × ℕ)) → ((k : ℕ) → b.used_ephemeral k ≡ exists b (Eph k)) → ((k : ℕ) → any_created results k ≡ true → b.used_ephemeral k ≡ false)
    → ((k : ℕ) → any_created results k ≡ false → creator_at now k ≡ creator_at before k) → creator_on b now ≡ creator_on b before
same_creators b results before now settled unused others = λ i k. at k i
  where
    at : (k : ℕ) → creator_on b now k ≡ creator_on b before k
    at k = by_value (exists b (Eph k))
        (λ there. by_value (any_created results k)
        (λ made. let bad : true ≡ false = sym there ∙ sym (settled k) ∙ unused k made in absurd (true≢false bad))
        (λ none. rw there (others k none)))
        (λ gone. rw gone refl)
