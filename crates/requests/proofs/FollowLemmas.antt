-- A request that is done once more by the results that it had: after so many commands the state is that of a run that there is with these results.
use Rattle.std.proofs.Common.{◌≡◌, ℕ, ◌+◌, ◌<◌, ◌≤◌, List, [], ◌∷◌, ◌++◌, map, take, drop, length, get_or, Option, inl, inr, refl, ap, subst, sym, ◌∙◌, append_assoc, append-nil, arith}
use Rattle.std.proofs.Math.Seq.{get_or-append_seam, take-append_seam}
use Rattle.std.proofs.lemmas.List.{length-append, length-map, length-drop, length-take-le, take_all}
use Rattle.mg_model.specs.declared.failures.ChosenRefusal.{ChosenRefusal}
use Rattle.mg_model.specs.declared.failures.Failure.{Failure}
use Rattle.mg_model.specs.declared.items.Item.{Item}
use Rattle.mg_model.specs.Board.{Board, IsSettled}
use Rattle.mg_model.specs.Items.{Done, IsLegal, IsExecuted}
use Rattle.mg_model.specs.LineEvents.{LineRow}
use Rattle.mg_model.specs.Messages as model
use Rattle.mg_model.specs.RequestRun.{Running, RunsFrom, Succeeds, item_at}
use Rattle.mg_model.proofs.Settled.{settled_same}
use Rattle.requests.specs.declared.command.RequestCommand.{RequestCommand}
use Rattle.requests.specs.Commands.{row_in, described_line, created, IsRepeated}
use Rattle.requests.specs.Connected.{Connected, board_in, line_in}
use Rattle.requests.specs.Views.{command_of}
use Rattle.requests.proofs.CommandLemmas.{finished_is}
use Rattle.requests.proofs.RunLemmas.{from_place}
use Rattle.requests.proofs.SameLemmas.{executed_same, same_end, IsAlike}

-- ---- results that a run adds

pub record Adds (xs ys : List Done) : Type 0 where
  pub more : List Done
  pub is : ys ≡ xs ++ more

adds : (number : ℕ) (refusal : Option ChosenRefusal) (r : Running) (place : ℕ) (commands : List model.RequestCommand) (end : Running) (failure : Option Failure) →
    RunsFrom number refusal r place commands end failure → Adds r.results end.results
unfolding RunsFrom
adds number refusal r place [] end failure (is, none) = record { more = []; is = ap (λ (q : Running). q.results) is ∙ sym (append-nil r.results) }
adds number refusal r place (command ∷ commands) end failure (inl (next, e, more)) =
    let tail = adds number refusal next (place + 1) commands end failure more in
    record {
      more = e.done ∷ tail.more;
      is = tail.is ∙ ap (λ (q : Running). q.results ++ tail.more) e.next_is ∙ append_assoc r.results (e.done ∷ []) tail.more;
    }
adds number refusal r place (command ∷ commands) end failure (inr (code, fails, is, failed)) = record { more = []; is = ap (λ (q : Running). q.results) is ∙ sym (append-nil r.results) }

-- a command that was executed, and the run from there
pub record GoesOn (number : ℕ) (refusal : Option ChosenRefusal) (r : Running) (place : ℕ) (commands : List model.RequestCommand) (end : Running) (failure : Option Failure) : Type 0 where
  pub command : model.RequestCommand
  pub left : List model.RequestCommand
  pub are : commands ≡ command ∷ left
  pub next : Running
  pub succeeds : Succeeds r command place refusal number next
  pub rest : RunsFrom number refusal next (place + 1) left end failure

no_longer : (r end : Running) → end ≡ r → length r.results < length end.results → ⊥
no_longer r end is longer = let same = ap (λ (q : Running). length q.results) is in omega (arith, same, longer)

goes_on : (number : ℕ) (refusal : Option ChosenRefusal) (r : Running) (place : ℕ) (commands : List model.RequestCommand) (end : Running) (failure : Option Failure) →
    RunsFrom number refusal r place commands end failure → length r.results < length end.results → GoesOn number refusal r place commands end failure
unfolding RunsFrom
goes_on number refusal r place [] end failure (is, none) longer = absurd (no_longer r end is longer)
goes_on number refusal r place (command ∷ commands) end failure (inl (next, e, more)) longer =
    record { command = command; left = commands; are = refl; next = next; succeeds = e; rest = more }
goes_on number refusal r place (command ∷ commands) end failure (inr (code, fails, is, failed)) longer = absurd (no_longer r end is longer)

-- a run that adds no result has ended
is_over : (number : ℕ) (refusal : Option ChosenRefusal) (r : Running) (place : ℕ) (commands : List model.RequestCommand) (end : Running) (failure : Option Failure) →
    RunsFrom number refusal r place commands end failure → end.results ≡ r.results → end ≡ r
unfolding RunsFrom
is_over number refusal r place [] end failure (is, none) same = is
is_over number refusal r place (command ∷ commands) end failure (inl (next, e, more)) same =
    let tail = adds number refusal next (place + 1) commands end failure more in
    let all : end.results ≡ (r.results ++ e.done ∷ []) ++ tail.more = tail.is ∙ ap (λ (q : Running). q.results ++ tail.more) e.next_is in
    let one = ap length (sym same ∙ all) in
    let two = length-append (r.results ++ e.done ∷ []) tail.more in
    let three = length-append r.results (e.done ∷ []) in
    absurd (grind (arith, one, two, three))
is_over number refusal r place (command ∷ commands) end failure (inr (code, fails, is, failed)) same = is

-- ---- so many commands are done

pub record IsUnderWay (number : ℕ) (refusal : Option ChosenRefusal) (start : Running) (request : List model.RequestCommand) (commands : List RequestCommand) (results : List Done) (place : ℕ) (board : Board) (line : ℕ → LineRow) : Type 0 where
  pub now : Running
  pub end : Running
  pub failure : Option Failure
  pub whole : RunsFrom number refusal start 0 request end failure
  pub rest : RunsFrom number refusal now place (map command_of (drop place commands)) end failure
  pub end_is : end.results ≡ results
  pub now_is : now.results ≡ take place results
  pub board_is : board ≡ now.board
  pub line_is : line ≡ now.line

the_head : (x y : model.RequestCommand) (xs ys : List model.RequestCommand) → x ∷ xs ≡ y ∷ ys → x ≡ y
the_head x y xs ys e = ap (λ (cs : List model.RequestCommand). get_or cs 0 x) e

the_tail : (x y : model.RequestCommand) (xs ys : List model.RequestCommand) → x ∷ xs ≡ y ∷ ys → xs ≡ ys
the_tail x y xs ys e = ap (λ (cs : List model.RequestCommand). drop 1 cs) e

module _ (number : ℕ) (refusal : Option ChosenRefusal) (start : Running) (request : List model.RequestCommand) (commands : List RequestCommand) (results : List Done) (place : ℕ) (board : Board) (line : ℕ → LineRow)
    (u : IsUnderWay number refusal start request commands results place board line) (within : place < length results) where
  so_many : length u.now.results ≡ place
  so_many = let most : place ≤ length results = omega (arith, within) in ap length u.now_is ∙ length-take-le place results most

  more_to_come : length u.now.results < length u.end.results
  more_to_come = let all = ap length u.end_is in omega (arith, so_many, all, within)

  goes : GoesOn number refusal u.now place (map command_of (drop place commands)) u.end u.failure
  goes = goes_on number refusal u.now place (map command_of (drop place commands)) u.end u.failure u.rest more_to_come

  -- each result is that of a command
  pub has_command : place < length commands
  has_command =
      let all = ap length goes.are in
      let one = length-map (drop place commands) command_of in
      let two = length-drop place commands in
      grind (arith, all, one, two)

  module _ (command : RequestCommand) (is : command ≡ get_or commands place command) where
    same_command : command_of command ≡ goes.command
    same_command = the_head _ _ _ _ (sym (from_place commands place command has_command is) ∙ goes.are)

    same_rest : goes.left ≡ map command_of (drop (place + 1) commands)
    same_rest = sym (the_tail _ _ _ _ (sym (from_place commands place command has_command is) ∙ goes.are))

    same_item : item_at u.now.results goes.command ≡ item_at (take place results) (command_of command)
    same_item = λ i. item_at (u.now_is i) (sym same_command i)

    -- and that one was legal
    pub is_legal : IsLegal board (item_at (take place results) (command_of command))
    is_legal =
        subst (λ (b : Board). IsLegal b (item_at (take place results) (command_of command))) (sym u.board_is)
        (subst (λ (item : Item). IsLegal u.now.board item) same_item goes.succeeds.executed.legal)

    module _ (had : Done) (had_is : had ≡ get_or results place had) (after : Board) (left : ℕ → LineRow)
        (repeated : IsRepeated board line (command_of command) (take place results) had number after left) where
      tail : Adds goes.next.results u.end.results
      tail = adds number refusal goes.next (place + 1) goes.left u.end u.failure goes.rest

      next_results : goes.next.results ≡ u.now.results ++ goes.succeeds.done ∷ []
      next_results = ap (λ (q : Running). q.results) goes.succeeds.next_is

      results_are : results ≡ u.now.results ++ goes.succeeds.done ∷ tail.more
      results_are = sym u.end_is ∙ tail.is ∙ ap (λ (ds : List Done). ds ++ tail.more) next_results ∙ append_assoc u.now.results (goes.succeeds.done ∷ []) tail.more

      same_done : had ≡ goes.succeeds.done
      same_done =
          had_is ∙ ap (λ (ds : List Done). get_or ds place had) results_are
          ∙ ap (λ (n : ℕ). get_or (u.now.results ++ goes.succeeds.done ∷ tail.more) n had) (sym so_many)
          ∙ get_or-append_seam u.now.results goes.succeeds.done tail.more had

      next_many : length goes.next.results ≡ place + 1
      next_many = ap length next_results ∙ length-append u.now.results (goes.succeeds.done ∷ []) ∙ ap (λ (n : ℕ). n + 1) so_many

      next_so_far : goes.next.results ≡ take (place + 1) results
      next_so_far =
          sym (take-append_seam goes.next.results tail.more) ∙ ap (λ (ds : List Done). take (length goes.next.results) ds) (sym tail.is ∙ u.end_is)
          ∙ ap (λ (n : ℕ). take n results) next_many

      executed : IsExecuted u.now.board (item_at u.now.results goes.command) after repeated.done
      executed =
          subst (λ (b : Board). IsExecuted b (item_at u.now.results goes.command) after repeated.done) u.board_is
          (subst (λ (item : Item). IsExecuted board item after repeated.done) (sym same_item) repeated.executed)

      next_board : after ≡ goes.next.board
      next_board =
          executed_same u.now.board (item_at u.now.results goes.command) after goes.succeeds.board repeated.done goes.succeeds.done executed goes.succeeds.executed
          (repeated.same ∙ ap created same_done)
          ∙ sym (ap (λ (q : Running). q.board) goes.succeeds.next_is)

      next_line : left ≡ goes.next.line
      next_line =
          repeated.rows_are ∙ (λ i. row_in repeated.done.lines (described_line (same_command i)) (u.line_is i) number)
          ∙ ap (λ (q : Running). q.line) (finished_is u.now goes.command after repeated.done number executed)
          ∙ sym (ap (λ (q : Running). q.line) goes.succeeds.next_is)

      -- one more is done
      pub goes_on_so : IsUnderWay number refusal start request commands results (place + 1) after left
      goes_on_so = record {
        now = goes.next;
        end = u.end;
        failure = u.failure;
        whole = u.whole;
        rest = subst (λ (cs : List model.RequestCommand). RunsFrom number refusal goes.next (place + 1) cs u.end u.failure) same_rest goes.rest;
        end_is = u.end_is;
        now_is = next_so_far;
        board_is = next_board;
        line_is = next_line;
      }

-- all are done: what is left is what every run leaves with these results
pub ends_so : (number : ℕ) (refusal : Option ChosenRefusal) (start : Running) (request : List model.RequestCommand) (commands : List RequestCommand) (results : List Done) (place : ℕ) (board : Board) (line : ℕ → LineRow) →
    IsUnderWay number refusal start request commands results place board line → length results ≤ place → (end : Connected) → IsSettled board (board_in end) → line_in end ≡ line →
    (e : Running) (failure : Option Failure) (settled : Board) → RunsFrom number refusal start 0 request e failure → e.results ≡ results → IsSettled e.board settled →
    (board_in end ≡ settled) × (line_in end ≡ e.line)
ends_so number refusal start request commands results place board line u past end is_settled lines e failure settled runs are settles =
    let over : u.end ≡ u.now = is_over number refusal u.now place (map command_of (drop place commands)) u.end u.failure u.rest (u.end_is ∙ sym (take_all place results past) ∙ sym u.now_is) in
    let itself : IsAlike start start = record { board = refl; line = refl; created = refl } in
    let alike = same_end number refusal start start 0 request u.end e u.failure failure itself u.whole runs (ap (λ (ds : List Done). map created ds) (u.end_is ∙ sym are)) in
    let boards : board ≡ e.board = u.board_is ∙ ap (λ (q : Running). q.board) (sym over) ∙ alike.board in
    (settled_same e.board (board_in end) settled (subst (λ (b : Board). IsSettled b (board_in end)) boards is_settled) settles, lines ∙ u.line_is ∙ ap (λ (q : Running). q.line) (sym over) ∙ alike.line)
