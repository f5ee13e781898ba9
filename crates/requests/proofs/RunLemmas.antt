-- The run of a request, command by command.
use Rattle.std.proofs.Common.{◌≡◌, ℕ, ◌+◌, ◌<◌, ◌≤◌, List, ◌∷◌, map, drop, length, get_or, drop-cons, add-one, Option, Some, None, inl, inr, refl, ap, subst, sym, ◌∙◌, suc}
use Rattle.std.proofs.lemmas.List.{drop_all}
use Rattle.mg_model.specs.declared.failures.ChosenRefusal.{ChosenRefusal}
use Rattle.mg_model.specs.declared.failures.Failure.{Failure}
use Rattle.mg_names.specs.declared.codes.Code.{Code}
use Rattle.mg_model.specs.declared.items.Item.{Item}
use Rattle.mg_model.specs.Board.{Board}
use Rattle.mg_model.specs.Items.{Done, IsExecuted}
use Rattle.mg_model.specs.LineEvents.{LineRow}
use Rattle.mg_model.specs.Messages as model
use Rattle.mg_model.specs.RequestRun.{Running, RunsFrom, Succeeds, Fails, chosen_at, item_at, descriptors_for}
use Rattle.requests.specs.declared.command.RequestCommand.{RequestCommand}
use Rattle.requests.specs.Commands.{finished, described_line, IsThere}
use Rattle.requests.specs.Views.{command_of}
use Rattle.requests.proofs.CommandLemmas.{finished_is, there_after}

abbrev pub done_on : Running → Board → (ℕ → LineRow) → Running
done_on r after line = record r { board = after; line = line }

-- the board did a command, and then the rest of it was done
pub succeeds : (r next : Running) (command : model.RequestCommand) (item : Item) (after : Board) (line : ℕ → LineRow) (done : Done) (place : ℕ) (refusal : Option ChosenRefusal) (number : ℕ) →
    item ≡ item_at r.results command → chosen_at refusal place ≡ None → IsExecuted r.board item after done → line ≡ r.line →
    next ≡ finished (done_on r after line) (described_line command) done number → Succeeds r command place refusal number next
succeeds r next command item after line done place refusal number item_is none e lines next_is =
    let executed : IsExecuted r.board (item_at r.results command) after done = subst (λ (i : Item). IsExecuted r.board i after done) item_is e in
    record {
      board = after;
      done = done;
      not_chosen = none;
      executed = executed;
      next_is = next_is ∙ ap (λ (ls : ℕ → LineRow). finished (done_on r after ls) (described_line command) done number) lines ∙ finished_is r command after done number executed;
    }

pub there : (b : Board) (results : List Done) (command : model.RequestCommand) (item : Item) (after : Board) (done : Done) →
    item ≡ item_at results command → IsExecuted b item after done → IsThere after (descriptors_for command)
there b results command item after done item_is e = there_after b results command after done (subst (λ (i : Item). IsExecuted b i after done) item_is e)

-- the commands from a place on are the one there and those from the next place on
pub from_place : (commands : List RequestCommand) (place : ℕ) (command : RequestCommand) → place < length commands → command ≡ get_or commands place command →
    map command_of (drop place commands) ≡ command_of command ∷ map command_of (drop (place + 1) commands)
from_place commands place command bound is =
    ap (λ cs. map command_of cs) (drop-cons commands place command bound)
    ∙ ap (λ (c : RequestCommand). command_of c ∷ map command_of (drop (suc place) commands)) (sym is)
    ∙ ap (λ (k : ℕ). command_of command ∷ map command_of (drop k commands)) (sym (add-one place))

pub runs_on : (number : ℕ) (refusal : Option ChosenRefusal) (r next : Running) (place : ℕ) (commands : List RequestCommand) (command : RequestCommand) (end : Running) (failure : Option Failure) →
    place < length commands → command ≡ get_or commands place command → Succeeds r (command_of command) place refusal number next →
    RunsFrom number refusal next (place + 1) (map command_of (drop (place + 1) commands)) end failure → RunsFrom number refusal r place (map command_of (drop place commands)) end failure
unfolding RunsFrom
runs_on number refusal r next place commands command end failure bound is e more = rw (from_place commands place command bound is) (inl (next, e, more))

pub runs_to_failure : (number : ℕ) (refusal : Option ChosenRefusal) (r end : Running) (place : ℕ) (commands : List RequestCommand) (command : RequestCommand) (code : Code) →
    place < length commands → command ≡ get_or commands place command → Fails r (command_of command) place refusal code → end ≡ r →
    RunsFrom number refusal r place (map command_of (drop place commands)) end (Some (record { place = place; code = code }))
unfolding RunsFrom
runs_to_failure number refusal r end place commands command code bound is fails stays = rw (from_place commands place command bound is) (inr (code, fails, stays, refl))

pub runs_out : (number : ℕ) (refusal : Option ChosenRefusal) (r : Running) (place : ℕ) (commands : List RequestCommand) → length commands ≤ place →
    RunsFrom number refusal r place (map command_of (drop place commands)) r None
unfolding RunsFrom
runs_out number refusal r place commands past = rw (drop_all place commands past) (refl, refl)
