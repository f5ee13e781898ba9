-- A request has the same results from connections that show the same.
use Rattle.std.proofs.Common.{◌≡◌, ℕ, List, refl, subst}
use Rattle.mg_model.specs.declared.failures.ChosenRefusal.{ChosenRefusal}
use Rattle.mg_model.specs.declared.failures.Failure.{Failure}
use Rattle.mg_model.specs.Board.{Board}
use Rattle.mg_model.specs.Items.{Done}
use Rattle.mg_model.specs.LineEvents.{LineRow}
use Rattle.mg_model.specs.Messages.{Request}
use Rattle.mg_model.specs.RequestRun.{RaisedNote, RunsFrom}
use Rattle.std.specs.Prelude.{Option, []}
use Rattle.requests.specs.Connected.{Connected, board_in, line_in, Ends, HasResults}

pub ended_with : (start ended : Connected) (request : Request) (refusal : Option ChosenRefusal) (results : List Done) (notes : List RaisedNote)
    (failure : Option Failure) → Ends start request refusal ended results notes failure → HasResults start request refusal results
ended_with start ended request refusal results notes failure is = record {
  end = record { board = is.board; line = line_in ended; results = results; notes = notes };
  failure = failure;
  runs = is.runs;
  results_are = refl;
}

pub from_equal : (one other : Connected) (request : Request) (refusal : Option ChosenRefusal) (results : List Done) → board_in one ≡ board_in other
    → line_in one ≡ line_in other → HasResults one request refusal results → HasResults other request refusal results
from_equal one other request refusal results boards lines has = record {
  end = has.end;
  failure = has.failure;
  runs = subst (λ (rows : ℕ → LineRow). RunsFrom request.number refusal (record { board = board_in other; line = rows; results = []; notes = [] }) 0 request.commands has.end has.failure) lines
      (subst (λ (b : Board). RunsFrom request.number refusal (record { board = b; line = line_in one; results = []; notes = [] }) 0 request.commands has.end has.failure) boards has.runs);
  results_are = has.results_are;
}
