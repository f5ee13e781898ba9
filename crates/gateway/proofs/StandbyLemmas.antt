-- What is done on two connections that show the same leaves them showing the same.
use Rattle.std.proofs.Common.{◌≡◌, ◌∙◌, ℕ, Option, Some, None, IfSome, refl, sym, ap}
use Rattle.mg_model.specs.declared.failures.ChosenRefusal.{ChosenRefusal}
use Rattle.mg_model.specs.declared.failures.Failure.{Failure}
use Rattle.mg_model.specs.Board.{Board, IsSettled}
use Rattle.mg_model.specs.Items.{Done}
use Rattle.mg_model.specs.Messages.{Request}
use Rattle.mg_model.specs.RequestRun.{Running, RunsFrom}
use Rattle.mg_model.specs.declared.line_events.LineEvent.{LineEvent}
use Rattle.mg_model.specs.Gateway.{outcome_of, board_restarted}
use Rattle.mg_model.specs.LineEvents.{LineRow, cleared}
use Rattle.mg_names.specs.declared.identifiers.LineNo.{LineNo}
use Rattle.std.proofs.Common.{List}
use Rattle.requests.specs.Connected.{Connected, board_in, line_in, has_line, start_in, lines_after, HasResults}
use Rattle.gateway.specs.Standby.{ShowsSame, ShowsOpened, IsStandby, HasEnd, board_idled, lines_armed}

abbrev pub all_cleared : (ℕ → LineRow) → ℕ → LineRow
all_cleared rows l = cleared (rows l)

pub restarted_same : (s a t b : Connected) → ShowsSame s a → board_in t ≡ board_restarted (board_in s) → line_in t ≡ (λ l. cleared (line_in s l))
    → board_in b ≡ board_restarted (board_in a) → line_in b ≡ (λ l. cleared (line_in a l)) → ShowsSame t b
restarted_same s a t b same t_board t_lines b_board b_lines = record {
  board = t_board ∙ ap board_restarted same.board ∙ sym b_board;
  lines = t_lines ∙ ap all_cleared same.lines ∙ sym b_lines;
}

-- the rows after an event
abbrev after_event : ℕ → LineEvent → Board → (ℕ → LineRow) → ℕ → LineRow
after_event l event b rows = lines_after (has_line b l) rows l (outcome_of (rows l) event)

pub happened_same : (l : ℕ) (event : LineEvent) (s a t b : Connected) → ShowsSame s a → board_in t ≡ board_in s
    → line_in t ≡ after_event l event (board_in s) (line_in s) → board_in b ≡ board_in a → line_in b ≡ after_event l event (board_in a) (line_in a)
    → ShowsSame t b
happened_same l event s a t b same t_board t_lines b_board b_lines = record {
  board = t_board ∙ same.board ∙ sym b_board;
  lines = t_lines ∙ ap (λ (x : Board). after_event l event x (line_in s)) same.board ∙ ap (after_event l event (board_in a)) same.lines ∙ sym b_lines;
}

pub opened_same : (start t b : Connected) (lines : List LineNo) → ShowsOpened start lines t → ShowsOpened start lines b → ShowsSame t b
opened_same start t b lines one other = record { board = one.board ∙ sym other.board; lines = one.rows ∙ sym other.rows }

pub opened_from_same : (s a t : Connected) (lines : List LineNo) → ShowsSame s a → ShowsOpened s lines t → ShowsOpened a lines t
opened_from_same s a t lines same opened = record {
  board = opened.board ∙ ap (board_idled lines) same.board;
  rows = opened.rows ∙ ap (λ (x : Board). lines_armed x lines (line_in s)) same.board ∙ ap (lines_armed (board_in a) lines) same.lines;
}

-- a request that ended from a start has the results with which connections follow it
pub can_follow : (start ended : Connected) (request : Request) (refusal : Option ChosenRefusal) (results : List Done) → HasEnd start request refusal ended results → HasResults start request refusal results
can_follow start ended request refusal results has = record {
  end = record { board = has.is_end.board; line = line_in ended; results = results; notes = has.notes };
  failure = has.failure;
  runs = has.is_end.runs;
  results_are = refl;
}

-- connections that follow a request to its end show what is active
pub followed : (start ended active : Connected) (request : Request) (refusal : Option ChosenRefusal) (results : List Done) (o : Option Connected) → HasEnd start request refusal ended results → active ≡ ended
    → IfSome o (λ c. (e : Running) (failure : Option Failure) (settled : Board) → RunsFrom request.number refusal (start_in start) 0 request.commands e failure → e.results ≡ results
    → IsSettled e.board settled → (board_in c ≡ settled) × (line_in c ≡ e.line)) → IsStandby o active
followed start ended active request refusal results None has same follows = tt
followed start ended active request refusal results (Some c) has same follows =
    let ends = has.is_end in
    let both = follows (record { board = ends.board; line = line_in ended; results = results; notes = has.notes }) has.failure (board_in ended) ends.runs refl ends.is_settled in
    record { board = both.0 ∙ ap board_in (sym same); lines = both.1 ∙ ap line_in (sym same) }
