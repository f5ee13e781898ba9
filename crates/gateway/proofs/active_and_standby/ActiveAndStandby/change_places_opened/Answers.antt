-- The same lines were opened on both.
use Rattle.std.proofs.Common.{◌≡◌, ◌∙◌, ap, sym}
use Rattle.requests.specs.Connected.{Connected, board_in, line_in}
use Rattle.gateway.specs.Standby.{board_idled, lines_armed}
use Rattle.gateway.proofs.active_and_standby.ActiveAndStandby.change_places_opened.Goals as goal

pub invariant_of-self-2 : goal.invariant_of-self-2
invariant_of-self-2 c =
    let start : c.replace-before.result ≡ c.args.self.now = c.replace-before.ensures.value ∙ c.self.view_is in
    record {
      board = c.in-Ok.ensures.board ∙ ap (λ (s : Connected). board_idled c.args.lines.now (board_in s)) start ∙ sym c.requires.board
          ∙ ap board_in (sym c.replace-before.ensures.after);
      lines = c.in-Ok.ensures.rows ∙ ap (λ (s : Connected). lines_armed (board_in s) c.args.lines.now (line_in s)) start ∙ sym c.requires.rows
          ∙ ap line_in (sym c.replace-before.ensures.after);
    }
