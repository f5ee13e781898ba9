use Rattle.std.proofs.Common.{◌≡◌, ◌∙◌, ℕ, ◌+◌, ◌<◌, Bool, List, ◌∷◌, length, drop, get_or, refl, sym, ap, add-one, drop-cons}
use Rattle.mg_names.specs.declared.identifiers.LineNo.{LineNo}
use Rattle.mg_model.specs.Board.{Board}
use Rattle.mg_model.specs.LineEvents.{LineRow}
use Rattle.requests.specs.Connected.{board_in, line_in, has_line, lines_opened}
use Rattle.requests.specs.Idle.{deactivated}
use Rattle.gateway.specs.Standby.{rows_idled, lines_armed}
use Rattle.gateway.proofs.OpeningLemmas.{idled_more, there_deactivated, armed_more}
use Rattle.gateway.proofs.active_and_standby.open_lines.Goals as goal

pub loop-line-preserved : goal.loop-line-preserved
loop-line-preserved c =
    let lines : List LineNo = c.args.lines.now in
    let i : ℕ = c.loop-line.line-index in
    let l : LineNo = get_or lines i (record { 0 = 0 }) in
    let rest : List LineNo = drop (i + 1) lines in
    let start : Board = board_in c.args.connections.now in
    let before : Board = board_in c.loop-line.connections in
    let rows_before : ℕ → LineRow = line_in c.loop-line.connections in
    let inv = c.loop-line.invariant in
    let left : drop i lines ≡ l ∷ rest = (let within : i < length lines = c.loop-line-test.true in rw (add-one, drop-cons lines i (record { 0 = 0 }) within) refl) in
    let idled : board_in c.deactivate.new.self ≡ deactivated before l.0 = c.in_ok-deactivate.ensures.board in
    let board : board_in c.open_line.new.self ≡ deactivated before l.0 = c.in_ok-open_line.ensures.board ∙ idled in
    let there : has_line (board_in c.deactivate.new.self) l.0 ≡ has_line start l.0 =
    ap (λ (b : Board). has_line b l.0) idled ∙ there_deactivated before l.0 l.0 ∙ inv.there l.0 in
    let armed : line_in c.open_line.new.self ≡ lines_opened (has_line start l.0) rows_before l.0 =
    c.in_ok-open_line.ensures.lines
    ∙ ap (λ (b : Bool). lines_opened b (line_in c.deactivate.new.self) l.0) there
    ∙ ap (λ (rows : ℕ → LineRow). lines_opened (has_line start l.0) rows l.0) c.deactivate.ensures.lines in
    record {
      rows = λ t. ap (λ (b : Board). rows_idled rest b.row t) board ∙ idled_more before l rest t
          ∙ ap (λ (ls : List LineNo). rows_idled ls before.row t) (sym left) ∙ inv.rows t;
      cut = ap (λ (b : Board). b.cut) board ∙ inv.cut;
      used_context = ap (λ (b : Board). b.used_context) board ∙ inv.used_context;
      used_ephemeral = ap (λ (b : Board). b.used_ephemeral) board ∙ inv.used_ephemeral;
      class = ap (λ (b : Board). b.class) board ∙ inv.class;
      there = λ n. ap (λ (b : Board). has_line b n) board ∙ there_deactivated before l.0 n ∙ inv.there n;
      lines = λ n. ap (λ (rows : ℕ → LineRow). lines_armed start rest rows n) armed ∙ armed_more start rows_before l rest n
          ∙ ap (λ (ls : List LineNo). lines_armed start ls rows_before n) (sym left) ∙ inv.lines n;
    }
