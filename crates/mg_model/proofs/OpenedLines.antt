-- The lines of an opening call by call: what is so of each line that is held is so of each line of each call, and the other way round.
use Rattle.std.proofs.Common.{◌≡◌, ◌∙◌, ◌<◌, ℕ, List, length, Some, refl, sym, ap}
use Rattle.std.specs.Prelude.{◌↔◌, Contains}
use Rattle.mg_names.specs.declared.identifiers.TermId.TheVariants.{Line}
use Rattle.mg_model.specs.declared.rows.Row.{Row}
use Rattle.mg_model.specs.Board.{null_row}
use Rattle.mg_model.specs.Gateway.{Gateway}
use Rattle.mg_model.specs.Numbers.{the_line}
use Rattle.mg_model.specs.Script.{Script}
use Rattle.mg_model.specs.World.{AreOpenedLines, IsLineOf, Opened, armed_line}

-- the line of a call for a line of the script
pub own_line : (script : Script) (calls : List Opened) (one : Opened) → Contains calls one → (i : ℕ) → i < length script.lines
    → IsLineOf script calls (one.lines i) one.call
own_line script calls one among i within = record { one = one; i = i; among = among; is_call = refl; within = within; is_line = refl }

module _ (script : Script) (calls : List Opened) (g : Gateway) where
  -- call by call, and line by line
  pub opened_lines :
      ((one : Opened) → Contains calls one → (i : ℕ) → i < length script.lines → g.board.row (Line (the_line (one.lines i))) ≡ Some null_row)
      → ((one : Opened) → Contains calls one → (i : ℕ) → i < length script.lines → g.line (one.lines i) ≡ armed_line)
      → ((one : Opened) → Contains calls one → (i : ℕ) → i < length script.lines → g.holder (one.lines i) ≡ Some one.call)
      → ((l : ℕ) (row : Row) → g.board.row (Line (the_line l)) ≡ Some row → row ≡ null_row)
      → ((l call : ℕ) → g.holder l ≡ Some call → IsLineOf script calls l call)
      → AreOpenedLines script calls g
  opened_lines stand armed held others_null alone = record {
    held = λ l call. (alone l call, holds l call);
    stand = λ l call is. let own = alone l call is in
        ap (λ (n : ℕ). g.board.row (Line (the_line n))) (sym own.is_line) ∙ stand own.one own.among own.i own.within;
    armed = λ l call is. let own = alone l call is in ap g.line (sym own.is_line) ∙ armed own.one own.among own.i own.within;
    others_null = others_null;
  }
    where
      holds : (l call : ℕ) → IsLineOf script calls l call → g.holder l ≡ Some call
      holds l call own = ap g.holder (sym own.is_line) ∙ held own.one own.among own.i own.within ∙ ap (λ (n : ℕ). Some n) own.is_call

  module _ (lines : AreOpenedLines script calls g) where
    pub line_held : (one : Opened) → Contains calls one → (i : ℕ) → i < length script.lines → g.holder (one.lines i) ≡ Some one.call
    line_held one among i within = (lines.held (one.lines i) one.call).1 (own_line script calls one among i within)

    pub line_stands : (one : Opened) → Contains calls one → (i : ℕ) → i < length script.lines
        → g.board.row (Line (the_line (one.lines i))) ≡ Some null_row
    line_stands one among i within = lines.stand (one.lines i) one.call (line_held one among i within)

    pub line_armed : (one : Opened) → Contains calls one → (i : ℕ) → i < length script.lines → g.line (one.lines i) ≡ armed_line
    line_armed one among i within = lines.armed (one.lines i) one.call (line_held one among i within)

    pub holder_line : (l call : ℕ) → g.holder l ≡ Some call → IsLineOf script calls l call
    holder_line l call is = (lines.held l call).0 is
