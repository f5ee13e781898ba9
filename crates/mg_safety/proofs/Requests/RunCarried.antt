-- One command and the lines: they show what the command makes of the configuration; a line is armed, emptied or left by it; and the lines
-- of others stay.
use Rattle.mg_safety.proofs.Words.{◌≡◌, ◌∙◌, ◌<◌, ℕ, true, false, length, Some, None, is_some, sym, ap, subst, eqb-true, eq-eqb, ◌==◌, if◌then◌else◌, unwrap_or}
use Rattle.mg_safety.proofs.Words.{Command, AddLine, ModifyLine, MoveLine, Subtract, SubtractAll, Empty, LineOptions, Agent, Made, line_descriptors}
use Rattle.mg_safety.proofs.Words.{expected_if, is_listed, command_of, after_result, Board, place_of, with_at, Configuration, is_in, is_live, plays_after}
use Rattle.mg_safety.proofs.Words.{is_legal, effect, Done, IsExecuted, LineRow, cleared, Running, described_row, line_after, on_line, Script, IsCommandOf}
use Rattle.mg_safety.proofs.Words.{same_test, same_turned}
use Rattle.mg_names.specs.declared.identifiers.TermId.TheVariants as term
use Rattle.mg_model.specs.declared.commands.Termination.TheVariants as termination
use Rattle.mg_safety.proofs.InvariantWords.{naming, naming_at, Shown, LinesShown, Owner, owned_at, AreBuilt, item_for, context_for}
use Rattle.mg_safety.proofs.Requests.RunLines.{AreShown, leaves_test, described_lines, cleared_lines}
use Rattle.mg_safety.proofs.Shared.Components.{and_true, listed_test}

from_shown : (script : Script) (e : Agent) (line : ℕ → LineRow) (c : Configuration) → LinesShown script e line c
    → AreShown script e.lines e.expected line c.events c.plays
from_shown script e line c s = record { events = s.events; silent = s.silent; expected = s.expected; unnamed = s.unnamed }

to_shown : (script : Script) (e : Agent) (line : ℕ → LineRow) (c : Configuration) → AreShown script e.lines e.expected line c.events c.plays
    → LinesShown script e line c
to_shown script e line c s = record { events = s.events; silent = s.silent; expected = s.expected; unnamed = s.unnamed }

module _ (script : Script) (own : Owner) (e a : Agent) (made : Made) (r : Running) (c : Configuration) (number : ℕ)
    (shown : Shown script (owned_at own r.board) (naming e) r.board c) (built : AreBuilt (naming e) (naming_at a made r.results) r.board)
    (lines_shown : LinesShown script e r.line c) where
  stay : AreShown script e.lines e.expected r.line c.events c.plays
  stay = from_shown script e r.line c lines_shown

  once : (x : ℕ) → x < length script.lines → (i : ℕ) → i < length script.lines → a.lines x ≡ a.lines i → x ≡ i
  once x inside i within same = shown.line_once x i inside within
      (ap (λ (lines : ℕ → ℕ). lines x) (sym built.lines) ∙ same ∙ ap (λ (lines : ℕ → ℕ). lines i) built.lines)

  by_descriptors : (x : ℕ) (o : LineOptions) → x < length script.lines
      → AreShown script e.lines (expected_if (is_some o.events) e.expected x number)
      (λ l. described_row (Some (on_line (a.lines x) (line_descriptors script o))) (r.line l) l number)
      (with_at c.events x (unwrap_or o.events (c.events x))) (with_at c.plays x (plays_after script o.signals (c.plays x)))
  by_descriptors x o inside =
      subst (λ (lines : ℕ → ℕ). AreShown script lines (expected_if (is_some o.events) e.expected x number)
      (λ l. described_row (Some (on_line (a.lines x) (line_descriptors script o))) (r.line l) l number)
      (with_at c.events x (unwrap_or o.events (c.events x))) (with_at c.plays x (plays_after script o.signals (c.plays x)))) built.lines
      (described_lines script a.lines e.expected r.line c.events c.plays
      (subst (λ (lines : ℕ → ℕ). AreShown script lines e.expected r.line c.events c.plays) (sym built.lines) stay)
      x number o.events o.signals (once x inside))

  line_left : (x i : ℕ) → x < length script.lines → i < length script.lines → (e.lines i == a.lines x) ≡ (x == i)
  line_left x i inside within = same_test (e.lines i == a.lines x) (x == i)
      (λ same. eq-eqb x i (shown.line_once x i inside within (ap (λ (lines : ℕ → ℕ). lines x) (sym built.lines) ∙ sym (eqb-true (e.lines i) (a.lines x) same))))
      (λ same. eq-eqb (e.lines i) (a.lines x) (ap e.lines (sym (eqb-true x i same)) ∙ ap (λ (lines : ℕ → ℕ). lines x) (sym built.lines)))

  by_subtract : (x : ℕ) → x < length script.lines
      → AreShown script e.lines (with_at e.expected x None) (λ l. if l == a.lines x then cleared (r.line l) else r.line l)
      (λ i. if x == i then Empty else c.events i) (λ i. if x == i then false else c.plays i)
  by_subtract x inside = cleared_lines script e.lines e.expected (with_at e.expected x None) r.line c.events c.plays stay (λ l. l == a.lines x) (λ i. x == i)
      (λ i within. line_left x i inside within) (λ i within. ap (λ test. if test then None else e.expected i) (same_turned i x))

  by_subtract_all : (j : ℕ) (done : Done) (after : Board) → is_live (c.context j) ≡ true
      → IsExecuted r.board (item_for (naming_at a made r.results) (SubtractAll j)) after done
      → AreShown script e.lines (λ i. if is_listed done.lines (Some (e.lines i)) then None else e.expected i)
      (λ l. if place_of r.board (term.Line (record { 0 = l })) == context_for (naming_at a made r.results) j then cleared (r.line l) else r.line l)
      (λ i. if is_in (c.spot (termination.Line i)) j then Empty else c.events i) (λ i. if is_in (c.spot (termination.Line i)) j then false else c.plays i)
  by_subtract_all j done after live x =
      let m = naming_at a made r.results in
      let leaves_of : (i : ℕ) → i < length script.lines
      → (place_of r.board (term.Line (record { 0 = e.lines i })) == context_for m j) ≡ is_in (c.spot (termination.Line i)) j =
      leaves_test script (owned_at own r.board) (naming e) m r.board c shown built j live in
      cleared_lines script e.lines e.expected (λ i. if is_listed done.lines (Some (e.lines i)) then None else e.expected i) r.line c.events c.plays stay
      (λ l. place_of r.board (term.Line (record { 0 = l })) == context_for m j) (λ i. is_in (c.spot (termination.Line i)) j) leaves_of
      (λ i within. ap (λ test. if test then None else e.expected i) (listed_test _ done.lines x.result.lines (e.lines i)
      ∙ and_true _ _ (shown.line_stands i within) ∙ leaves_of i within))

  -- the lines show what a command makes of the configuration
  pub lines_carried : (command : Command) (after : Board) (done : Done) → IsCommandOf script command → is_legal c command ≡ true
      → IsExecuted r.board (item_for (naming_at a made r.results) command) after done
      → LinesShown script (after_result e command done number)
      (line_after r (command_of script a made command) (item_for (naming_at a made r.results) command) number) (effect script c command)
  lines_carried (AddLine create j x o) after done declared legal ran = to_shown script _ _ _ (by_descriptors x o declared.1)
  lines_carried (ModifyLine place x o) after done declared legal ran = to_shown script _ _ _ (by_descriptors x o declared.1)
  lines_carried (MoveLine j x o) after done declared legal ran = to_shown script _ _ _ (by_descriptors x o declared.1)
  lines_carried (Subtract j (termination.Line x)) after done declared legal ran = to_shown script _ _ _ (by_subtract x declared.1)
  lines_carried (SubtractAll j) after done declared legal ran = to_shown script _ _ _ (by_subtract_all j done after legal ran)
  lines_carried command after done declared legal ran = to_shown script _ _ _ stay
