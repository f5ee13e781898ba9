-- A command that is executed: which lines it finds, which stay, which leave, and what is left to do once the board did it.
use Rattle.std.proofs.Common.{◌≡◌, ◌≢◌, ℕ, ◌==◌, Bool, true, false, not, ◌&&◌, ◌||◌, IsTrue, if◌then◌else◌, List, [], ◌∷◌, ◌++◌, Contains, filter, Option, Some, None, is_some, option_map, Result, Ok, Err, IfOk, OnErr, refl, ap, sym, ◌∙◌, arith, rules}
use Rattle.std.proofs.lemmas.Grind.{common_steps}
use Rattle.std.proofs.lemmas.List.Folds.{list_any_at}
use Rattle.std.proofs.lemmas.Map.Views.{Contains-from_any}
use Rattle.std.proofs.lemmas.Bool.{and_parts}
use Rattle.mg_names.specs.declared.codes.Code.TheVariants.{UnknownContext, UnknownTermination}
use Rattle.mg_names.specs.declared.identifiers.TermId.{TermId}
use Rattle.mg_names.specs.declared.identifiers.TermId.TheVariants.{Line}
use Rattle.mg_model.specs.declared.items.Added.TheVariants as added
use Rattle.mg_model.specs.declared.items.Item.{Item}
use Rattle.mg_model.specs.declared.items.Item.TheVariants.{Add, Modify, Move, Subtract, SubtractAll, SetTopology}
use Rattle.mg_model.specs.declared.rows.Row.{Row}
use Rattle.mg_model.specs.Board.{Board, exists, same_term, place_in}
use Rattle.mg_model.specs.Items.{Chosen, Done, IsLegal, IsExecuted, effect, subtracts}
use Rattle.mg_model.specs.LineEvents.{LineRow, cleared}
use Rattle.mg_model.specs.declared.references.TerminationRef.TheVariants as on
use Rattle.mg_model.specs.Messages.{RequestCommand, add_line, add_ephemeral, modify, move, subtract, subtract_all, set_topology}
use Rattle.mg_model.specs.RequestRun.{LineDescriptors, RaisedNote, Running, item_at, descriptors_for, described_row, has_new_events, raised, line_after, after_command}
use Rattle.contexts.proofs.ExecLemmas.{both_known, not_null}
use Rattle.requests.specs.Commands.{IsThere, raised_on, row_in, finished, without_settings, described_line}
use Rattle.mg_model.specs.Members.{is_among}
use Rattle.mg_model.proofs.Cases.{same_test, not_refused}
use Rattle.mg_model.proofs.Terminations.{same_term_is}
use Rattle.requests.specs.Connected.{has_line, IsMatched}

-- ---- lines that a command finds

abbrev line : ℕ → TermId
line l = Line (record { 0 = l })

place_not_null : (row : Option Row) (c : ℕ) → c ≢ 0 → (place_in row == c) ≡ true → is_some row ≡ true
place_not_null None c not_zero h = absurd (not_zero (grind (arith, common_steps)))
place_not_null (Some row) c not_zero h = refl

pub leaves_exist : (b : Board) (item : Item) (l : ℕ) → IsLegal b item → subtracts b item (line l) ≡ true → has_line b l ≡ true
leaves_exist b (Add context what settings) l legal h = absurd (search rules)
leaves_exist b (Modify context t settings) l legal h = absurd (search rules)
leaves_exist b (Move context t settings) l legal h = absurd (search rules)
leaves_exist b (Subtract context t) l legal h = ap (λ (u : TermId). exists b u) (same_term_is (line l) t h) ∙ not_refused (exists b t) (legal UnknownTermination)
leaves_exist b (SubtractAll context) l legal h = place_not_null (b.row (line l)) context.0 (not_null b context.0 (legal UnknownContext)) h
leaves_exist b (SetTopology context t u topology) l legal h = absurd (search rules)

set_stays : (b : Board) (t : TermId) (row : Row) (l : ℕ) (same : Bool) → same_term (line l) t ≡ same → exists b t ≡ true →
    is_some (if same then Some row else b.row (line l)) ≡ has_line b l
set_stays b t row l true e there = sym (ap (λ (u : TermId). exists b u) (same_term_is (line l) t e) ∙ there)
set_stays b t row l false e there = refl

out_stays : (b : Board) (row : Row) (l : ℕ) (gone : Bool) → (gone ≡ true → has_line b l ≡ true) → is_some (if gone then Some row else b.row (line l)) ≡ has_line b l
out_stays b row l true there = sym (there refl)
out_stays b row l false there = refl

effect_stays : (b : Board) (item : Item) (chosen : Chosen) (l : ℕ) → IsLegal b item → has_line (effect b item chosen) l ≡ has_line b l
effect_stays b (Add context (added.Line k) settings) chosen l legal = set_stays b (Line k) _ l _ refl (both_known _ _ (legal UnknownTermination)).0
effect_stays b (Add context added.NewEphemeral settings) chosen l legal = refl
effect_stays b (Modify context t settings) chosen l legal = set_stays b t _ l _ refl (both_known _ _ (legal UnknownTermination)).0
effect_stays b (Move context t settings) chosen l legal = set_stays b t _ l _ refl (both_known _ _ (legal UnknownTermination)).0
effect_stays b (Subtract context t) chosen l legal = out_stays b _ l (subtracts b (Subtract context t) (line l)) (leaves_exist b (Subtract context t) l legal)
effect_stays b (SubtractAll context) chosen l legal = out_stays b _ l (subtracts b (SubtractAll context) (line l)) (leaves_exist b (SubtractAll context) l legal)
effect_stays b (SetTopology context t u topology) chosen l legal = refl

-- the lines of the board stay
pub lines_stay : (b : Board) (item : Item) (after : Board) (done : Done) → IsExecuted b item after done → (l : ℕ) → has_line after l ≡ has_line b l
lines_stay b item after done e l = ap (λ (c : Board). has_line c l) e.effect_is ∙ effect_stays b item e.chosen l e.legal

-- so they are those that have rows
pub matched : {E : Type 0} (b after : Board) (item : Item) (answer : Result Done E) (rows : ℕ → Option LineRow) → IfOk answer (IsExecuted b item after) → OnErr answer (after ≡ b) →
    IsMatched b rows → IsMatched after rows
matched b after item (Ok done) rows executed unchanged h l = lines_stay b item after done executed l ∙ h l
matched b after item (Err e) rows executed unchanged h l = ap (λ (c : Board). has_line c l) unchanged ∙ h l

there_stays : (b after : Board) → ((l : ℕ) → has_line after l ≡ has_line b l) → (d : Option LineDescriptors) → IsThere b d → IsThere after d
there_stays b after stays None there = tt
there_stays b after stays (Some on) there = stays on.line ∙ there

there_before : (b : Board) (results : List Done) (command : RequestCommand) → IsLegal b (item_at results command) → IsThere b (descriptors_for command)
there_before b results (add_line c l d) legal = (both_known _ _ (legal UnknownTermination)).0
there_before b results (add_ephemeral c d) legal = tt
there_before b results (modify c (on.Line l) d) legal = (both_known _ _ (legal UnknownTermination)).0
there_before b results (modify c (on.Ephemeral e) d) legal = tt
there_before b results (move c (on.Line l) d) legal = (both_known _ _ (legal UnknownTermination)).0
there_before b results (move c (on.Ephemeral e) d) legal = tt
there_before b results (subtract c t) legal = tt
there_before b results (subtract_all c) legal = tt
there_before b results (set_topology c t u topology) legal = tt

-- the line that a command describes is there after it
pub there_after : (b : Board) (results : List Done) (command : RequestCommand) (after : Board) (done : Done) → IsExecuted b (item_at results command) after done → IsThere after (descriptors_for command)
there_after b results command after done e = there_stays b after (lines_stay b _ after done e) (descriptors_for command) (there_before b results command e.legal)

-- ---- lines that leave

abbrev is_equal : ℕ → ℕ → Bool
is_equal n m = n == m

equal_is : (n m : ℕ) → is_equal n m ≡ true → n ≡ m
equal_is n m h = grind (arith, common_steps)

equal_itself : (n : ℕ) → is_equal n n ≡ true
equal_itself n = grind (arith, common_steps)

among_from : (numbers : List ℕ) (n : ℕ) → Contains numbers n → is_among numbers n ≡ true
among_from numbers n (i, bound, is) = list_any_at (λ m. n == m) numbers i n bound (ap (λ (m : ℕ). n == m) is ∙ equal_itself n)

both : (a b : Bool) → a ≡ true → b ≡ true → IsTrue (a && b)
both a b h k = rw (h, k) (search rules)

-- the lines that leave are those that the result lists
pub among_leaves : (b : Board) (item : Item) (after : Board) (done : Done) → IsExecuted b item after done → (l : ℕ) → is_among done.lines l ≡ subtracts b item (line l)
among_leaves b item after done e l = same_test (is_among done.lines l) (subtracts b item (line l))
    (λ h. (and_parts (subtracts b item (line l)) (has_line b l) ((e.result.lines.exactly l).0 (Contains-from_any equal_is l done.lines h))).0)
    (λ h. among_from done.lines l ((e.result.lines.exactly l).1 (both (subtracts b item (line l)) (has_line b l) h (leaves_exist b item l e.legal h))))

-- ---- the rest of a command

described_none : (b : Board) (results : List Done) (command : RequestCommand) (u : TermId) → subtracts b (item_at results command) u ≡ true → descriptors_for command ≡ None
described_none b results (add_line c l d) u h = absurd (search rules)
described_none b results (add_ephemeral c d) u h = refl
described_none b results (modify c t d) u h = absurd (search rules)
described_none b results (move c t d) u h = absurd (search rules)
described_none b results (subtract c t) u h = refl
described_none b results (subtract_all c) u h = refl
described_none b results (set_topology c t v topology) u h = refl

row_either : (d : Option LineDescriptors) (row : LineRow) (l number : ℕ) (gone : Bool) → (gone ≡ true → d ≡ None) →
    (if gone then cleared (described_row d row l number) else described_row d row l number) ≡ (if gone then cleared row else described_row d row l number)
row_either d row l number true none = rw (none refl) refl
row_either d row l number false none = refl

raised_same : (r : Running) (d : Option LineDescriptors) (number : ℕ) → raised_on r.line d number ≡ raised r d number
raised_same r None number = refl
raised_same r (Some on) number = refl

line_same : (r : Running) (command : RequestCommand) (gone : List ℕ) (number : ℕ) → ((l : ℕ) → is_among gone l ≡ subtracts r.board (item_at r.results command) (line l)) →
    (l : ℕ) → row_in gone (descriptors_for command) r.line number l ≡ line_after r command (item_at r.results command) number l
line_same r command gone number same l =
    ap (λ (g : Bool). if g then cleared (described_row (descriptors_for command) (r.line l) l number) else described_row (descriptors_for command) (r.line l) l number) (same l)
    ∙ row_either (descriptors_for command) (r.line l) l number _ (λ h. described_none r.board r.results command (line l) h)

-- the settings make no difference to it
finished_by_line : (r : Running) (d : Option LineDescriptors) (done : Done) (number : ℕ) → finished r (option_map without_settings d) done number ≡ finished r d done number
finished_by_line r None done number = refl
finished_by_line r (Some on) done number = refl

-- what is left to do once the board did a command is the rest of the command
pub finished_is : (r : Running) (command : RequestCommand) (after : Board) (done : Done) (number : ℕ) → IsExecuted r.board (item_at r.results command) after done →
    finished (record r { board = after }) (described_line command) done number ≡ after_command r command (item_at r.results command) after done number
finished_is r command after done number e =
    let same : (l : ℕ) → is_among done.lines l ≡ subtracts r.board (item_at r.results command) (line l) = among_leaves r.board (item_at r.results command) after done e in
    finished_by_line (record r { board = after }) (descriptors_for command) done number
    ∙ (λ i. record {
      board = after;
      line = λ l. line_same r command done.lines number same l i;
      results = r.results ++ done ∷ [];
      notes = filter (λ (n : RaisedNote). not (same n.line i || has_new_events (descriptors_for command) n.line)) r.notes ++ raised_same r (descriptors_for command) number i;
    })
