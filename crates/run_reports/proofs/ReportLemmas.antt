-- The lines of a report, one after the other.
use Rattle.std.proofs.Common.{◌≡◌, ◌∙◌, ◌+◌, ◌<◌, ◌≤◌, ℕ, suc, List, [], ◌∷◌, ◌++◌, Option, Result, Ok, Err, sym, ap, subst, arith, length, take, drop, get_or, take-append-drop, append_assoc, append-nil}
use Rattle.std.proofs.Math.Seq.{take-append_seam, take-suc}
use Rattle.std.proofs.lemmas.Grind.{flat_map-append}
use Rattle.std.proofs.lemmas.List.{drop_all, map-append}
use Rattle.std.proofs.KnownBytes.{Appends-trans}
use Rattle.std.specs.Io.KnownBytes.{Appends}
use Rattle.std.specs.List.{flat_map}
use Rattle.std.specs.Result.{OnOk}
use Rattle.program_rim.specs.Devices.{Passes, WritesFront}
use Rattle.program_rim.proofs.Gathering.{before_more, next_text}
use Rattle.mg_model.specs.Script.{Script}
use Rattle.runner.specs.Line.{Line}
use Rattle.check_lines.specs.Output.{Text, call_text}
use Rattle.run_reports.specs.RunAnswers.{call_line, call_lines}

abbrev pub texts : Script → List Line → Text
texts script lines = flat_map call_text (call_lines script lines)

of_both : (script : Script) (one other : List Line) → texts script (one ++ other) ≡ texts script one ++ texts script other
of_both script one other = ap (flat_map call_text) (map-append (call_line script) one other) ∙ flat_map-append call_text (call_lines script one) (call_lines script other)

-- one more of some lines
pub one_more : (script : Script) (lines : List Line) (i : ℕ) (d : Line) → i < length lines
    → texts script (take (i + 1) lines) ≡ texts script (take i lines) ++ call_text (call_line script (get_or lines i d))
one_more script lines i d within =
    let next : i + 1 ≡ suc i = omega arith in
    ap (λ n. texts script (take n lines)) next ∙ ap (texts script) (take-suc lines i d within)
    ∙ of_both script (take i lines) (get_or lines i d ∷ [])
    ∙ ap (λ (t : Text). texts script (take i lines) ++ t) (append-nil (call_text (call_line script (get_or lines i d))))

-- and all that come behind it
pub and_rest : (script : Script) (lines : List Line) (i : ℕ) (d : Line) → i < length lines
    → texts script lines ≡ (texts script (take i lines) ++ call_text (call_line script (get_or lines i d))) ++ texts script (drop (i + 1) lines)
and_rest script lines i d within =
    ap (texts script) (sym (take-append-drop (i + 1) lines)) ∙ of_both script (take (i + 1) lines) (drop (i + 1) lines)
    ∙ ap (λ (t : Text). t ++ texts script (drop (i + 1) lines)) (one_more script lines i d within)

-- ---- what is written of them

-- a line more is gathered
pub line_more : (E : Type 0) (old mid new : Option Text) (script : Script) (lines : List Line) (i : ℕ) (d : Line) (between kept : Text)
    → i < length lines → Passes {E = E} old mid (texts script (take i lines)) (Ok tt) between
    → Passes {E = E} mid new (between ++ call_text (call_line script (get_or lines i d))) (Ok tt) kept
    → Passes {E = E} old new (texts script (take (i + 1) lines)) (Ok tt) kept
line_more E old mid new script lines i d between kept within p q =
    let sent = next_text E old mid new [] (texts script (take i lines)) (call_text (call_line script (get_or lines i d))) between (Ok tt) kept p q in
    (sent.0, sent.1, sent.2, one_more script lines i d within ∙ sent.3, sent.4)

-- a write failed at a line
pub line_failed : (E : Type 0) (old mid new : Option Text) (script : Script) (lines : List Line) (i : ℕ) (d : Line) (between kept : Text) (fault : E)
    → i < length lines → Passes {E = E} old mid (texts script (take i lines)) (Ok tt) between
    → Passes {E = E} mid new (between ++ call_text (call_line script (get_or lines i d))) (Err fault) kept
    → WritesFront {E = E} old new (Err fault) (texts script lines)
line_failed E old mid new script lines i d between kept fault within p q =
    let sent = next_text E old mid new [] (texts script (take i lines)) (call_text (call_line script (get_or lines i d))) between (Err fault) kept p q in
    let rest : Text = texts script (drop (i + 1) lines) in
    let all : texts script lines ≡ sent.0 ++ (sent.1 ++ rest) = and_rest script lines i d within ∙ before_more _ rest sent.0 sent.1 sent.3 in
    (length sent.0, subst (Appends old new) (sym (ap (take (length sent.0)) all ∙ take-append_seam sent.0 (sent.1 ++ rest))) sent.2)

-- all is gathered, and what is left is written
pub all_written : (E : Type 0) (old mid new : Option Text) (all between : Text) (result : Result (Unit {0}) E) (kept : Text)
    → Passes {E = E} old mid all (Ok tt) between → Passes {E = E} mid new between result kept → OnOk result (kept ≡ [])
    → WritesFront {E = E} old new result all
all_written E old mid new all between (Ok t) kept p q none =
    let is : all ≡ p.0 ++ q.0 = p.3 ∙ ap (λ (r : Text). p.0 ++ r) (sym p.4 ∙ q.3 ∙ ap (λ (r : Text). q.0 ++ r) (sym q.4 ∙ none) ∙ append-nil q.0) in
    subst (Appends old new) (sym is) (Appends-trans old mid new p.0 q.0 p.2 q.2)
all_written E old mid new all between (Err fault) kept p q none =
    let is : all ≡ (p.0 ++ q.0) ++ q.1 = p.3 ∙ ap (λ (r : Text). p.0 ++ r) (sym p.4 ∙ q.3) ∙ sym (append_assoc p.0 q.0 q.1) in (
      length (p.0 ++ q.0),
      subst (Appends old new) (sym (ap (take (length (p.0 ++ q.0))) is ∙ take-append_seam (p.0 ++ q.0) q.1))
          (Appends-trans old mid new p.0 q.0 p.2 q.2),
    )

-- the lines up to the end are all of them
pub up_to_end : (lines : List Line) (i : ℕ) → length lines ≤ i → take i lines ≡ lines
up_to_end lines i past = sym (append-nil (take i lines)) ∙ ap (λ (rest : List Line). take i lines ++ rest) (sym (drop_all i lines past)) ∙ take-append-drop i lines
