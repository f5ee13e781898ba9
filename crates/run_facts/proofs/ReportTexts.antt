-- The lines of a report, one after the other.
use Rattle.std.proofs.Common.{◌≡◌, ◌∙◌, ◌+◌, ◌<◌, ◌≤◌, ℕ, List, [], ◌∷◌, ◌++◌, length, take, get_or, sym, ap, append-nil, take-append-drop}
use Rattle.std.proofs.lemmas.Grind.{flat_map-append}
use Rattle.std.proofs.lemmas.List.{drop_all, map-append, take_more}
use Rattle.std.specs.List.{flat_map}
use Rattle.mg_model.specs.Script.{Script}
use Rattle.run_reports.specs.Line.{Line}
use Rattle.check_lines.specs.Output.{Text, call_text}
use Rattle.run_reports.specs.RunAnswers.{call_line, call_lines}

abbrev pub texts : Script → List Line → Text
texts script lines = flat_map call_text (call_lines script lines)

of_both : (script : Script) (one other : List Line) → texts script (one ++ other) ≡ texts script one ++ texts script other
of_both script one other =
    ap (flat_map call_text) (map-append (call_line script) one other) ∙ flat_map-append call_text (call_lines script one) (call_lines script other)

-- one more of some lines
pub one_more : (script : Script) (lines : List Line) (i : ℕ) (l : Line) → i < length lines → l ≡ get_or lines i l
    → texts script (take (i + 1) lines) ≡ texts script (take i lines) ++ call_text (call_line script l)
one_more script lines i l within is =
    ap (texts script) (take_more lines i l within ∙ ap (λ (one : Line). take i lines ++ one ∷ []) (sym is))
    ∙ of_both script (take i lines) (l ∷ [])
    ∙ ap (λ (text : Text). texts script (take i lines) ++ text) (append-nil (call_text (call_line script l)))

-- those up to the end are all of them
pub up_to_end : (lines : List Line) (i : ℕ) → length lines ≤ i → take i lines ≡ lines
up_to_end lines i past =
    sym (append-nil (take i lines)) ∙ ap (λ (rest : List Line). take i lines ++ rest) (sym (drop_all i lines past)) ∙ take-append-drop i lines
