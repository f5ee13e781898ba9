-- The lines of a report as the members of a JSON list, one more at a time.
use Rattle.std.proofs.Common.{◌≡◌, ◌∙◌, ◌+◌, ◌<◌, ◌≤◌, ℕ, Bool, true, List, ◌++◌, length, drop, get_or, sym, ap, append-nil, append_assoc}
use Rattle.std.proofs.lemmas.List.{drop_all, drop_more}
use Rattle.mg_model.specs.Script.{Script}
use Rattle.run_reports.specs.Line.{Line}
use Rattle.check_lines.specs.Output.{Text}
use Rattle.run_reports.specs.RunAnswers.{call_line, call_lines}
use Rattle.run_facts.specs.Saying.{quoted_from, quoted_line}

-- those from a place on
abbrev pub quoted_rest : Script → (is_next : Bool) → List Line → ℕ → Text
quoted_rest script is_next lines i = quoted_from is_next (call_lines script (drop i lines))

module _ (script : Script) (is_next : Bool) (lines : List Line) (i : ℕ) (before all : Text) (is : before ++ quoted_rest script is_next lines i ≡ all) where
  -- one more stands behind those before
  pub one_more_quoted : (l : Line) (after : Text) → i < length lines → after ≡ before ++ quoted_line is_next (call_line script (get_or lines i l))
      → after ++ quoted_rest script true lines (i + 1) ≡ all
  unfolding quoted_from
  one_more_quoted l after within written =
      ap (λ (text : Text). text ++ quoted_rest script true lines (i + 1)) written
      ∙ append_assoc before (quoted_line is_next (call_line script (get_or lines i l))) (quoted_rest script true lines (i + 1))
      ∙ ap (λ (rest : List Line). before ++ quoted_from is_next (call_lines script rest)) (sym (drop_more lines i l within))
      ∙ is

  pub all_quoted : length lines ≤ i → before ≡ all
  unfolding quoted_from
  all_quoted past =
      sym (append-nil before)
      ∙ ap (λ (rest : List Line). before ++ quoted_from is_next (call_lines script rest)) (sym (drop_all i lines past))
      ∙ is
