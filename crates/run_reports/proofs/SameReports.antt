-- Reports that tell the same are written alike.
use Rattle.std.proofs.Common.{◌≡◌, ◌∙◌, ℕ, List, [], ◌∷◌, map, refl, sym, ap}
use Rattle.mg_model.specs.Reports.{ReportLine}
use Rattle.mg_model.specs.Script.{Script}
use Rattle.runner.specs.Line.{Line as RunLine}
use Rattle.check_lines.specs.Output.{CallLine}
use Rattle.runner.specs.OnlyReport.{told_of}
use Rattle.run_reports.specs.RunAnswers.{call_line, call_lines}

abbrev as_line : (ℕ × ℕ) × ReportLine → CallLine
as_line l = record { call = l.0.0; begun = l.0.1; told = l.1 }

each_line : (table : Script) (lines : List RunLine) → map as_line (map (told_of table) lines) ≡ call_lines table lines
each_line table [] = refl
each_line table (l ∷ lines) = ap (λ (more : List CallLine). call_line table l ∷ more) (each_line table lines)

pub same_lines : (table : Script) (lines others : List RunLine) → map (told_of table) others ≡ map (told_of table) lines → call_lines table others ≡ call_lines table lines
same_lines table lines others same = sym (each_line table others) ∙ ap (λ (l : List ((ℕ × ℕ) × ReportLine)). map as_line l) same ∙ each_line table lines
