-- A step is counted as a log counts it.
use Rattle.std.proofs.Common.{◌≡◌, ◌∙◌, ◌+◌, ◌++◌, ℕ, List, [], ◌∷◌, map, Some, None, refl, ap}
use Rattle.std.specs.Prelude.{codes}
use Rattle.std.proofs.lemmas.List.{map-append}
use Rattle.mg_model.specs.declared.events.Event.{Event}
use Rattle.mg_model.specs.declared.plans.PlanStep.{PlanStep}
use Rattle.mg_model.specs.declared.plans.PlanStep.TheVariants.{Begins}
use Rattle.mg_model.specs.Reports.{ReportLine}
use Rattle.mg_model.specs.Script.{Script}
use Rattle.mg_model.specs.Tables.{state_of}
use Rattle.mg_reports.specs.Logs.{Counted, count_step}
use Rattle.planned_calls.specs.Counts.{IsRenewed, counts_of}
use Rattle.planned_calls.specs.ReportLines.{gone_line}
use Rattle.planned_calls.specs.declared.call_count.CallCount.{CallCount}
use Rattle.planned_calls.specs.declared.call_count.RetiredCall.{RetiredCall}

abbrev line : Script → (state events idle : ℕ) → ReportLine
line script state events idle = record { state = (state_of script state).name; phase = codes "retired"; events = events; idle = idle }

abbrev these : List ReportLine → (events idle : ℕ) → Counted
these retired events idle = record { retired = retired; events = events; idle = idle }

module _ (script : Script) (a b : CallCount) where
  pub begun_counted : (state : ℕ) (event : Event) → IsRenewed a state b → counts_of script b ≡ count_step script Begins state (Some event) (counts_of script a)
  begun_counted state event is =
      ap (λ (n : ℕ). these (map (gone_line script) b.gone.items) n b.idle) is.events
      ∙ ap (λ (n : ℕ). these (map (gone_line script) b.gone.items) 1 n) is.idle
      ∙ ap (λ (gone : List RetiredCall). these (map (gone_line script) gone) 1 0) is.gone
      ∙ ap (λ (lines : List ReportLine). these lines 1 0) (map-append (gone_line script) a.gone.items (is.last ∷ []))
      ∙ ap (λ (last : ReportLine). these (map (gone_line script) a.gone.items ++ last ∷ []) 1 0) last_is
    where
      last_is : gone_line script is.last ≡ line script state a.events a.idle
      last_is =
          ap (λ (n : ℕ). line script n is.last.events is.last.idle) is.of_state ∙ ap (λ (n : ℕ). line script state n is.last.idle) is.of_events
          ∙ ap (λ (n : ℕ). line script state a.events n) is.of_idle

  -- one event more, or one idle step
  pub more_counted : (events idle : ℕ) → b.gone ≡ a.gone → b.events ≡ events → b.idle ≡ idle
      → counts_of script b ≡ these (map (gone_line script) a.gone.items) events idle
  more_counted events idle gone of_events of_idle =
      ap (λ gone. these (map (gone_line script) gone.items) b.events b.idle) gone ∙ ap (λ (n : ℕ). these (map (gone_line script) a.gone.items) n b.idle) of_events
      ∙ ap (λ (n : ℕ). these (map (gone_line script) a.gone.items) events n) of_idle

pub idle_counts : (script : Script) (step : PlanStep) (state : ℕ) (c : Counted) → count_step script step state None c ≡ record c { idle = c.idle + 1 }
idle_counts script Begins state c = refl
idle_counts script step state c = refl

pub event_counts : (script : Script) (step : PlanStep) (state : ℕ) (event : Event) (c : Counted) → (step ≡ Begins → ⊥)
    → count_step script step state (Some event) c ≡ record c { events = c.events + 1 }
event_counts script Begins state event c other = absurd (other refl)
event_counts script step state event c other = refl
