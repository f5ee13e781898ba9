-- What is counted of a call is how far it is: a step is counted as the report counts it.
use Rattle.std.proofs.Common.{◌≡◌, ◌∙◌, ◌+◌, ◌++◌, ℕ, [], ◌∷◌, length, Some, None, refl, sym, ap}
use Rattle.std.specs.Prelude.{codes}
use Rattle.std.proofs.lemmas.List.{length-append}
use Rattle.mg_model.specs.declared.events.Event.{Event}
use Rattle.mg_model.specs.declared.plans.PlanStep.{PlanStep}
use Rattle.mg_model.specs.declared.plans.PlanStep.TheVariants.{Begins, Restarts}
use Rattle.mg_model.specs.Agent.{Agent}
use Rattle.mg_model.specs.Plans.{number_begun}
use Rattle.mg_model.specs.Reports.{Progress, ReportLine, after_event}
use Rattle.mg_model.specs.Script.{Script}
use Rattle.mg_model.specs.Tables.{state_of}
use Rattle.mg_model.specs.World.{World}
use Rattle.mg_reports.specs.Logs.{Counted, count_step}

abbrev pub as_counted : (first : ℕ) → World → Counted → Progress
as_counted first w c = record {
  world = w;
  standing = number_begun first (length c.retired);
  begun = length c.retired;
  events = c.events;
  idle = c.idle;
  retired = c.retired;
}

-- ---- an event

pub counts_event : (script : Script) (first : ℕ) (a : Agent) (w after : World) (c : Counted) (step : PlanStep) (state : ℕ) (event : Event) → (step ≡ Restarts → ⊥)
    → state ≡ a.state → after_event script first a (as_counted first w c) step after ≡ as_counted first after (count_step script step state (Some event) c)
counts_event script first a w after c Begins state event no_restart of_state =
    ap begun_as (sym (length-append c.retired (line ∷ [])))
    ∙ ap (λ (s : ℕ). as_counted first after (count_step script Begins s (Some event) c)) (sym of_state)
  where
    line : ReportLine
    line = record { state = (state_of script a.state).name; phase = codes "retired"; events = c.events; idle = c.idle }

    begun_as : ℕ → Progress
    begun_as n = record { world = after; standing = number_begun first n; begun = n; events = 1; idle = 0; retired = c.retired ++ line ∷ [] }
counts_event script first a w after c Restarts state event no_restart of_state = absurd (no_restart refl)
counts_event script first a w after c step state event no_restart of_state = refl

-- ---- an idle step

pub counts_idle : (script : Script) (step : PlanStep) (state : ℕ) (c : Counted) → count_step script step state None c ≡ record c { idle = c.idle + 1 }
counts_idle script Begins state c = refl
counts_idle script step state c = refl
