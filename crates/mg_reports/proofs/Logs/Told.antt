-- From the log of a gateway alone each call's report is counted.
use Rattle.std.proofs.Common.{◌≡◌, ◌∙◌, ◌++◌, ℕ, List, [], ◌∷◌, sym, ap, subst}
use Rattle.std.specs.Prelude.{◌%◌}
use Rattle.mg_model.specs.Numbers.{plan_calls}
use Rattle.std.proofs.lemmas.Bool.{eqb-true}
use Rattle.std.proofs.Math.Nat.{zero-add, mod-eq_of_lt}
use Rattle.mg_model.specs.declared.plans.PlanStep.{PlanStep}
use Rattle.mg_model.specs.Agent.{opened}
use Rattle.mg_model.specs.Plans.{number_begun}
use Rattle.mg_model.specs.Reports.{IsReported, Progress, ReportLine, start_as}
use Rattle.mg_model.specs.World.{World, Opened}
use Rattle.mg_safety.proofs.Messages.NamedMessages.{opening_numbered}
use Rattle.mg_reports.specs.Among.{GoesAmong, own_steps, restarts_beside}
use Rattle.mg_reports.specs.Logs.{Counted, LogsTellReports, counted, line_counted, none_counted, restarts_logged, steps_logged}
use Rattle.mg_reports.proofs.Among.Reported.{reports_among}
use Rattle.mg_reports.proofs.Logs.Counts.{as_counted}
use Rattle.mg_reports.proofs.Logs.Entries.{goes_logged}
use Rattle.mg_reports.proofs.Logs.Turns.{GoesOn}

-- the first call that stands is the call itself
number_at_first : (first : ℕ) → number_begun first 0 ≡ first
number_at_first first = zero-add first

starts : (one : Opened) (w : World) → as_counted one.call w none_counted ≡ start_as one w
starts one w = ap (λ (n : ℕ). record { world = w; standing = n; begun = 0; events = 0; idle = 0; retired = [] }) (number_at_first one.call)

pub logs_tell : LogsTellReports
logs_tell script entries is_script listed none_broken few calls all_few start opens log end runs one among = (on.stands.0, (on.stands.1, told))
  where
    last : Counted
    last = counted script one.call log none_counted

    on : GoesOn script one.call start end none_counted last (steps_logged one.call log) (restarts_logged one.call log)
    on = goes_logged script one.call (all_few one among) log start end none_counted (record {
      numbered = opening_numbered script calls start opens;
      only = λ other b its there. let was = opens.agents.no_other other b there in sym was.2 ∙ sym (mod-eq_of_lt (all_few was.0 was.1)) ∙ ap (λ (n : ℕ). n % plan_calls) was.2 ∙ eqb-true (other % plan_calls) one.call its ∙ sym (number_at_first one.call);
      stands = (opened script one.call one.lines, ap start.agent (number_at_first one.call) ∙ opens.agents.opened one among);
    }) runs

    lines : List ReportLine
    lines = last.retired ++ line_counted script end on.stands.0 last ∷ []

    goes : GoesAmong script one.call on.turns (start_as one start) (as_counted one.call end last)
    goes = subst (λ (p : Progress). GoesAmong script one.call on.turns p (as_counted one.call end last)) (starts one start) on.goes

    reported : IsReported script one (own_steps on.turns) (restarts_beside on.turns) lines
    reported = reports_among script entries is_script listed none_broken few calls one among (all_few one among)
        (λ other there within. sym (mod-eq_of_lt (all_few other there)) ∙ within) start opens on.turns (as_counted one.call end last) goes on.stands.0 on.stands.1

    told : IsReported script one (steps_logged one.call log) (restarts_logged one.call log) lines
    told = subst (λ (n : ℕ). IsReported script one (steps_logged one.call log) n lines) on.others_are
        (subst (λ (steps : List PlanStep). IsReported script one steps (restarts_beside on.turns) lines) on.steps_are reported)
