-- Two runs of a call alone by the same steps tell the same lines.
use Rattle.mg_model.specs.Accepted.{HasFewCommands}
use Rattle.std.proofs.Common.{◌≡◌, ◌∙◌, ◌++◌, ℕ, Bool, true, List, [], ◌∷◌, Some, refl, sym, ap, subst, arith, IsTrue, Contains}
use Rattle.mg_merge.proofs.Words.{Agent, All, Entry, Event, HasIdentifiersLeft, IsEntryOf, IsOpening, IsScript, NoneBroken, Opened, PlanStep, Progress}
use Rattle.mg_merge.proofs.Words.{ReportLine, Runs, Script, StepsRun, World, line_now, only_here, only_one, start_as, the_some}
use Rattle.mg_alike.proofs.Words.{HasEnoughNumbers}
use Rattle.mg_reports.proofs.Placings.{one_placing}
use Rattle.mg_alike.proofs.Alone.Enough.{classes_enough, never_run_out}
use Rattle.mg_reports.proofs.Along.{AreAlong, along, next_step}
use Rattle.mg_reports.proofs.Beside.{AreBeside}
use Rattle.mg_reports.proofs.Lines.{line_same}
use Rattle.mg_reports.proofs.Openings.{at_start}
use Rattle.mg_reports.specs.OneReport.{OneReportAlone}

-- alone each call is one of its own
abbrev pub any_call : ℕ → Bool
any_call n = true

module _ (script : Script) (entries : List Entry) (is_script : IsScript script) (listed : All (IsEntryOf script) entries) (none_broken : NoneBroken script entries)
    (few : HasFewCommands script) (one : Opened) where
  -- where each number is given, identifiers are left
  pub left_in : (start : World) (opens : IsOpening script (one ∷ []) start) (every : (n : ℕ) → IsTrue (start.gateway.board.class n)) (past : List Event) (w : World)
      → Runs script past start w → HasIdentifiersLeft w
  left_in start opens every past w runs =
      never_run_out script entries is_script listed none_broken few one start opens enough past w runs
    where
      enough : HasEnoughNumbers start.gateway.board.class
      enough = classes_enough start.gateway.board.class 0 1 (omega arith) (omega arith) (λ n e. every n)

  module _ (start first : World) (opens : IsOpening script (one ∷ []) start) (also_opens : IsOpening script (one ∷ []) first)
      (every : (n : ℕ) → IsTrue (start.gateway.board.class n)) (also_every : (n : ℕ) → IsTrue (first.gateway.board.class n)) where
    all_steps : (steps : List PlanStep) (p : Progress) (v : World) → AreBeside script any_call start first p.standing p.world v → (end other : Progress)
        → StepsRun script one.call steps p end → StepsRun script one.call steps (record p { world = v }) other → AreAlong script any_call start first end other
    unfolding StepsRun
    all_steps [] p v both end other run also = along script any_call start first end other p v run also both
    all_steps (step ∷ more) p v both end other (after, goes, run) (next, moves, also) =
        let it = next_step script entries is_script listed none_broken (one ∷ []) (one ∷ []) one any_call (λ begun. refl) start first opens also_opens p v both
        (left_in start opens every both.past p.world both.runs) (left_in first also_opens also_every both.history v both.also_runs) step after next goes moves in
        all_steps more after it.0 it.2 end other run (subst (λ (q : Progress). StepsRun script one.call more q other) it.1 also)

-- the lines at an end
abbrev pub told : Script → Agent → Progress → List ReportLine
told script a p = p.retired ++ line_now script a p ∷ []

pub one_alone : OneReportAlone
one_alone script entries is_script listed none_broken few one steps lines others is also =
    also.lines_are
    ∙ ap (λ (q : Progress). told script also.agent q) it.1
    ∙ ap (λ (a : Agent). told script a (record is.end { world = it.0 })) (sym other_agent)
    ∙ ap (λ (line : ReportLine). is.end.retired ++ line ∷ [])
    (line_same script is.end it.0 it.2.treat.renaming it.2.treat.one it.2.treat.other it.2.treat.alike)
    ∙ ap (λ (a : Agent). told script a is.end) one_agent
    ∙ sym is.lines_are
  where
    run : StepsRun script one.call steps (start_as one is.start) is.end
    run = subst (λ (l : List PlanStep). StepsRun script one.call l (start_as one is.start) is.end) ((one_placing steps is.placed).0 is.placing) is.runs

    also_run : StepsRun script one.call steps (start_as one also.start) also.end
    also_run = subst (λ (l : List PlanStep). StepsRun script one.call l (start_as one also.start) also.end) ((one_placing steps also.placed).0 also.placing) also.runs

    only_one_opens : (other : Opened) → Contains (one ∷ []) other → IsTrue (any_call other.call) → other.call ≡ one.call
    only_one_opens other there its = ap (λ (o : Opened). o.call) (sym (only_one one other there))

    it : AreAlong script any_call is.start also.start is.end also.end
    it = all_steps script entries is_script listed none_broken few one is.start also.start is.opens also.opens is.every_number also.every_number steps
        (start_as one is.start) also.start
        (at_start script any_call (one ∷ []) (one ∷ []) one is.start also.start is.opens also.opens (only_here one) (only_here one) refl only_one_opens only_one_opens)
        is.end also.end run also_run

    one_agent : it.2.treat.one ≡ is.agent
    one_agent = the_some it.2.treat.one is.agent (sym it.2.treat.alike.open_one ∙ is.stands)

    other_agent : it.2.treat.other ≡ also.agent
    other_agent = the_some it.2.treat.other also.agent
        (sym it.2.treat.alike.open_other ∙ subst (λ (q : Progress). q.world.agent q.standing ≡ Some also.agent) it.1 also.stands)
