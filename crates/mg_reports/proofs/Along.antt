-- Two runs from two openings in which a call is beside itself: a step that happens in the one happens in the other, and is counted alike.
use Rattle.std.proofs.Common.{◌≡◌, ◌∙◌, ◌++◌, ◌+◌, ◌⊎◌, ℕ, Bool, List, [], ◌∷◌, sym, ap, subst, inl, inr, IsTrue, codes}
use Rattle.mg_merge.proofs.Words.{Agent, All, Entry, Event, HasIdentifiersLeft, IsEntryOf, IsOpening, IsScript, Means, NoneBroken, Occurs, OccursTo, OfCall}
use Rattle.mg_merge.proofs.Words.{Opened, PlanStep, Progress, ReportLine, Restart, Script, StepHappens, StepIsIdle, World, after_event, begin, line_retired}
use Rattle.mg_merge.proofs.Words.{number_begun, the_call, the_some}
use Rattle.mg_model.specs.World.{Begins as IsBegun}
use Rattle.mg_reports.proofs.Placings.{one_event}
use Rattle.mg_reports.proofs.Beside.{AreBeside, beside_turned}
use Rattle.mg_reports.proofs.Meanings.{IsKind, kind_of}
use Rattle.mg_reports.proofs.Lines.{line_same}
use Rattle.mg_reports.proofs.Steps.{begun_beside, means_both, not_idle, of_call, own_beside, restarted_beside}

abbrev pub Goes : Script → ℕ → Progress → PlanStep → Progress → Type 0
Goes script first p step after = StepHappens script first p step after ⊎ StepIsIdle script first p step after

-- the other run is where the one is, but for its world
abbrev pub AreAlong : Script → (keep : ℕ → Bool) → (start first : World) → (one other : Progress) → Type 0
AreAlong script keep start first one other =
    (u : World) × (other ≡ record one { world = u }) × AreBeside script keep start first one.standing one.world u

pub along : (script : Script) (keep : ℕ → Bool) (start first : World) (after next p : Progress) (u : World) → after ≡ p → next ≡ record p { world = u }
    → AreBeside script keep start first p.standing p.world u → AreAlong script keep start first after next
along script keep start first after next p u after_is next_is both =
    subst (λ (z : Progress). AreAlong script keep start first z next) (sym after_is) (u, next_is, both)

module _ (script : Script) (entries : List Entry) (is_script : IsScript script) (listed : All (IsEntryOf script) entries) (none_broken : NoneBroken script entries)
    (calls others : List Opened) (one : Opened) (keep : ℕ → Bool) (within : (begun : ℕ) → IsTrue (keep (number_begun one.call begun))) (start first : World)
    (opens : IsOpening script calls start) (also_opens : IsOpening script others first) where
  -- ---- a step that happens in both

  module _ (p : Progress) (v : World) (both : AreBeside script keep start first p.standing p.world v) (left : HasIdentifiersLeft p.world)
      (also_left : HasIdentifiersLeft v) (step : PlanStep) (after next : Progress)
      (x : StepHappens script one.call p step after) (y : StepHappens script one.call (record p { world = v }) step next) where
    abbrev number : ℕ
    number = number_begun one.call (p.begun + 1)

    one_agent : both.treat.one ≡ x.agent
    one_agent = the_some both.treat.one x.agent (sym both.treat.alike.open_one ∙ x.stands)

    other_agent : both.treat.other ≡ y.agent
    other_agent = the_some both.treat.other y.agent (sym both.treat.alike.open_other ∙ y.stands)

    one_means : Means p.world both.treat.one number step x.event
    one_means = subst (λ (a : Agent). Means p.world a number step x.event) (sym one_agent) x.means

    other_means : Means v both.treat.other number step y.event
    other_means = subst (λ (a : Agent). Means v a number step y.event) (sym other_agent) y.means

    same : x.event ≡ y.event
    same = one_event v both.treat.other number step x.event y.event
        (means_both script entries is_script listed none_broken calls others keep start first opens also_opens p.standing p.world v both number step x.event one_means)
        other_means

    of : both.treat.one.call ≡ p.standing
    of = of_call script entries is_script listed none_broken calls others keep start first opens also_opens p.standing p.world v both

    retired_same : line_retired script y.agent (record p { world = v }) ≡ line_retired script x.agent p
    retired_same =
        ap (λ (a : Agent). line_retired script a (record p { world = v })) (sym other_agent)
        ∙ ap (λ (line : ReportLine). record line { phase = codes "retired" })
        (line_same script p v both.treat.renaming both.treat.one both.treat.other both.treat.alike)
        ∙ ap (λ (a : Agent). line_retired script a p) one_agent

    by_kind : IsKind both.treat.one number step x.event → AreAlong script keep start first after next
    by_kind (inl own) =
        let is : x.event ≡ OfCall (the_call p.standing) own.happens = own.is ∙ ap (λ (n : ℕ). OfCall (the_call n) own.happens) of in
        let o : OccursTo script p.world p.standing own.happens x.world = subst (λ (e : Event). Occurs script p.world e x.world) is x.occurs in
        let t : OccursTo script v p.standing own.happens y.world = subst (λ (e : Event). Occurs script v e y.world) (sym same ∙ is) y.occurs in
        along script keep start first after next (record p { world = x.world; events = p.events + 1 }) y.world (x.after_is ∙ own.counts script one.call x.agent p x.world)
        (y.after_is ∙ own.counts script one.call y.agent (record p { world = v }) y.world)
        (own_beside script entries is_script listed none_broken calls others keep start first opens also_opens p.standing p.world v both left also_left own.happens own.goes_on
        x.world y.world o t)
    by_kind (inr (inl begins)) =
        let is : x.event ≡ begin number p.standing = begins.1 ∙ ap (λ (n : ℕ). begin number n) of in
        let b : IsBegun script p.world number p.standing x.world = subst (λ (e : Event). Occurs script p.world e x.world) is x.occurs in
        let d : IsBegun script v number p.standing y.world = subst (λ (e : Event). Occurs script v e y.world) (sym same ∙ is) y.occurs in
        along script keep start first after next (begun (line_retired script x.agent p) x.world) y.world
        (x.after_is ∙ ap (λ (s : PlanStep). after_event script one.call x.agent p s x.world) begins.0)
        (y.after_is ∙ ap (λ (s : PlanStep). after_event script one.call y.agent (record p { world = v }) s y.world) begins.0
        ∙ ap (λ (line : ReportLine). begun line y.world) retired_same)
        (begun_beside script entries is_script listed none_broken calls others keep start first opens also_opens p.standing number p.world v both (within (p.begun + 1)) x.world y.world b d)
      where
        begun : ReportLine → World → Progress
        begun line w = record { world = w; standing = number; begun = p.begun + 1; events = 1; idle = 0; retired = p.retired ++ line ∷ [] }
    by_kind (inr (inr restarts)) =
        let o : Occurs script p.world Restart x.world = subst (λ (e : Event). Occurs script p.world e x.world) restarts.1 x.occurs in
        let t : Occurs script v Restart y.world = subst (λ (e : Event). Occurs script v e y.world) (sym same ∙ restarts.1) y.occurs in
        along script keep start first after next (record p { world = x.world }) y.world
        (x.after_is ∙ ap (λ (s : PlanStep). after_event script one.call x.agent p s x.world) restarts.0)
        (y.after_is ∙ ap (λ (s : PlanStep). after_event script one.call y.agent (record p { world = v }) s y.world) restarts.0)
        (restarted_beside script entries is_script listed none_broken calls others keep start first opens also_opens p.standing p.world v both x.world y.world o t)

    both_happen : AreAlong script keep start first after next
    both_happen = by_kind (kind_of p.world both.treat.one number step x.event one_means)

  -- ---- a step

  pub next_step : (p : Progress) (v : World) → AreBeside script keep start first p.standing p.world v → HasIdentifiersLeft p.world → HasIdentifiersLeft v
      → (step : PlanStep) (after next : Progress) → Goes script one.call p step after → Goes script one.call (record p { world = v }) step next → AreAlong script keep start first after next
  next_step p v both left also_left step after next (inl x) (inl y) = both_happen p v both left also_left step after next x y
  next_step p v both left also_left step after next (inl x) (inr y) =
      absurd (not_idle script entries is_script listed none_broken calls others keep start first opens also_opens p.standing p.world v both left also_left x.agent y.agent
      x.stands y.stands (number_begun one.call (p.begun + 1)) (within (p.begun + 1)) step x.event x.world x.means x.occurs y.cannot)
  next_step p v both left also_left step after next (inr x) (inl y) =
      absurd (not_idle script entries is_script listed none_broken others calls keep first start also_opens opens p.standing v p.world
      (beside_turned script keep start first p.standing p.world v both) also_left left y.agent x.agent
      y.stands x.stands (number_begun one.call (p.begun + 1)) (within (p.begun + 1)) step y.event y.world y.means y.occurs x.cannot)
  next_step p v both left also_left step after next (inr x) (inr y) =
      along script keep start first after next (record p { idle = p.idle + 1 }) v x.after_is y.after_is both
