-- Where the steps lead of all in the hull of some configurations, by where these are led.
use Rattle.std.proofs.Common.{◌≡◌, ◌∙◌, ◌++◌, ℕ, zero, suc, ◌+◌, ◌≤◌, Bool, true, false, List, [], ◌∷◌, map, length, Option, Some, None, refl, sym, ap, subst, Contains}
use Rattle.std.specs.Prelude.{if◌then◌else◌}
use Rattle.std.specs.List.{flat_map}
use Rattle.std.proofs.lemmas.Option.{none-some, same_Some}
use Rattle.mg_names.specs.declared.kinds.Kind.{Kind}
use Rattle.mg_names.specs.declared.kinds.Kind.TheVariants.{On, Of, Fl, Full, Part}
use Rattle.mg_names.specs.declared.phases.LinkPhase.{LinkPhase}
use Rattle.mg_names.specs.declared.phases.LinkPhase.TheVariants.{Sent, Answered, Failed, Resting}
use Rattle.mg_model.specs.declared.commands.Command.{Command}
use Rattle.mg_model.specs.declared.commands.EventsName.{EventsName}
use Rattle.mg_model.specs.declared.steps.StepName.{StepName}
use Rattle.mg_model.specs.declared.steps.StepName.TheVariants.{Refuse, Execute, Reply, Observe, Timer}
use Rattle.mg_model.specs.Script.{Script}
use Rattle.mg_model.specs.Tables.{state_of, items_of, raises, target_in, is_empty, line_places}
use Rattle.mg_model.specs.Configuration.{Configuration, IsWellFormed}
use Rattle.mg_model.specs.Effects.{effect, is_legal}
use Rattle.mg_model.specs.Entries.{Entry, IsCovered}
use Rattle.mg_model.specs.Request.{Names, built}
use Rattle.mg_model.specs.Steps.{Step, all_kinds, bound_names, entering, executed, execution, names_unbound, observation, observations, refusals, reply_step, request_in, steps_by_link, with_link, with_state}
use Rattle.closure.specs.Findings.{AreCovered}
use Rattle.closure.specs.Hulls.{AreAlike, IsHullCovered, IsHullEntered, IsHullLineCovered, IsHullLinked, AreHullNotesCovered, AreHullRepliesCovered, AreHullRestsCovered, AreHullStepsCovered, IsInHull}
use Rattle.closure.proofs.StepLists.{below_covered, both_covered, each_covered, none_covered, of_kinds, of_lines}
use Rattle.closure.specs.Placing.{AreLed, AreHullRequestsCovered}
use Rattle.closure.specs.Found.{AreFound}
use Rattle.closure.specs.Refusals.{SuitsNone}
use Rattle.closure.specs.Surviving.{AreSurviving, DoSurvive}
use Rattle.closure.proofs.ByComponent.{entered_by, linked_by, hull_by}
use Rattle.closure.proofs.FormedEffects.{formed_effect}
use Rattle.closure.proofs.HullRefusals.{never_legal}
use Rattle.closure.proofs.HullSurviving.{survive_after, survive_built, survive_one}
use Rattle.closure.proofs.HullLemmas.{hull_link, hull_names, hull_state}

-- being well formed asks for no state and no link
formed_with_state : (c : Configuration) (state : ℕ) (link : LinkPhase) → IsWellFormed c → IsWellFormed (record c { state = state; link = link })
formed_with_state c state link formed = record {
  live = formed.live;
  absent_mode = formed.absent_mode;
  absent_remote = formed.absent_remote;
  named = formed.named;
  cut_within = formed.cut_within;
}

formed_with_link : (c : Configuration) (link : LinkPhase) → IsWellFormed c → IsWellFormed (with_link c link)
formed_with_link c link formed = record {
  live = formed.live;
  absent_mode = formed.absent_mode;
  absent_remote = formed.absent_remote;
  named = formed.named;
  cut_within = formed.cut_within;
}

-- one step more is covered
step_covered : (entries : List Entry) (step : Step) (more : List Step) → IsCovered entries step.1 → AreCovered entries more → AreCovered entries (step ∷ more)
step_covered entries step more here later zero other is = subst (λ (made : Step). IsCovered entries made.1) (same_Some step other is) here
step_covered entries step more here later (suc s) other is = later s other is

-- ---- another link

module _ (entries : List Entry) (some : List Configuration) where
  pub all_linked : (link : LinkPhase) (made : List Configuration) → made ≡ map (λ (d : Configuration). record d { link = link }) some
      → IsHullCovered entries made → IsHullLinked entries some link
  all_linked link made is covered c inside formed =
      covered (with_link c link) (subst (λ (ds : List Configuration). IsInHull ds (with_link c link)) (sym is)
      (hull_by some (λ d. record d { link = link }) c (linked_by link) inside))
      (formed_with_link c link formed)

module _ (script : Script) (entries : List Entry) (some : List Configuration) where
  -- ---- a request

  pub request_ends : (surviving : List Bool) → IsHullLinked entries some Answered → AreHullRequestsCovered script entries some surviving []
  request_ends surviving answered c inside formed survive place =
      step_covered entries (Execute, with_link c Answered) [] (answered c inside formed) (none_covered entries)

  pub request_refused : (command : Command) (more : List Command) (surviving : List Bool) → IsHullLinked entries some Failed → SuitsNone some command
      → AreHullRequestsCovered script entries some surviving (command ∷ more)
  request_refused command more surviving failed none c inside formed survive place = by_test (is_legal c command) refl
    where
      after : Configuration
      after = effect script c command

      by_test : (b : Bool) → is_legal c command ≡ b
          → AreCovered entries ((Refuse place, with_link c Failed)
          ∷ ((if b then refusals script after (place + 1) more else []) ++ execution (if b then executed script after more else None)))
      by_test true legal = absurd (never_legal some c inside command none legal)
      by_test false illegal = step_covered entries (Refuse place, with_link c Failed) [] (failed c inside formed) (none_covered entries)

  pub request_goes_on : (command : Command) (more : List Command) (surviving : List Bool) (found made : List Configuration)
      → IsHullLinked entries some Failed → AreFound some command found → AreLed script found command surviving made → AreHullRequestsCovered script entries made surviving more
      → AreHullRequestsCovered script entries some surviving (command ∷ more)
  request_goes_on command more surviving found made failed are_found led later c inside formed survive place = by_test (is_legal c command) refl
    where
      after : Configuration
      after = effect script c command

      by_test : (b : Bool) → is_legal c command ≡ b
          → AreCovered entries ((Refuse place, with_link c Failed)
          ∷ ((if b then refusals script after (place + 1) more else []) ++ execution (if b then executed script after more else None)))
      by_test true legal = let here = led c (are_found c inside legal) formed legal (survive_one c command more surviving survive) in
          step_covered entries (Refuse place, with_link c Failed) (refusals script after (place + 1) more ++ execution (executed script after more))
          (failed c inside formed)
          (later after here.1 (formed_effect script c formed command legal here.0) (survive_after script c command more surviving survive) (place + 1))
      by_test false illegal = step_covered entries (Refuse place, with_link c Failed) [] (failed c inside formed) (none_covered entries)

  -- ---- a state is entered

  pub no_target : IsHullEntered script entries some None
  no_target state is = absurd (none-some state is)

  entering_covered : (c : Configuration) (name : StepName) (target : Option ℕ) → IsHullEntered script entries some target → IsInHull some c
      → IsWellFormed c → AreCovered entries (entering script c name target)
  entering_covered c name None entered inside formed = none_covered entries
  entering_covered c name (Some state) entered inside formed =
      step_covered entries (name, with_state script c state) [] (entered state refl c inside formed) (none_covered entries)

  module _ (one : Configuration) (alike : AreAlike some one) where
    pub all_entered : (state : ℕ) (link : LinkPhase) → link ≡ (with_state script one state).link → (made : List Configuration)
        → made ≡ map (λ (d : Configuration). record d { state = state; link = link }) some → IsHullCovered entries made
        → IsHullEntered script entries some (Some state)
    all_entered state link linked made is covered other same c inside formed =
        subst (λ (n : ℕ). IsCovered entries (with_state script c n)) (same_Some state other same)
        (subst (λ (l : LinkPhase). IsCovered entries (record c { state = state; link = l })) (linked ∙ as_one)
        (covered (record c { state = state; link = link })
        (subst (λ (ds : List Configuration). IsInHull ds (record c { state = state; link = link })) (sym is)
        (hull_by some (λ d. record d { state = state; link = link }) c (entered_by state link) inside))
        (formed_with_state c state link formed)))
      where
        as_one : (with_state script one state).link ≡ (with_state script c state).link
        as_one = ap (λ (names : Names). if is_empty (built names (state_of script state).commands) then Answered else Sent)
            (sym (hull_names some one c alike inside))

    -- ---- notes

    pub no_notes : (i : ℕ) (kind : Kind)
        → ((d : Configuration) → Contains some d → raises (items_of script (d.events i)) kind ≡ false) → AreHullNotesCovered script entries some i kind
    no_notes i kind none c inside formed =
        let list = inside.events i in
        let never : raises (items_of script (c.events i)) kind ≡ false =
        subst (λ (v : EventsName). raises (items_of script v) kind ≡ false) list.1.1 (none list.0 list.1.0) in
        subst (λ (b : Bool). AreCovered entries (if b then entering script c (Observe i kind) (target_in (state_of script c.state).on i kind) else []))
        (sym never) (none_covered entries)

    pub notes_enter : (i : ℕ) (kind : Kind) (target : Option ℕ) → target ≡ target_in (state_of script one.state).on i kind
        → IsHullEntered script entries some target → AreHullNotesCovered script entries some i kind
    notes_enter i kind target is entered c inside formed = by_test (raises (items_of script (c.events i)) kind)
      where
        there : target ≡ target_in (state_of script c.state).on i kind
        there = is ∙ ap (λ (state : ℕ). target_in (state_of script state).on i kind) (sym (hull_state some one c alike inside))

        by_test : (b : Bool) → AreCovered entries (if b then entering script c (Observe i kind) (target_in (state_of script c.state).on i kind) else [])
        by_test true = entering_covered c (Observe i kind) (target_in (state_of script c.state).on i kind)
            (subst (λ (found : Option ℕ). IsHullEntered script entries some found) there entered) inside formed
        by_test false = none_covered entries

    pub line_covered : (i : ℕ) → AreHullNotesCovered script entries some i On → AreHullNotesCovered script entries some i Of
        → AreHullNotesCovered script entries some i Fl → AreHullNotesCovered script entries some i Full → AreHullNotesCovered script entries some i Part
        → IsHullLineCovered script entries some i
    line_covered i on off flash full part c inside formed = each_covered entries (observation script c i) all_kinds
        (λ kind. of_kinds (λ (k : Kind). AreHullNotesCovered script entries some i k) on off flash full part kind c inside formed)

    pub rest_covered : length script.lines ≤ 4 → IsHullLineCovered script entries some 0 → IsHullLineCovered script entries some 1
        → IsHullLineCovered script entries some 2 → IsHullLineCovered script entries some 3 → (timer : Option ℕ)
        → timer ≡ (state_of script one.state).timer → IsHullEntered script entries some timer → AreHullRestsCovered script entries some
    rest_covered few first second third fourth timer is entered c inside formed =
        both_covered entries (flat_map (observations script c) (line_places script)) (entering script c Timer (state_of script c.state).timer)
        (below_covered entries (observations script c) (length script.lines) (0 ∷ 1 ∷ 2 ∷ 3 ∷ [])
        (λ i lt. of_lines (λ (n : ℕ). IsHullLineCovered script entries some n) (length script.lines) few first second third fourth i lt c inside formed))
        (entering_covered c Timer (state_of script c.state).timer
        (subst (λ (found : Option ℕ). IsHullEntered script entries some found)
        (is ∙ ap (λ (state : ℕ). (state_of script state).timer) (sym (hull_state some one c alike inside))) entered) inside formed)

    -- ---- replies

    pub reply_rests : None ≡ (state_of script one.state).ok → IsHullLinked entries some Resting → AreHullRepliesCovered script entries some
    reply_rests is rests c inside formed =
        subst (λ (found : Option ℕ). AreCovered entries (reply_step script c found))
        (is ∙ ap (λ (state : ℕ). (state_of script state).ok) (sym (hull_state some one c alike inside)))
        (step_covered entries (Reply, with_link c Resting) [] (rests c inside formed) (none_covered entries))

    pub reply_enters : (state : ℕ) → Some state ≡ (state_of script one.state).ok → IsHullEntered script entries some (Some state)
        → AreHullRepliesCovered script entries some
    reply_enters state is entered c inside formed =
        subst (λ (found : Option ℕ). AreCovered entries (reply_step script c found))
        (is ∙ ap (λ (n : ℕ). (state_of script n).ok) (sym (hull_state some one c alike inside)))
        (step_covered entries (Reply, with_state script c state) [] (entered state refl c inside formed) (none_covered entries))

    -- ---- all steps

    by_link : (link : LinkPhase) → one.link ≡ link
        → ((c : Configuration) → IsInHull some c → IsWellFormed c → AreCovered entries (steps_by_link script c link)) → AreHullStepsCovered script entries some
    by_link link is covered c inside formed =
        subst (λ (l : LinkPhase). AreCovered entries (steps_by_link script c l)) (sym (hull_link some one c alike inside ∙ is)) (covered c inside formed)

    pub sent_steps_covered : one.link ≡ Sent → (request : List Command) → request ≡ built (bound_names one) (state_of script one.state).commands
        → (surviving : List Bool) → AreSurviving some (state_of script one.state).commands surviving → AreHullRequestsCovered script entries some surviving request
        → AreHullStepsCovered script entries some
    sent_steps_covered is request whole surviving are_surviving covered = by_link Sent is (λ c inside formed. by_test c inside formed (names_unbound script c))
      where
        requested : (c : Configuration) → IsInHull some c → request ≡ request_in script c c.state
        requested c inside = whole ∙ ap (λ (names : Names). built names (state_of script one.state).commands) (sym (hull_names some one c alike inside))
            ∙ ap (λ (state : ℕ). built (bound_names c) (state_of script state).commands) (sym (hull_state some one c alike inside))

        survive : (c : Configuration) → IsInHull some c → IsWellFormed c → DoSurvive c request surviving
        survive c inside formed =
            subst (λ (commands : List Command). DoSurvive c commands surviving) (sym whole)
            (survive_built c (bound_names one) (state_of script one.state).commands surviving (are_surviving c inside formed))

        by_test : (c : Configuration) → IsInHull some c → IsWellFormed c → (b : Bool)
            → AreCovered entries (if b then refusals script c 0 (request_in script c c.state) ++ execution (executed script c (request_in script c c.state)) else [])
        by_test c inside formed true =
            subst (λ (commands : List Command). AreCovered entries (refusals script c 0 commands ++ execution (executed script c commands)))
            (requested c inside) (covered c inside formed (survive c inside formed) 0)
        by_test c inside formed false = none_covered entries

    pub answered_steps_covered : one.link ≡ Answered → AreHullRepliesCovered script entries some → AreHullStepsCovered script entries some
    answered_steps_covered = by_link Answered

    pub failed_steps_covered : one.link ≡ Failed → (target : Option ℕ) → target ≡ (state_of script one.state).fault
        → IsHullEntered script entries some target → AreHullStepsCovered script entries some
    failed_steps_covered is target whole entered = by_link Failed is (λ c inside formed.
        entering_covered c Reply (state_of script c.state).fault
        (subst (λ (found : Option ℕ). IsHullEntered script entries some found)
        (whole ∙ ap (λ (state : ℕ). (state_of script state).fault) (sym (hull_state some one c alike inside))) entered) inside formed)

    pub rest_steps_covered : one.link ≡ Resting → AreHullRestsCovered script entries some → AreHullStepsCovered script entries some
    rest_steps_covered = by_link Resting
