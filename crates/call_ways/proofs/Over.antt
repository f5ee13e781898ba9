-- What is entered over an arrow is what the steps of the configurations lead to.
use Rattle.std.proofs.Common.{◌≡◌, ◌∙◌, ◌↔◌, ◌==◌, ◌++◌, ◌∷◌, [], inl, inr, ℕ, Bool, true, false, if◌then◌else◌, IsTrue, List, Some, refl, sym, ap, subst, append-nil, Contains}
use Rattle.std.specs.List.{flat_map, slice_get}
use Rattle.std.proofs.lemmas.Bool.{and_from, and_parts, eq-eqb, eqb-true}
use Rattle.mg_names.specs.declared.kinds.Kind.{Kind}
use Rattle.mg_names.specs.declared.kinds.Kind.TheVariants.{On, Of, Fl, Full, Part}
use Rattle.mg_names.specs.declared.phases.LinkPhase.{LinkPhase}
use Rattle.mg_names.specs.declared.phases.LinkPhase.TheVariants.{Sent, Answered, Failed, Resting}
use Rattle.mg_model.specs.declared.steps.StepName.{StepName}
use Rattle.mg_model.specs.declared.steps.StepName.TheVariants as step
use Rattle.mg_model.specs.Tables.{same_kind}
use Rattle.mg_model.specs.Script.{Script}
use Rattle.mg_model.specs.Configuration.{Configuration}
use Rattle.mg_model.specs.Steps.{Step, reset, steps_of}
use Rattle.mg_model.specs.Entries.{Entry}
use Rattle.configuration.specs.Packed.{Words}
use Rattle.configuration.specs.Config.{configuration_of}
use Rattle.call_ways.specs.declared.arrows.EnteredBy.{EnteredBy}
use Rattle.call_ways.specs.declared.arrows.EnteredBy.TheVariants as entered
use Rattle.call_ways.specs.Arrows.{Crosses, EntersBy}
use Rattle.call_ways.specs.Crossed.{can_go, entering, goes_by, is_answered, is_failed, is_note, is_reply, is_resting, is_timer, leads_over, led_over, over, stands_before, values_of}
use Rattle.call_ways.specs.Ways.{AreAll, ComesTo}
use Rattle.call_ways.proofs.Lists.{at_contained, at_map, in_map}
use Rattle.call_ways.proofs.Members.{IsIn, from_append, from_choice, from_flat_map, from_if, in_behind, to_choice, to_flat_map, to_if}
use Rattle.call_ways.proofs.Steps.{contained}

-- ---- phases and steps

answered_is : (link : LinkPhase) → IsTrue (is_answered link) ↔ (link ≡ Answered)
answered_is Answered = ((λ _. refl), (λ _. refl))
answered_is Sent = ((λ bad. cc), (λ bad. cc))
answered_is Failed = ((λ bad. cc), (λ bad. cc))
answered_is Resting = ((λ bad. cc), (λ bad. cc))

failed_is : (link : LinkPhase) → IsTrue (is_failed link) ↔ (link ≡ Failed)
failed_is Failed = ((λ _. refl), (λ _. refl))
failed_is Sent = ((λ bad. cc), (λ bad. cc))
failed_is Answered = ((λ bad. cc), (λ bad. cc))
failed_is Resting = ((λ bad. cc), (λ bad. cc))

resting_is : (link : LinkPhase) → IsTrue (is_resting link) ↔ (link ≡ Resting)
resting_is Resting = ((λ _. refl), (λ _. refl))
resting_is Sent = ((λ bad. cc), (λ bad. cc))
resting_is Answered = ((λ bad. cc), (λ bad. cc))
resting_is Failed = ((λ bad. cc), (λ bad. cc))

reply_is : (name : StepName) → IsTrue (is_reply name) ↔ (name ≡ step.Reply)
reply_is step.Reply = ((λ _. refl), (λ _. refl))
reply_is step.Timer = ((λ bad. cc), (λ bad. cc))
reply_is step.Execute = ((λ bad. cc), (λ bad. cc))
reply_is (step.Refuse n) = ((λ bad. cc), (λ bad. cc))
reply_is (step.Observe i kind) = ((λ bad. cc), (λ bad. cc))

timer_is : (name : StepName) → IsTrue (is_timer name) ↔ (name ≡ step.Timer)
timer_is step.Timer = ((λ _. refl), (λ _. refl))
timer_is step.Reply = ((λ bad. cc), (λ bad. cc))
timer_is step.Execute = ((λ bad. cc), (λ bad. cc))
timer_is (step.Refuse n) = ((λ bad. cc), (λ bad. cc))
timer_is (step.Observe i kind) = ((λ bad. cc), (λ bad. cc))

same_kinds : (a b : Kind) → same_kind a b ≡ true → a ≡ b
same_kinds On On alike = refl
same_kinds Of Of alike = refl
same_kinds Fl Fl alike = refl
same_kinds Full Full alike = refl
same_kinds Part Part alike = refl
same_kinds a b alike = cc

kind_itself : (a b : Kind) → a ≡ b → same_kind a b ≡ true
kind_itself a b same = subst (λ (k : Kind). same_kind a k ≡ true) same (itself a)
  where
    itself : (k : Kind) → same_kind k k ≡ true
    itself On = refl
    itself Of = refl
    itself Fl = refl
    itself Full = refl
    itself Part = refl

note_is : (i : ℕ) (kind : Kind) (name : StepName) → IsTrue (is_note i kind name) ↔ (name ≡ step.Observe i kind)
note_is i kind (step.Observe j other) = (
  λ yes.
      let parts = and_parts (j == i) (same_kind other kind) yes in
      let lines : j ≡ i = eqb-true j i parts.0 in
      let kinds : other ≡ kind = same_kinds other kind parts.1 in
      cc,
  λ is.
      let lines : j ≡ i = cc in
      let kinds : other ≡ kind = cc in
      and_from (j == i) (same_kind other kind) (eq-eqb j i lines) (kind_itself other kind kinds),
)
note_is i kind step.Reply = ((λ bad. cc), (λ bad. cc))
note_is i kind step.Timer = ((λ bad. cc), (λ bad. cc))
note_is i kind step.Execute = ((λ bad. cc), (λ bad. cc))
note_is i kind (step.Refuse n) = ((λ bad. cc), (λ bad. cc))

-- ---- steps over an arrow

module _ (script : Script) (entries : List Entry) (configs : List Words) (all : AreAll script entries configs) (s t : ℕ) where
  module _ (by : EnteredBy) (phase : LinkPhase) (name : StepName) (phases : (link : LinkPhase) → IsTrue (can_go by link) ↔ (link ≡ phase))
      (names : (one : StepName) → IsTrue (goes_by by one) ↔ (one ≡ name)) where
    crosses : (c : Configuration) → IsIn (flat_map (over script by s t) (values_of configs)) c → Crosses script entries s phase name t c
    crosses c is =
        let found = from_flat_map (over script by s t) (values_of configs) c is in
        let before : Configuration = found.0 in
        let word = in_map configuration_of configs found.1.0.0 before found.1.0.1 in
        let choice = from_choice (stands_before by s before) (flat_map (led_over by t) (steps_of script before)) c found.1.1 in
        let stands = and_parts (before.state == s) (can_go by before.link) choice.0 in
        let led = from_flat_map (led_over by t) (steps_of script before) c choice.1 in
        let taken : Step = led.0 in
        let leads = from_if (leads_over by t taken) taken.1 c led.1.1 in
        let goes = and_parts (goes_by by taken.0) (taken.1.state == t) leads.0 in
        let named : taken.0 ≡ name = (names taken.0).0 goes.0 in
        let step_is : taken ≡ (name, c) = λ i. (named i, leads.1 i) in
        record {
          before = before;
          comes = subst (ComesTo script entries) word.1.1 (all.each found.1.0.0 word.0 word.1.0);
          in_state = eqb-true before.state s stands.0;
          in_phase = (phases before.link).0 stands.1;
          leads = subst (λ (x : Step). Contains (steps_of script before) x) step_is (contained (steps_of script before) led.1.0.0 taken led.1.0.1);
          enters = ap (λ (d : Configuration). d.state) (sym leads.1) ∙ eqb-true taken.1.state t goes.1;
        }

    crossed : (c : Configuration) → Crosses script entries s phase name t c → IsIn (flat_map (over script by s t) (values_of configs)) c
    crossed c goes =
        let before : Configuration = goes.before in
        let at = all.all before goes.comes in
        let there : slice_get (values_of configs) at.0 ≡ Some before = at_map configuration_of configs at.0 at.1.0 at.1.1.0 ∙ ap Some at.1.1.1 in
        let taken = at_contained (steps_of script before) (name, c) goes.leads in
        let leads : leads_over by t (name, c) ≡ true =
        and_from (goes_by by name) (c.state == t) ((names name).1 refl) (eq-eqb c.state t goes.enters) in
        let stands : stands_before by s before ≡ true =
        and_from (before.state == s) (can_go by before.link) (eq-eqb before.state s goes.in_state) ((phases before.link).1 goes.in_phase) in
        to_flat_map (over script by s t) (values_of configs) before c (at.0, there)
        (to_choice (stands_before by s before) (flat_map (led_over by t) (steps_of script before)) c stands
        (to_flat_map (led_over by t) (steps_of script before) (name, c) c taken (to_if (leads_over by t (name, c)) c c leads refl)))

    pub by_steps : (c : Configuration) → IsIn (flat_map (over script by s t) (values_of configs) ++ []) c ↔ Crosses script entries s phase name t c
    by_steps c =
        let xs = flat_map (over script by s t) (values_of configs) in (
          (λ is. crosses c (subst (λ (ys : List Configuration). IsIn ys c) (append-nil xs) is)),
          (λ goes. subst (λ (ys : List Configuration). IsIn ys c) (sym (append-nil xs)) (crossed c goes)),
        )

  -- ---- by a restart

  none_over : (c : Configuration) → IsIn (flat_map (over script entered.Restart s t) (values_of configs)) c → ⊥
  none_over c is =
      let found = from_flat_map (over script entered.Restart s t) (values_of configs) c is in
      let before : Configuration = found.0 in
      let choice = from_choice (stands_before entered.Restart s before) (flat_map (led_over entered.Restart t) (steps_of script before)) c found.1.1 in
      let bad = (and_parts (before.state == s) false choice.0).1 in
      cc

  anew : (c : Configuration) → IsIn (entering script (values_of configs) entered.Restart s t) c ↔ ((c ≡ reset script) × (t ≡ script.restart))
  anew c =
      let xs : List Configuration = flat_map (over script entered.Restart s t) (values_of configs) in
      let test : Bool = t == script.restart in (
        λ is. elim (from_append xs (if test then reset script ∷ [] else []) c is) [
          | inl over_one ↦ absurd (none_over c over_one)
          | inr heard ↦ (
              let found = from_if test (reset script) c heard in
              (sym found.1, eqb-true t script.restart found.0))
        ],
        λ heard. in_behind xs (if test then reset script ∷ [] else []) c
            (to_if test (reset script) c (eq-eqb t script.restart heard.1) (sym heard.0)),
      )

  -- ---- by whatever it may be

  pub entered_by : (by : EnteredBy) (c : Configuration) → IsIn (entering script (values_of configs) by s t) c ↔ EntersBy script entries s t c by
  entered_by entered.Reply c = by_steps entered.Reply Answered step.Reply answered_is reply_is c
  entered_by entered.Failure c = by_steps entered.Failure Failed step.Reply failed_is reply_is c
  entered_by (entered.Note i kind) c = by_steps (entered.Note i kind) Resting (step.Observe i kind) resting_is (note_is i kind) c
  entered_by entered.Timer c = by_steps entered.Timer Resting step.Timer resting_is timer_is c
  entered_by entered.Restart c = anew c
