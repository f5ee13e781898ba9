-- What becomes of commands goes with the steps of the check.
use Rattle.std.proofs.Common.{◌≡◌, ◌∙◌, ◌⊎◌, ◌+◌, ◌++◌, ◌∷◌, [], inl, inr, ℕ, zero, suc, Bool, true, false, if◌then◌else◌, IsTrue, List, Option, Some, None, refl, sym, ap, subst}
use Rattle.std.proofs.lemmas.Option.{none-some, same_Some}
use Rattle.mg_names.specs.declared.phases.LinkPhase.TheVariants.{Sent, Answered, Failed}
use Rattle.mg_model.specs.declared.commands.Command.{Command}
use Rattle.mg_model.specs.declared.steps.StepName.TheVariants as step
use Rattle.mg_model.specs.Script.{Script}
use Rattle.mg_model.specs.Tables.{state_of}
use Rattle.mg_model.specs.Configuration.{Configuration}
use Rattle.mg_model.specs.Effects.{effect, is_legal}
use Rattle.mg_model.specs.Request.{Names, built, names_after, uses_known}
use Rattle.mg_model.specs.Steps.{Step, bound_names, executed, execution, names_unbound, refusals, request_in, steps_by_link, steps_of, with_link}
use Rattle.call_ways.specs.declared.fates.Fate.{Fate}
use Rattle.call_ways.specs.declared.fates.Fate.TheVariants as fate
use Rattle.call_ways.specs.Executed.{FatesGoWithSteps, GoesWithSteps}
use Rattle.call_ways.specs.Fates.{fates, fates_in}
use Rattle.call_ways.proofs.Lists.{at_contained}
use Rattle.call_ways.proofs.Members.{IsIn, from_append, from_choice, in_behind}
use Rattle.call_ways.proofs.Steps.{contained}

in_first : {X : Type 0} (x : X) (xs : List X) (y : X) → IsIn (x ∷ xs) y → (x ≡ y) ⊎ IsIn xs y
in_first x xs y (zero, is) = inl (same_Some x y is)
in_first x xs y (suc n, is) = inr (n, is)

-- where the request comes to its end none is refused, and where it doesn't one is
abbrev Agrees : Option Configuration → List Fate → Type 0
Agrees None all = IsIn all fate.Refused
Agrees (Some d) all = IsIn all fate.Refused → ⊥

behind : (end : Option Configuration) (first : Fate) (all : List Fate) → (first ≡ fate.Refused → ⊥) → Agrees end all → Agrees end (first ∷ all)
behind None first all differs is = (suc is.0, is.1)
behind (Some d) first all differs none = λ is.
    elim (in_first first all fate.Refused is) [
      | inl same ↦ differs same
      | inr rest ↦ none rest
    ]

agrees : (script : Script) (commands : List Command) (c : Configuration) (names : Names)
    → Agrees (executed script c (built names commands)) (fates script c names true commands)
agrees script [] c names = λ is. none-some fate.Refused is.1
agrees script (command ∷ more) c names =
    by_known (uses_known names command) refl (agrees script more c names) (agrees script more (effect script c command) (names_after names command))
  where
    by_legal : (legal : Bool) → uses_known names command ≡ true → is_legal c command ≡ legal
        → Agrees (executed script (effect script c command) (built (names_after names command) more))
        (fates script (effect script c command) (names_after names command) true more)
        → Agrees (executed script c (built names (command ∷ more))) (fates script c names true (command ∷ more))
    by_legal true known_is legal_is done =
        rw (known_is, legal_is) (behind (executed script (effect script c command) (built (names_after names command) more)) fate.Done
        (fates script (effect script c command) (names_after names command) true more) (λ bad. cc) done)
    by_legal false known_is legal_is done = rw (known_is, legal_is) (0, refl)

    by_known : (known : Bool) → uses_known names command ≡ known
        → Agrees (executed script c (built names more)) (fates script c names true more)
        → Agrees (executed script (effect script c command) (built (names_after names command) more))
        (fates script (effect script c command) (names_after names command) true more)
        → Agrees (executed script c (built names (command ∷ more))) (fates script c names true (command ∷ more))
    by_known true known_is left_out done = by_legal (is_legal c command) known_is refl done
    by_known false known_is left_out done =
        rw known_is (behind (executed script c (built names more)) fate.LeftOut (fates script c names true more) (λ bad. cc) left_out)

no_execution : (script : Script) (request : List Command) (c : Configuration) (place : ℕ) (d : Configuration)
    → IsIn (refusals script c place request) (step.Execute, d) → ⊥
no_execution script [] c place d is = none-some (step.Execute, d) is.1
no_execution script (command ∷ more) c place d is =
    elim (in_first (step.Refuse place, with_link c Failed) _ (step.Execute, d) is) [
      | inl same ↦ (
          let names : step.Refuse place ≡ step.Execute = ap (λ (x : Step). x.0) same in
          cc)
      | inr rest ↦ (
          no_execution script more (effect script c command) (place + 1) d
          (from_choice (is_legal c command) (refusals script (effect script c command) (place + 1) more) (step.Execute, d) rest).1)
    ]

module _ (script : Script) (c : Configuration) (sent : c.link ≡ Sent) (unbound : IsTrue (names_unbound script c)) where
  abbrev request : List Command
  request = request_in script c c.state

  abbrev sent_steps : Option Configuration → List Step
  sent_steps end = refusals script c 0 request ++ execution end

  steps_are : steps_of script c ≡ sent_steps (executed script c request)
  steps_are = ap (steps_by_link script c) sent ∙ ap (λ (b : Bool). if b then sent_steps (executed script c request) else []) unbound

  by_end : (end : Option Configuration) → executed script c request ≡ end → GoesWithSteps script c
  by_end None is =
      let refused : IsIn (fates_in script c) fate.Refused =
      subst (λ (end : Option Configuration). Agrees end (fates_in script c)) is (agrees script (state_of script c.state).commands c (bound_names c)) in
      record {
        refused = λ some can.
            let at = at_contained (steps_of script c) (step.Execute, can.0) can.1 in
            let here : IsIn (sent_steps None) (step.Execute, can.0) =
            subst (λ (xs : List Step). IsIn xs (step.Execute, can.0)) (steps_are ∙ ap sent_steps is) at in
            elim (from_append (refusals script c 0 request) [] (step.Execute, can.0) here) [
              | inl among ↦ no_execution script request c 0 can.0 among
              | inr none ↦ none-some (step.Execute, can.0) none.1
            ];
        executed = λ none. absurd (none refused);
      }
  by_end (Some d) is =
      let none : IsIn (fates_in script c) fate.Refused → ⊥ =
      subst (λ (end : Option Configuration). Agrees end (fates_in script c)) is (agrees script (state_of script c.state).commands c (bound_names c)) in
      record {
        refused = λ some can. none some;
        executed = λ _.
            let last : IsIn (sent_steps (Some d)) (step.Execute, with_link d Answered) =
            in_behind (refusals script c 0 request) (execution (Some d)) (step.Execute, with_link d Answered) (0, refl) in
            let there : IsIn (steps_of script c) (step.Execute, with_link d Answered) =
            subst (λ (xs : List Step). IsIn xs (step.Execute, with_link d Answered)) (sym (steps_are ∙ ap sent_steps is)) last in
            (with_link d Answered, contained (steps_of script c) there.0 (step.Execute, with_link d Answered) there.1);
      }

pub go_with_steps : FatesGoWithSteps
go_with_steps script c sent unbound = by_end script c sent unbound (executed script c (request_in script c c.state)) refl
