-- Steps of a configuration of a script of which one signal alone is told: each is a step of the configuration that differs in what plays, and what line i was
-- given last goes on with it.
use Rattle.std.proofs.Common.{Bool, Contains, List, None, Option, Some, [], ap, arith, false, if◌then◌else◌, inl, inr, refl, subst, suc, sym, true, ℕ, ◌++◌}
use Rattle.std.proofs.Common.{◌+◌, ◌∙◌, ◌∷◌, ◌≡◌, ◌⊎◌}
use Rattle.std.proofs.lemmas.List.Elements.{Contains-append_cases, Contains-append_left, Contains-append_right}
use Rattle.std.specs.List.{flat_map}
use Rattle.std.specs.Prelude.{take}
use Rattle.mg_names.specs.declared.kinds.Kind.{Kind}
use Rattle.mg_names.specs.declared.phases.LinkPhase as phases
use Rattle.mg_names.specs.declared.phases.LinkPhase.TheVariants.{Answered, Failed, Resting, Sent}
use Rattle.mg_names.specs.declared.signals.Signal.{Signal}
use Rattle.mg_model.specs.declared.commands.Command.{Command}
use Rattle.mg_model.specs.declared.line_events.SignalSet.{SignalSet}
use Rattle.mg_model.specs.declared.steps.StepName.{StepName}
use Rattle.mg_model.specs.declared.steps.StepName.TheVariants.{Execute, Observe, Refuse, Reply, Timer}
use Rattle.mg_model.specs.Configuration.{Configuration}
use Rattle.mg_model.specs.Effects.{effect, is_legal}
use Rattle.mg_model.specs.Script.{Script}
use Rattle.mg_model.specs.Steps.{Step, all_kinds, entering, executed, execution, names_unbound, observation, observations, refusals, reply_step, request_in}
use Rattle.mg_model.specs.Steps.{steps_by_link, steps_of, with_link, with_state}
use Rattle.mg_model.specs.Tables.{items_of, line_places, raises, state_of, target_in}
use Rattle.mg_model.proofs.Cases.{none_is_some, the_some}
use Rattle.mg_model.proofs.Single.{first_in, first_or_later, later_in, none_in, only_here, only_one}
use Rattle.call_ends.proofs.OneSignal.Effects.{IsHeard, effect_heard, effect_too, left_after, legal_too, with_plays}
use Rattle.call_ends.proofs.OneSignal.Sets.{script_alone}
use Rattle.call_ends.specs.Telephones.{told_after, told_by, told_over}

module _ (g : Signal) (script : Script) (i : ℕ) where
  -- the script of which the signal alone is told
  abbrev lone : Script
  lone = script_alone g script

  -- ---- requests

  -- a refusal, so many commands done
  record IsRefusal (c : Configuration) (was : SignalSet) (place : ℕ) (commands : List Command) (step : Step) : Type 0 where
    number : ℕ
    done : ℕ
    counted : number ≡ place + done
    to : Configuration
    left : ℕ → Bool
    is : step ≡ (Refuse number, with_link (with_plays to left) Failed)
    among : Contains (refusals script c place commands) (Refuse number, with_link to Failed)
    heard : IsHeard g i to.plays left (told_over script i c was (take done commands))

  -- those of the commands after one that was done
  abbrev rest_refusals : Configuration → ℕ → Command → List Command → List Step
  rest_refusals c place command more = refusals script (effect script c command) (place + 1) more

  refused : (c : Configuration) (left : ℕ → Bool) (was : SignalSet) (place : ℕ) (commands : List Command) (step : Step) → IsHeard g i c.plays left was
      → Contains (refusals lone (with_plays c left) place commands) step → IsRefusal c was place commands step
  refused c left was place [] step heard among = absurd (none_in step among)
  refused c left was place (command ∷ more) step heard among =
      by (is_legal c command) refl
      (refused (effect script c command) (left_after g script c left command) (told_by script i c was command) (place + 1) more step
      (effect_heard g script i c left was command heard))
      (first_or_later _ _ step among)
    where
      by : (b : Bool) → is_legal c command ≡ b
          → (Contains (refusals lone (with_plays (effect script c command) (left_after g script c left command)) (place + 1) more) step
          → IsRefusal (effect script c command) (told_by script i c was command) (place + 1) more step)
          → ((Refuse place, with_link (with_plays c left) Failed) ≡ step)
          ⊎ Contains (if is_legal (with_plays c left) command then refusals lone (effect lone (with_plays c left) command) (place + 1) more else []) step
          → IsRefusal c was place (command ∷ more) step
      by b e rest (inl first) = record {
        number = place;
        done = 0;
        counted = omega arith;
        to = c;
        left = left;
        is = sym first;
        among = first_in (Refuse place, with_link c Failed) (if is_legal c command then rest_refusals c place command more else []);
        heard = heard;
      }
      by true e rest (inr later) =
          let on : IsRefusal (effect script c command) (told_by script i c was command) (place + 1) more step =
          rest
          (subst (λ (d : Configuration). Contains (refusals lone d (place + 1) more) step) (effect_too g script c left command)
          (subst (λ t. Contains (if t then refusals lone (effect lone (with_plays c left) command) (place + 1) more else []) step)
          (legal_too g script c left command ∙ e) later)) in
          record {
            number = on.number;
            done = suc on.done;
            counted = let counted : on.number ≡ place + 1 + on.done = on.counted in omega (arith, counted);
            to = on.to;
            left = on.left;
            is = on.is;
            among = later_in (Refuse place, with_link c Failed) (if is_legal c command then rest_refusals c place command more else [])
                (Refuse on.number, with_link on.to Failed)
                (subst (λ t. Contains (if t then rest_refusals c place command more else []) (Refuse on.number, with_link on.to Failed)) (sym e) on.among);
            heard = on.heard;
          }
      by false e rest (inr later) = absurd (none_in step
          (subst (λ t. Contains (if t then refusals lone (effect lone (with_plays c left) command) (place + 1) more else []) step)
          (legal_too g script c left command ∙ e) later))

  -- the whole request, if no command of it is illegal
  record IsWhole (c : Configuration) (was : SignalSet) (commands : List Command) (after : Configuration) : Type 0 where
    to : Configuration
    left : ℕ → Bool
    is : after ≡ with_plays to left
    whole : executed script c commands ≡ Some to
    heard : IsHeard g i to.plays left (told_over script i c was commands)

  executed_too : (c : Configuration) (left : ℕ → Bool) (was : SignalSet) (commands : List Command) (after : Configuration) → IsHeard g i c.plays left was
      → executed lone (with_plays c left) commands ≡ Some after → IsWhole c was commands after
  executed_too c left was [] after heard e =
      record { to = c; left = left; is = sym (the_some (with_plays c left) after e); whole = refl; heard = heard }
  executed_too c left was (command ∷ more) after heard e =
      by (is_legal c command) refl
      (executed_too (effect script c command) (left_after g script c left command) (told_by script i c was command) more after
      (effect_heard g script i c left was command heard))
    where
      at : (b : Bool) → is_legal c command ≡ b
          → (if b then executed lone (effect lone (with_plays c left) command) more else None) ≡ Some after
      at b is = sym (ap (λ t. if t then executed lone (effect lone (with_plays c left) command) more else None)
          (legal_too g script c left command ∙ is)) ∙ e

      by : (b : Bool) → is_legal c command ≡ b
          → (executed lone (with_plays (effect script c command) (left_after g script c left command)) more ≡ Some after
          → IsWhole (effect script c command) (told_by script i c was command) more after)
          → IsWhole c was (command ∷ more) after
      by true is rest =
          let on : IsWhole (effect script c command) (told_by script i c was command) more after =
          rest
          (subst (λ (d : Configuration). executed lone d more ≡ Some after) (effect_too g script c left command) (at true is)) in
          record {
            to = on.to;
            left = on.left;
            is = on.is;
            whole = ap (λ t. if t then executed script (effect script c command) more else None) is ∙ on.whole;
            heard = on.heard;
          }
      by false is rest = absurd (none_is_some after (at false is))

  -- ---- steps

  pub record IsStepToo (c : Configuration) (was : SignalSet) (steps : List Step) (step : Step) : Type 0 where
    pub name : StepName
    pub to : Configuration
    pub left : ℕ → Bool
    pub is : step ≡ (name, with_plays to left)
    pub among : Contains steps (name, to)
    pub heard : IsHeard g i to.plays left (told_after script i c was name)

  -- of lists that are joined, where it is so of each of them
  module _ (c : Configuration) (was : SignalSet) (step : Step) where
    wider : (steps more : List Step) → ((s : Step) → Contains steps s → Contains more s) → IsStepToo c was steps step → IsStepToo c was more step
    wider steps more on s = record { name = s.name; to = s.to; left = s.left; is = s.is; among = on (s.name, s.to) s.among; heard = s.heard }

    joined_too : (first later its_first its_later : List Step) → (Contains its_first step → IsStepToo c was first step)
        → (Contains its_later step → IsStepToo c was later step) → Contains (its_first ++ its_later) step → IsStepToo c was (first ++ later) step
    joined_too first later its_first its_later one other among =
        elim (Contains-append_cases its_first its_later step among) [
          | inl there ↦ wider first (first ++ later) (λ s is. Contains-append_left first later s is) (one there)
          | inr there ↦ wider later (first ++ later) (λ s is. Contains-append_right first later s is) (other there)
        ]

    each_too : {X : Type 0} (f its : X → List Step) (xs : List X) → ((x : X) → Contains (its x) step → IsStepToo c was (f x) step)
        → Contains (flat_map its xs) step → IsStepToo c was (flat_map f xs) step
    each_too f its [] each among = absurd (none_in step among)
    each_too f its (x ∷ xs) each among = joined_too (f x) (flat_map f xs) (its x) (flat_map its xs) (each x) (each_too f its xs each) among

  module _ (c : Configuration) (left : ℕ → Bool) (was : SignalSet) (heard : IsHeard g i c.plays left was) where
    -- the configuration in which less may play
    abbrev it : Configuration
    it = with_plays c left

    -- a state is entered, after a step that gives lines nothing
    entering_too : (name : StepName) → told_after script i c was name ≡ was → (target : Option ℕ) (step : Step)
        → Contains (entering lone it name target) step → IsStepToo c was (entering script c name target) step
    entering_too name same None step among = absurd (none_in step among)
    entering_too name same (Some state) step among = record {
      name = name;
      to = with_state script c state;
      left = left;
      is = sym (only_one _ step among);
      among = only_here (name, with_state script c state);
      heard = subst (IsHeard g i c.plays left) (sym same) heard;
    }

    reply_too : (target : Option ℕ) (step : Step) → Contains (reply_step lone it target) step
        → IsStepToo c was (reply_step script c target) step
    reply_too None step among = record {
      name = Reply;
      to = with_link c Resting;
      left = left;
      is = sym (only_one _ step among);
      among = only_here (Reply, with_link c Resting);
      heard = heard;
    }
    reply_too (Some state) step among = entering_too Reply refl (Some state) step among

    observation_too : (line : ℕ) (kind : Kind) (step : Step) → Contains (observation lone it line kind) step
        → IsStepToo c was (observation script c line kind) step
    observation_too line kind step among = by (raises (items_of script (c.events line)) kind) (target_in (state_of script c.state).on line kind) among
      where
        by : (b : Bool) (target : Option ℕ) → Contains (if b then entering lone it (Observe line kind) target else []) step
            → IsStepToo c was (if b then entering script c (Observe line kind) target else []) step
        by true target there = entering_too (Observe line kind) refl target step there
        by false target there = absurd (none_in step there)

    resting_too : (step : Step) → Contains (steps_by_link lone it Resting) step → IsStepToo c was (steps_by_link script c Resting) step
    resting_too step among =
        let timer = (state_of script c.state).timer in
        joined_too c was step (flat_map (observations script c) (line_places script)) (entering script c Timer timer)
        (flat_map (observations lone it) (line_places script)) (entering lone it Timer timer)
        (each_too c was step (observations script c) (observations lone it) (line_places script)
        (λ line. each_too c was step (observation script c line) (observation lone it line) all_kinds (λ kind. observation_too line kind step)))
        (entering_too Timer refl timer step) among

    -- the request of the state
    abbrev asked : List Command
    asked = request_in script c c.state

    execution_too : (o : Option Configuration) → executed lone it asked ≡ o → (step : Step) → Contains (execution o) step
        → IsStepToo c was (execution (executed script c asked)) step
    execution_too None e step among = absurd (none_in step among)
    execution_too (Some after) e step among =
        let whole = executed_too c left was asked after heard e in
        record {
          name = Execute;
          to = with_link whole.to Answered;
          left = whole.left;
          is = sym (only_one _ step among) ∙ ap (λ (d : Configuration). (Execute, with_link d Answered)) whole.is;
          among = subst (λ (o : Option Configuration). Contains (execution o) (Execute, with_link whole.to Answered)) (sym whole.whole)
              (only_here (Execute, with_link whole.to Answered));
          heard = whole.heard;
        }

    refusal_too : (step : Step) → IsRefusal c was 0 asked step → IsStepToo c was (refusals script c 0 asked) step
    refusal_too step r = record {
      name = Refuse r.number;
      to = with_link r.to Failed;
      left = r.left;
      is = r.is;
      among = r.among;
      heard = subst (λ n. IsHeard g i r.to.plays r.left (told_over script i c was (take n asked)))
          (let counted : r.number ≡ 0 + r.done = r.counted in omega (arith, counted)) r.heard;
    }

    sent_too : (step : Step) → Contains (steps_by_link lone it Sent) step → IsStepToo c was (steps_by_link script c Sent) step
    sent_too step among = by (names_unbound script c) among
      where
        by : (b : Bool) → Contains (if b then refusals lone it 0 asked ++ execution (executed lone it asked) else []) step
            → IsStepToo c was (if b then refusals script c 0 asked ++ execution (executed script c asked) else []) step
        by false there = absurd (none_in step there)
        by true there =
            joined_too c was step (refusals script c 0 asked) (execution (executed script c asked))
            (refusals lone it 0 asked) (execution (executed lone it asked))
            (λ first. refusal_too step (refused c left was 0 asked step heard first)) (execution_too (executed lone it asked) refl step) there

    pub step_too : (step : Step) → Contains (steps_of lone it) step → IsStepToo c was (steps_of script c) step
    step_too step among = by c.link among
      where
        by : (link : phases.LinkPhase) → Contains (steps_by_link lone it link) step → IsStepToo c was (steps_by_link script c link) step
        by Sent there = sent_too step there
        by Answered there = reply_too (state_of script c.state).ok step there
        by Failed there = entering_too Reply refl (state_of script c.state).fault step there
        by Resting there = resting_too step there
