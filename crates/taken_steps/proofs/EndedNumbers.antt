-- Where an agent can't take a step for which nothing but a number may be lacking, none is left for its next request.
use Rattle.std.proofs.Common.{◌≡◌, ◌∙◌, ◌<◌, ◌==◌, ◌&&◌, ℕ, Bool, true, false, List, Option, Some, None, if◌then◌else◌, refl, ap, subst, inl, inr}
use Rattle.std.specs.Prelude.{nat_le, nat_lt, not}
use Rattle.std.proofs.lemmas.Bool.{and_from, cases_lt, eq-eqb, le-leb, lt-ltb}
use Rattle.mg_model.proofs.Cases.{where_false, where_true}
use Rattle.mg_model.specs.declared.failures.Failure.{Failure}
use Rattle.mg_model.specs.Agent.{Agent, Phase, after_results, answers, awaits_pass, awaits_reply, built_by, entered, entered_if, entered_or_rests}
use Rattle.mg_model.specs.Agent.{entered_or_stays, entered_with, forgotten, heard, inbox_of, is_resting, leads_on, line_in, may_accept, noted, passed, passed_in}
use Rattle.mg_model.specs.Agent.{replied, replied_to, resting, target_of, timed}
use Rattle.mg_model.specs.Delivery.{arrival, arrives_new, is_new, is_old, was_seen, with_accepted}
use Rattle.mg_model.specs.Messages.{Reply, Request, SentNote}
use Rattle.mg_model.specs.Numbers.{last_number}
use Rattle.mg_model.specs.Script.{Script}
use Rattle.mg_model.specs.Tables.{is_empty, state_of}
use Rattle.mg_safety.proofs.Agents.EffectiveAgent.{results_keep}
use Rattle.mg_safety.proofs.Agents.Entering.{asking, passing}

-- no step is taken
abbrev pub GivesNone : Option Agent → Type 0
GivesNone o = (b : Agent) → o ≡ Some b → ⊥

as_well : (o p : Option Agent) → o ≡ p → GivesNone o → GivesNone p
as_well o p same none b is = none b (same ∙ is)

module _ (script : Script) where
  -- ---- a state can't be entered

  no_entry : (a : Agent) (state : ℕ) → GivesNone (entered script a state) → last_number < a.next
  no_entry a state = by_request (is_empty (built_by script a state))
    where
      by_request : (empty : Bool) → GivesNone (entered_with script a state empty) → last_number < a.next
      by_request true none = absurd (none (passing a state) refl)
      by_request false none = elim (cases_lt last_number a.next) [
        | inl past ↦ past
        | inr left ↦ absurd (none (asking script a state)
            (where_true (nat_le a.next last_number) (Some (asking script a state)) None (le-leb a.next last_number left)))
      ]

  or_rests : (a : Agent) (target : Option ℕ) → GivesNone (entered_or_rests script a target) → last_number < a.next
  or_rests a None none = absurd (none (record a { phase = resting }) refl)
  or_rests a (Some state) none = no_entry a state none

  or_stays : (a : Agent) (target : Option ℕ) → GivesNone (entered_or_stays script a target) → last_number < a.next
  or_stays a None none = absurd (none a refl)
  or_stays a (Some state) none = no_entry a state none

  where_target : (a : Agent) (target : Option ℕ) → (target ≡ None → ⊥) → GivesNone (entered_if script a target) → last_number < a.next
  where_target a None some none = absurd (some refl)
  where_target a (Some state) some none = no_entry a state none

  leads : (was a : Agent) (failure : Option Failure) → ((state_of script was.state).fault ≡ None → ⊥) → GivesNone (leads_on script was a failure)
      → last_number < a.next
  leads was a None fault none = or_rests a (state_of script was.state).ok none
  leads was a (Some failure) fault none = where_target a (state_of script was.state).fault fault none

  -- ---- steps

  pub no_timer_step : (a : Agent) → is_resting a.phase ≡ true → ((state_of script a.state).timer ≡ None → ⊥) → GivesNone (timed script a)
      → last_number < a.next
  no_timer_step a rests timer none =
      where_target a (state_of script a.state).timer timer (as_well (timed script a) (entered_if script a (state_of script a.state).timer)
      (where_true (is_resting a.phase) (entered_if script a (state_of script a.state).timer) None rests) none)

  pub no_hearing : (a : Agent) (association : ℕ) → a.association < association → GivesNone (heard script a association) → last_number < a.next
  no_hearing a association newer none =
      no_entry (forgotten a association) script.restart
      (as_well (heard script a association) (entered script (forgotten a association) script.restart)
      (where_true (nat_lt a.association association) (entered script (forgotten a association) script.restart) None
      (lt-ltb a.association association newer)) none)

  pub no_pass : (a : Agent) → a.phase ≡ awaits_pass → GivesNone (passed script a) → last_number < a.next
  no_pass a phase none =
      or_rests a (state_of script a.state).ok (as_well (passed script a) (passed_in script a awaits_pass) (ap (passed_in script a) phase) none)

  pub no_reply : (a : Agent) (request : Request) (answer : Reply) → a.phase ≡ awaits_reply request → answers answer request ≡ true
      → ((state_of script a.state).fault ≡ None → ⊥) → GivesNone (replied script a answer) → last_number < a.next
  no_reply a request answer phase fits fault none =
      let bound = after_results a (built_by script a a.state) answer.results answer.number in
      subst (λ n. last_number < n) (results_keep a (built_by script a a.state) answer.results answer.number).next
      (leads a bound answer.failure fault (as_well (replied script a answer) (leads_on script a bound answer.failure)
      (ap (λ (p : Phase). replied_to script a p answer) phase
      ∙ where_true (answers answer request) (leads_on script a bound answer.failure) None fits) none))

  -- ---- a note

  module _ (a : Agent) (sent : SentNote) (rests : is_resting a.phase ≡ true) (goes_on : (state_of script a.state).is_end ≡ false)
      (to_call : sent.call ≡ a.call) (of_association : sent.association ≡ a.association) (unseen : a.accepted sent.number ≡ false) where
    arrives : is_new (arrival (inbox_of a) sent.association sent.number) ≡ true
    arrives =
        ap is_new (where_true (sent.association == a.association) (if a.accepted sent.number then was_seen else arrives_new) is_old
        (eq-eqb sent.association a.association of_association))
        ∙ ap is_new (where_false (a.accepted sent.number) was_seen arrives_new unseen)

    may : may_accept script a sent ≡ true
    may =
        and_from (sent.call == a.call) _ (eq-eqb sent.call a.call to_call)
        (and_from (is_resting a.phase && not (state_of script a.state).is_end) (is_new (arrival (inbox_of a) sent.association sent.number))
        (and_from (is_resting a.phase) (not (state_of script a.state).is_end) rests (ap not goes_on)) arrives)

    abbrev b : Agent
    b = record a { accepted = (with_accepted (inbox_of a) sent.number).accepted }

    pub no_note_step : (slots : List ℕ) → GivesNone (noted script a slots sent) → last_number < a.next
    no_note_step slots none =
        let target = target_of script b (line_in b sent.line slots) sent.note in
        or_stays b target (as_well (noted script a slots sent) (entered_or_stays script b target)
        (where_true (may_accept script a sent) (entered_or_stays script b target) None may) none)
