-- A request that an agent sends has a command: what a state builds without one isn't sent.
use Rattle.std.proofs.Common.{◌≡◌, ◌∙◌, ◌+◌, ℕ, Bool, true, false, List, [], ◌∷◌, Option, Some, None, refl, sym, subst}
use Rattle.std.specs.Prelude.{◌==◌, ◌&&◌, not, if◌then◌else◌, nat_lt, nat_le}
use Rattle.mg_model.specs.declared.commands.Command.{Command}
use Rattle.mg_model.specs.declared.failures.Failure.{Failure}
use Rattle.mg_model.specs.Agent.{answers, Agent, inbox_of, Phase, awaits_reply, awaits_pass, resting, entered_with, entered, entered_or_rests, entered_if, entered_or_stays, built_by, commands_of, none_made, request_of, after_results, leads_on, replied_to, replied, passed_in, passed, may_accept, target_of, line_in, noted, is_resting, timed, forgotten, heard}
use Rattle.mg_model.specs.Delivery.{arrival, is_new}
use Rattle.mg_model.specs.Messages.{Request, Reply, SentNote}
use Rattle.mg_model.specs.Numbers.{last_number}
use Rattle.mg_model.specs.Script.{Script}
use Rattle.mg_model.specs.Tables.{state_of, is_empty}
use Rattle.mg_model.specs.Updates.{with_at}
use Rattle.mg_model.proofs.Agents.{is_resting_is}
use Rattle.mg_model.proofs.Cases.{none_is_some, the_some, and_first, and_second}
use Rattle.mg_safety.proofs.Agents.Entering.{same_request, not_passing, not_resting}

-- the request that is outstanding in a phase has a command
abbrev pub HasCommand : Phase → Type 0
HasCommand phase = (request : Request) → phase ≡ awaits_reply request → is_empty request.commands ≡ false

abbrev pub GivesCommand : Option Agent → Type 0
GivesCommand o = (b : Agent) → o ≡ Some b → HasCommand b.phase

gives_none : GivesCommand None
gives_none b e = absurd (none_is_some b e)

gives : (c : Agent) → HasCommand c.phase → GivesCommand (Some c)
gives c has b e = subst (λ (x : Agent). HasCommand x.phase) (the_some c b e) has

pub as_empty : (script : Script) (a : Agent) (commands : List Command) → is_empty (commands_of script a none_made 0 commands) ≡ is_empty commands
as_empty script a [] = refl
as_empty script a (command ∷ more) = refl

entered_gives : (script : Script) (a : Agent) (state : ℕ) (empty : Bool) → is_empty (built_by script a state) ≡ empty
    → GivesCommand (entered_with script a state empty)
entered_gives script a state true none = gives (record a { state = state; phase = awaits_pass }) (λ request e. absurd (not_passing request e))
entered_gives script a state false some = numbered (nat_le a.next last_number)
  where
    numbered : (room : Bool) → GivesCommand (if room
        then Some (record a { state = state; phase = awaits_reply (request_of script a state); next = a.next + 1 }) else None)
    numbered true = gives (record a { state = state; phase = awaits_reply (request_of script a state); next = a.next + 1 })
        (λ request e. subst (λ (r : Request). is_empty r.commands ≡ false) (same_request (request_of script a state) request e)
        (as_empty script a (built_by script a state) ∙ some))
    numbered false = gives_none

enters_gives : (script : Script) (a : Agent) (state : ℕ) → GivesCommand (entered script a state)
enters_gives script a state = entered_gives script a state (is_empty (built_by script a state)) refl

rests_gives : (script : Script) (a : Agent) (target : Option ℕ) → GivesCommand (entered_or_rests script a target)
rests_gives script a None = gives (record a { phase = resting }) (λ request e. absurd (not_resting request e))
rests_gives script a (Some state) = enters_gives script a state

if_gives : (script : Script) (a : Agent) (target : Option ℕ) → GivesCommand (entered_if script a target)
if_gives script a None = gives_none
if_gives script a (Some state) = enters_gives script a state

leads_gives : (script : Script) (was a : Agent) (failure : Option Failure) → GivesCommand (leads_on script was a failure)
leads_gives script was a None = rests_gives script a (state_of script was.state).ok
leads_gives script was a (Some failure) = if_gives script a (state_of script was.state).fault

pub replied_gives : (script : Script) (a : Agent) (answer : Reply) → GivesCommand (replied script a answer)
replied_gives script a answer = in_phase a.phase
  where
    answered : (fits : Bool) → GivesCommand (if fits
        then leads_on script a (after_results a (built_by script a a.state) answer.results answer.number) answer.failure else None)
    answered true = leads_gives script a (after_results a (built_by script a a.state) answer.results answer.number) answer.failure
    answered false = gives_none

    in_phase : (phase : Phase) → GivesCommand (replied_to script a phase answer)
    in_phase (awaits_reply request) = answered (answers answer request)
    in_phase awaits_pass = gives_none
    in_phase resting = gives_none

pub passed_gives : (script : Script) (a : Agent) → GivesCommand (passed script a)
passed_gives script a = in_phase a.phase
  where
    in_phase : (phase : Phase) → GivesCommand (passed_in script a phase)
    in_phase awaits_pass = rests_gives script a (state_of script a.state).ok
    in_phase (awaits_reply request) = gives_none
    in_phase resting = gives_none

pub timed_gives : (script : Script) (a : Agent) → GivesCommand (timed script a)
timed_gives script a = at_rest (is_resting a.phase)
  where
    at_rest : (rests : Bool) → GivesCommand (if rests then entered_if script a (state_of script a.state).timer else None)
    at_rest true = if_gives script a (state_of script a.state).timer
    at_rest false = gives_none

pub heard_gives : (script : Script) (a : Agent) (association : ℕ) → GivesCommand (heard script a association)
heard_gives script a association = newer (nat_lt a.association association)
  where
    newer : (is_newer : Bool) → GivesCommand (if is_newer then entered script (forgotten a association) script.restart else None)
    newer true = enters_gives script (forgotten a association) script.restart
    newer false = gives_none

pub noted_gives : (script : Script) (a : Agent) (slots : List ℕ) (sent : SentNote) → GivesCommand (noted script a slots sent)
noted_gives script a slots sent = accepted (may_accept script a sent) refl
  where
    entered_or_same : (target : Option ℕ) → is_resting a.phase ≡ true
        → GivesCommand (entered_or_stays script (record a { accepted = with_at a.accepted sent.number true }) target)
    entered_or_same None at_rest = gives (record a { accepted = with_at a.accepted sent.number true })
        (λ request e. absurd (not_resting request (sym (is_resting_is a.phase at_rest) ∙ e)))
    entered_or_same (Some state) at_rest = enters_gives script (record a { accepted = with_at a.accepted sent.number true }) state

    accepted : (may : Bool) → may_accept script a sent ≡ may → GivesCommand (if may
        then entered_or_stays script (record a { accepted = with_at a.accepted sent.number true }) (target_of script a (line_in a sent.line slots) sent.note)
        else None)
    accepted true e = entered_or_same (target_of script a (line_in a sent.line slots) sent.note)
        (and_first (is_resting a.phase) (not (state_of script a.state).is_end)
        (and_first (is_resting a.phase && not (state_of script a.state).is_end) (is_new (arrival (inbox_of a) sent.association sent.number))
        (and_second (sent.call == a.call) _ e)))
    accepted false e = gives_none
