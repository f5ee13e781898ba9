-- How long requests are: a request has at most as many commands as the state that it is built of, so where each state has few, each step of an
-- agent sends few.
use Rattle.std.proofs.Common.{◌≡◌, ◌+◌, ◌≤◌, ℕ, Bool, true, false, List, [], ◌∷◌, length, Option, Some, None, refl, sym, subst, arith, inl, inr, ◌==◌}
use Rattle.std.proofs.Common.{if◌then◌else◌, nat_lt, nat_le, Contains}
use Rattle.mg_merge.proofs.Words.{Agent, Command, Failure, Made, Phase, Reply, Request, Script, SentNote, State, after_results, and_first, and_second, answers}
use Rattle.mg_merge.proofs.Words.{arrival, awaits_pass, awaits_reply, bound_by, built_by, cases_lt, commands_of, entered, entered_if, entered_or_rests}
use Rattle.mg_merge.proofs.Words.{entered_or_stays, entered_with, false_not_true, forgotten, heard, inbox_of, is_empty, is_new, is_resting, last_number}
use Rattle.mg_merge.proofs.Words.{leads_on, line_in, made_after, may_accept, no_state, none_in, none_is_some, none_made, noted, only_one, passed, passed_in}
use Rattle.mg_merge.proofs.Words.{replied, replied_to, request_of, resting, sent_in, slice_get_past, state_of, target_of, the_some, timed, unwrap_or-slice_get}
use Rattle.mg_merge.proofs.Words.{with_accepted}
use Rattle.mg_model.proofs.Built.{built_no_more}
use Rattle.mg_model.specs.Accepted.{HasFewCommands, most_commands}

-- ---- the commands of a state

few_in_state : (script : Script) → HasFewCommands script → (state : ℕ) → length (state_of script state).commands ≤ most_commands
few_in_state script few state = elim (cases_lt state (length script.states)) [
  | inl below ↦ subst (λ (s : State). length s.commands ≤ most_commands) (sym (unwrap_or-slice_get script.states state no_state)) (few state no_state below)
  | inr past ↦ rw (slice_get_past script.states state past) (omega (arith))
]

pub sent_as_many : (script : Script) (a : Agent) (made : Made) (place : ℕ) (commands : List Command)
    → length (commands_of script a made place commands) ≡ length commands
sent_as_many script a made place [] = refl
sent_as_many script a made place (command ∷ more) =
    let later = sent_as_many script a (made_after made command place) (place + 1) more in omega (arith, later)

-- ---- steps

abbrev pub IsShort : Request → Type 0
IsShort request = length request.commands ≤ most_commands

abbrev pub GivesShort : Option Agent → Type 0
GivesShort o = (b : Agent) → o ≡ Some b → (request : Request) → Contains (sent_in b.phase) request → IsShort request

gives_none : GivesShort None
gives_none b e = absurd (none_is_some b e)

gives_where : (test : Bool) (o : Option Agent) → (test ≡ true → GivesShort o) → GivesShort (if test then o else None)
gives_where true o gives = gives refl
gives_where false o gives = gives_none

-- an agent that sends nothing
sends_nothing : (c : Agent) → sent_in c.phase ≡ [] → GivesShort (Some c)
sends_nothing c nothing b e request there =
    let its : Contains (sent_in c.phase) request = subst (λ (x : Agent). Contains (sent_in x.phase) request) (sym (the_some c b e)) there in
    absurd (none_in request (subst (λ (requests : List Request). Contains requests request) nothing its))

module _ (script : Script) (few : HasFewCommands script) where
  request_short : (a : Agent) (state : ℕ) → IsShort (request_of script a state)
  request_short a state =
      let all = few_in_state script few state in
      let kept = built_no_more (bound_by a) (state_of script state).commands in
      let same = sent_as_many script a none_made 0 (built_by script a state) in
      omega (arith, all, kept, same)

  enters_with : (a : Agent) (state : ℕ) (empty : Bool) → GivesShort (entered_with script a state empty)
  enters_with a state true = sends_nothing (record a { state = state; phase = awaits_pass }) refl
  enters_with a state false = gives_where (nat_le a.next last_number) (Some c) (λ room b e request there. subst IsShort
      (only_one (request_of script a state) request (subst (λ (x : Agent). Contains (sent_in x.phase) request) (sym (the_some c b e)) there))
      (request_short a state))
    where
      c : Agent
      c = record a { state = state; phase = awaits_reply (request_of script a state); next = a.next + 1 }

  enters : (a : Agent) (state : ℕ) → GivesShort (entered script a state)
  enters a state = enters_with a state (is_empty (built_by script a state))

  rests : (a : Agent) (target : Option ℕ) → GivesShort (entered_or_rests script a target)
  rests a None = sends_nothing (record a { phase = resting }) refl
  rests a (Some state) = enters a state

  enters_if : (a : Agent) (target : Option ℕ) → GivesShort (entered_if script a target)
  enters_if a None = gives_none
  enters_if a (Some state) = enters a state

  leads : (was a : Agent) (failure : Option Failure) → GivesShort (leads_on script was a failure)
  leads was a None = rests a (state_of script was.state).ok
  leads was a (Some failure) = enters_if a (state_of script was.state).fault

  pub replied_short : (a : Agent) (reply : Reply) → GivesShort (replied script a reply)
  replied_short a reply = in_phase a.phase
    where
      in_phase : (phase : Phase) → GivesShort (replied_to script a phase reply)
      in_phase (awaits_reply request) = gives_where (answers reply request) _
          (λ fits. leads a (after_results a (built_by script a a.state) reply.results reply.number) reply.failure)
      in_phase _ = gives_none

  pub passed_short : (a : Agent) → GivesShort (passed script a)
  passed_short a = in_phase a.phase
    where
      in_phase : (phase : Phase) → GivesShort (passed_in script a phase)
      in_phase awaits_pass = rests a (state_of script a.state).ok
      in_phase _ = gives_none

  pub timed_short : (a : Agent) → GivesShort (timed script a)
  timed_short a = gives_where (is_resting a.phase) _ (λ rest. enters_if a (state_of script a.state).timer)

  pub heard_short : (a : Agent) (association : ℕ) → GivesShort (heard script a association)
  heard_short a association = gives_where (nat_lt a.association association) _ (λ newer. enters (forgotten a association) script.restart)

  rest_sends_nothing : (phase : Phase) → is_resting phase ≡ true → sent_in phase ≡ []
  rest_sends_nothing resting e = refl
  rest_sends_nothing _ e = absurd (false_not_true e)

  -- a note is accepted at rest alone
  pub noted_short : (a : Agent) (slots : List ℕ) (sent : SentNote) → GivesShort (noted script a slots sent)
  noted_short a slots sent = gives_where (may_accept script a sent) _
      (λ may. goes (rest_sends_nothing a.phase (at_rest may)) (target_of script b (line_in b sent.line slots) sent.note))
    where
      b : Agent
      b = record a { accepted = (with_accepted (inbox_of a) sent.number).accepted }

      goes : sent_in a.phase ≡ [] → (target : Option ℕ) → GivesShort (entered_or_stays script b target)
      goes nothing None = sends_nothing b nothing
      goes nothing (Some state) = enters b state

      at_rest : may_accept script a sent ≡ true → is_resting a.phase ≡ true
      at_rest may = and_first (is_resting a.phase) _ (and_first _ (is_new (arrival (inbox_of a) sent.association sent.number)) (and_second (sent.call == a.call) _ may))
