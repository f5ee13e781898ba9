-- What a step of an agent sends has the next number of its call, and no step changes its lines.
use Rattle.mg_safety.proofs.Words.{◌≡◌, ◌+◌, ◌<◌, ℕ, Bool, true, false, List, [], length, Option, Some, None, refl, sym, ap, subst, arith, ◌==◌, ◌&&◌, not}
use Rattle.mg_safety.proofs.Words.{if◌then◌else◌, nat_lt, Contains, Failure, arrival, is_new, answers, Agent, inbox_of, Phase, awaits_reply, awaits_pass}
use Rattle.mg_safety.proofs.Words.{resting, entered, entered_or_rests, entered_if, entered_or_stays, built_by, request_of, after_results, leads_on, replied_to}
use Rattle.mg_safety.proofs.Words.{replied, passed_in, passed, may_accept, target_of, line_in, noted, is_resting, timed, forgotten, heard, with_at, Request}
use Rattle.mg_safety.proofs.Words.{Reply, SentNote, Script, state_of, sent_in, none_in, only_one, the_some, none_is_some, and_first, and_second, false_not_true}
use Rattle.mg_safety.proofs.Words.{inl, inr, by_test}
use Rattle.mg_safety.proofs.Agents.EffectiveAgent.{results_keep}
use Rattle.mg_safety.proofs.Agents.Entering.{enters}

-- a request that is outstanding in a phase is of this call and has this number
abbrev IsNext : (call number : ℕ) → Phase → Type 0
IsNext call number phase = (request : Request) → Contains (sent_in phase) request → (request.call ≡ call) × (request.number ≡ number)

-- numbers go on by as many requests as a step sends
pub record GoesOn (call next : ℕ) (lines : ℕ → ℕ) (b : Agent) : Type 0 where
  pub call_is : b.call ≡ call
  pub lines_are : b.lines ≡ lines
  pub next_is : b.next ≡ next + length (sent_in b.phase)
  pub sent : (request : Request) → Contains (sent_in b.phase) request → (request.call ≡ call) × ((request.number ≡ next) × (next < b.next))

abbrev pub GivesNext : (call next : ℕ) → (ℕ → ℕ) → Option Agent → Type 0
GivesNext call next lines o = (b : Agent) → o ≡ Some b → GoesOn call next lines b

gives_none : (call next : ℕ) (lines : ℕ → ℕ) → GivesNext call next lines None
gives_none call next lines b e = absurd (none_is_some b e)

gives : (call next : ℕ) (lines : ℕ → ℕ) (c : Agent) → GoesOn call next lines c → GivesNext call next lines (Some c)
gives call next lines c goes b e = subst (GoesOn call next lines) (the_some c b e) goes

pub enters_next : (script : Script) (a : Agent) (state : ℕ) → GivesNext a.call a.next a.lines (entered script a state)
enters_next script a state b is = elim (enters script a state b is) [
  | inl passes ↦ subst (GoesOn a.call a.next a.lines) passes.1
      (record { call_is = refl; lines_are = refl; next_is = omega arith; sent = λ request among. absurd (none_in request among) })
  | inr asks ↦ subst (GoesOn a.call a.next a.lines) asks.1 (record {
    call_is = refl;
    lines_are = refl;
    next_is = omega arith;
    sent = λ request among. let is = only_one (request_of script a state) request among in
        (ap (λ (r : Request). r.call) (sym is), (ap (λ (r : Request). r.number) (sym is), omega arith));
  })
]

rests_next : (script : Script) (a : Agent) (target : Option ℕ) → GivesNext a.call a.next a.lines (entered_or_rests script a target)
rests_next script a None = gives a.call a.next a.lines (record a { phase = resting })
    (record { call_is = refl; lines_are = refl; next_is = omega arith; sent = λ request among. absurd (none_in request among) })
rests_next script a (Some state) = enters_next script a state

if_next : (script : Script) (a : Agent) (target : Option ℕ) → GivesNext a.call a.next a.lines (entered_if script a target)
if_next script a None = gives_none a.call a.next a.lines
if_next script a (Some state) = enters_next script a state

leads_next : (script : Script) (was a : Agent) (failure : Option Failure) → GivesNext a.call a.next a.lines (leads_on script was a failure)
leads_next script was a None = rests_next script a (state_of script was.state).ok
leads_next script was a (Some failure) = if_next script a (state_of script was.state).fault

pub replied_next : (script : Script) (a : Agent) (reply : Reply) → GivesNext a.call a.next a.lines (replied script a reply)
replied_next script a reply = in_phase a.phase
  where
    answered : (request : Request) (fits : Bool) → GivesNext a.call a.next a.lines (if fits
        then leads_on script a (after_results a (built_by script a a.state) reply.results reply.number) reply.failure else None)
    answered request true =
        let bound = after_results a (built_by script a a.state) reply.results reply.number in
        let keeps = results_keep a (built_by script a a.state) reply.results reply.number in
        let led = leads_on script a bound reply.failure in
        subst (λ call. GivesNext call a.next a.lines led) keeps.call (subst (λ next. GivesNext bound.call next a.lines led) keeps.next
        (subst (λ lines. GivesNext bound.call bound.next lines led) keeps.lines (leads_next script a bound reply.failure)))
    answered request false = gives_none a.call a.next a.lines

    in_phase : (phase : Phase) → GivesNext a.call a.next a.lines (replied_to script a phase reply)
    in_phase (awaits_reply request) = answered request (answers reply request)
    in_phase phase = gives_none a.call a.next a.lines

pub passed_next : (script : Script) (a : Agent) → GivesNext a.call a.next a.lines (passed script a)
passed_next script a = in_phase a.phase
  where
    in_phase : (phase : Phase) → GivesNext a.call a.next a.lines (passed_in script a phase)
    in_phase awaits_pass = rests_next script a (state_of script a.state).ok
    in_phase phase = gives_none a.call a.next a.lines

pub timed_next : (script : Script) (a : Agent) → GivesNext a.call a.next a.lines (timed script a)
timed_next script a = by_test (GivesNext a.call a.next a.lines) (entered_if script a (state_of script a.state).timer) None (is_resting a.phase)
    (λ rests. if_next script a (state_of script a.state).timer) (λ other. gives_none a.call a.next a.lines)

pub heard_next : (script : Script) (a : Agent) (association : ℕ) → GivesNext a.call a.next a.lines (heard script a association)
heard_next script a association = by_test (GivesNext a.call a.next a.lines) (entered script (forgotten a association) script.restart) None
    (nat_lt a.association association) (λ newer. enters_next script (forgotten a association) script.restart) (λ older. gives_none a.call a.next a.lines)

-- a call at rest has no request outstanding
rest_silent : (phase : Phase) → is_resting phase ≡ true → sent_in phase ≡ []
rest_silent (awaits_reply sent) at_rest = absurd (false_not_true at_rest)
rest_silent phase at_rest = refl

pub noted_next : (script : Script) (a : Agent) (slots : List ℕ) (sent : SentNote) → GivesNext a.call a.next a.lines (noted script a slots sent)
noted_next script a slots sent = accepted (may_accept script a sent) refl
  where
    entered_or_same : (target : Option ℕ) → is_resting a.phase ≡ true
        → GivesNext a.call a.next a.lines (entered_or_stays script (record a { accepted = with_at a.accepted sent.number true }) target)
    entered_or_same None at_rest = gives a.call a.next a.lines (record a { accepted = with_at a.accepted sent.number true })
        (let silent = rest_silent a.phase at_rest in record {
          call_is = refl;
          lines_are = refl;
          next_is = rw silent (omega arith);
          sent = λ request among. absurd (none_in request (subst (λ (sent : List Request). Contains sent request) silent among));
        })
    entered_or_same (Some state) at_rest = enters_next script (record a { accepted = with_at a.accepted sent.number true }) state

    accepted : (may : Bool) → may_accept script a sent ≡ may → GivesNext a.call a.next a.lines (if may
        then entered_or_stays script (record a { accepted = with_at a.accepted sent.number true }) (target_of script a (line_in a sent.line slots) sent.note)
        else None)
    accepted true e = entered_or_same (target_of script a (line_in a sent.line slots) sent.note)
        (and_first (is_resting a.phase) (not (state_of script a.state).is_end)
        (and_first (is_resting a.phase && not (state_of script a.state).is_end) (is_new (arrival (inbox_of a) sent.association sent.number))
        (and_second (sent.call == a.call) _ e)))
    accepted false e = gives_none a.call a.next a.lines
