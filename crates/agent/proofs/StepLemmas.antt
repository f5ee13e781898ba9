-- What each step comes to, by where it leads.
use Rattle.std.proofs.lemmas.Bool.Decides.{nat_tests}
use Rattle.std.specs.Prelude.{◌==◌, ◌&&◌, if◌then◌else◌, nat_lt}
use Rattle.std.proofs.Common.{◌≡◌, ◌∙◌, ◌<◌, ℕ, List, arith, Bool, true, false, Option, Some, None, Ok, Err, refl, sym, ap, subst, true≢false}
use Rattle.mg_model.specs.Agent.{Agent, Phase, awaits_reply, awaits_pass, resting, is_resting, passed, passed_in, timed, heard, replied, replied_to, noted, may_accept, target_of, line_in, forgotten, leads_on, entered, entered_if, entered_or_rests, entered_or_stays, after_results, built_by}
use Rattle.mg_model.specs.Delivery.{arrives_new, was_seen, is_old, is_new}
use Rattle.mg_model.specs.Messages.{Reply, SentNote}
use Rattle.mg_model.specs.Script.{Script}
use Rattle.mg_model.specs.Tables.{state_of}
use Rattle.mg_model.specs.declared.failures.Failure.{Failure}
use Rattle.mg_model.proofs.Agents.{is_resting_is}
use Rattle.agent.specs.declared.entering.Entered.{Entered}
use Rattle.agent.specs.declared.entering.Start.{Start}
use Rattle.agent.specs.declared.fault.PlainFault.{PlainFault}
use Rattle.agent.specs.declared.fault.PlainFault.TheVariants.{NotEnabled, NoMemory}
use Rattle.agent.specs.PreparedValue.{PreparedValue, in_newer, finished}
use Rattle.agent.specs.Entering.{Starts, IsEntered, having, leads_from}
use Rattle.agent.specs.Parts.{agent_in, bound_as}
use Rattle.agent.specs.Preparing.{IsPreparedButForNote, IsNewNote, with_note}
use Rattle.agent.specs.Steps.{given_up, is_passing, is_awaited, accepting}

-- ---- what is put in place

-- what can't be entered is no step
pub refused : (stepped : Option Agent) (a b : Agent) (fault : PlainFault) → IsEntered stepped b (Err fault) → IsPreparedButForNote stepped a (Err fault)
refused stepped a b NotEnabled none = none
refused stepped a b NoMemory none = tt

-- what is entered from here, in a newer association or with a note, is put in place
pub leads : (stepped : Option Agent) (a b : Agent) (start : Start) (entered : Entered) (newer note : Option ℕ) (prepared : PreparedValue)
    → stepped ≡ Some (having b entered) → Starts start b
    → bound_as (in_newer (with_note a note) newer) (agent_in start.bindings) ≡ bound_as b (agent_in start.bindings)
    → ((x : Agent) → finished x prepared ≡ having (bound_as (in_newer x newer) (agent_in start.bindings)) entered)
    → prepared.note ≡ note → IsNewNote a note → IsPreparedButForNote stepped a (Ok prepared)
leads stepped a b start entered newer note prepared steps starts same puts noted new = (
  steps
      ∙ ap (λ (x : Agent). Some (having x entered)) (sym (same ∙ starts.bound))
      ∙ ap (λ (x : Agent). Some x) (sym (puts (with_note a note)))
      ∙ ap (λ n. Some (finished (with_note a n) prepared)) (sym noted),
  subst (IsNewNote a) (sym noted) new,
)

-- ---- going on from an empty request

passing : (script : Script) (a : Agent) (phase : Phase) → is_passing phase ≡ true → passed_in script a phase ≡ entered_or_rests script a (state_of script a.state).ok
passing script a (awaits_reply request) e = absurd (true≢false (sym e))
passing script a awaits_pass e = refl
passing script a resting e = absurd (true≢false (sym e))

pub passes : (script : Script) (a : Agent) (target : Option ℕ) → true ≡ is_passing a.phase → target ≡ (state_of script a.state).ok →
    passed script a ≡ entered_or_rests script a target
passes script a target e ok = passing script a a.phase (sym e) ∙ ap (entered_or_rests script a) (sym ok)

waiting : (script : Script) (a : Agent) (phase : Phase) → is_passing phase ≡ false → passed_in script a phase ≡ None
waiting script a (awaits_reply request) e = refl
waiting script a awaits_pass e = absurd (true≢false e)
waiting script a resting e = refl

pub cannot_pass : (script : Script) (a : Agent) → false ≡ is_passing a.phase → passed script a ≡ None
cannot_pass script a e = waiting script a a.phase (sym e)

-- ---- a reply

leading : (script : Script) (was a : Agent) (failure : Option Failure) → leads_on script was a failure ≡ leads_from script was.state a failure
leading script was a None = refl
leading script was a (Some failure) = refl

answered : (script : Script) (a : Agent) (reply : Reply) (phase : Phase) → is_awaited phase reply ≡ true →
    replied_to script a phase reply ≡ leads_on script a (after_results a (built_by script a a.state) reply.results reply.number) reply.failure
answered script a reply (awaits_reply request) e = rw e refl
answered script a reply awaits_pass e = absurd (true≢false (sym e))
answered script a reply resting e = absurd (true≢false (sym e))

-- it leads on from what it binds
pub replies : (script : Script) (a x : Agent) (reply : Reply) (failure : Option Failure) → true ≡ is_awaited a.phase reply →
    x ≡ after_results a (built_by script a a.state) reply.results reply.number → failure ≡ reply.failure →
    replied script a reply ≡ leads_from script a.state x failure
replies script a x reply failure e after same =
    answered script a reply a.phase (sym e) ∙ leading script a (after_results a (built_by script a a.state) reply.results reply.number) reply.failure
    ∙ ap (λ (y : Agent). leads_from script a.state y reply.failure) (sym after) ∙ ap (leads_from script a.state x) (sym same)

unanswered : (script : Script) (a : Agent) (reply : Reply) (phase : Phase) → is_awaited phase reply ≡ false → replied_to script a phase reply ≡ None
unanswered script a reply (awaits_reply request) e = rw e refl
unanswered script a reply awaits_pass e = refl
unanswered script a reply resting e = refl

pub cannot_reply : (script : Script) (a : Agent) (reply : Reply) → false ≡ is_awaited a.phase reply → replied script a reply ≡ None
cannot_reply script a reply e = unanswered script a reply a.phase (sym e)

-- ---- a note

-- what starts before a note is accepted starts after it
pub starts_accepting : (start : Start) (a : Agent) (number : ℕ) → Starts start a → Starts start (accepting a number)
starts_accepting start a number s = record {
  call = s.call;
  state = s.state;
  association = s.association;
  next = s.next;
  bound = λ i. record (s.bound i) { accepted = (accepting a number).accepted };
}

stays : (script : Script) (a : Agent) (target : Option ℕ) → a.phase ≡ resting → entered_or_stays script a target ≡ entered_or_rests script a target
stays script a None e = λ i. Some (record a { phase = e i })
stays script a (Some state) e = refl

pub notes : (script : Script) (a : Agent) (slots : List ℕ) (sent : SentNote) (target : Option ℕ) → true ≡ may_accept script a sent →
    target ≡ target_of script a (line_in a sent.line slots) sent.note → noted script a slots sent ≡ entered_or_rests script (accepting a sent.number) target
notes script a slots sent target may same =
    rw (sym may, sym same) (stays script (accepting a sent.number) target (is_resting_is a.phase (rests (sent.call == a.call) _ _ _ (sym may))))
  where
    rests : (call here ends new : Bool) → (call && (here && ends && new)) ≡ true → here ≡ true
    rests true true ends new e = refl
    rests true false ends new e = absurd (true≢false (sym e))
    rests false here ends new e = absurd (true≢false (sym e))

-- a note that is accepted wasn't accepted before
pub is_new_note : (script : Script) (a : Agent) (sent : SentNote) → true ≡ may_accept script a sent → a.accepted sent.number ≡ false
is_new_note script a sent may = by_tests (sent.call == a.call) (is_resting a.phase) _ (sent.association == a.association) (a.accepted sent.number) (sym may)
  where
    by_tests : (call rests ends ours seen : Bool) → (call && (rests && ends && is_new (if ours then (if seen then was_seen else arrives_new) else is_old))) ≡ true → seen ≡ false
    by_tests true true true true true e = absurd (true≢false (sym e))
    by_tests call rests ends ours false e = refl
    by_tests true true true false true e = absurd (true≢false (sym e))
    by_tests true true false ours true e = absurd (true≢false (sym e))
    by_tests true false ends ours true e = absurd (true≢false (sym e))
    by_tests false rests ends ours true e = absurd (true≢false (sym e))

pub cannot_note : (script : Script) (a : Agent) (slots : List ℕ) (sent : SentNote) → false ≡ may_accept script a sent → noted script a slots sent ≡ None
cannot_note script a slots sent may = rw (sym may) refl

-- ---- the timer, and a newer association

pub times : (script : Script) (a : Agent) (target : Option ℕ) → true ≡ is_resting a.phase → target ≡ (state_of script a.state).timer →
    timed script a ≡ entered_if script a target
times script a target rests timer = rw (sym rests, timer) refl

pub hears : (script : Script) (a : Agent) (association state : ℕ) → a.association < association → state ≡ script.restart →
    heard script a association ≡ entered script (forgotten a association) state
hears script a association state newer same = rw (sym same) (chosen _ _ (newer_test a.association association newer))
  where
    newer_test : (m n : ℕ) → m < n → nat_lt m n ≡ true
    newer_test m n less = grind (arith, nat_tests)

    chosen : (test : Bool) (x : Option Agent) → test ≡ true → (if test then x else None) ≡ x
    chosen test x e = rw e refl

-- ---- what is prepared over an agent that gave up what it awaited

pub newer_given_up : (a : Agent) (newer : Option ℕ) → in_newer (given_up a) newer ≡ given_up (in_newer a newer)
newer_given_up a None = refl
newer_given_up a (Some association) = refl
