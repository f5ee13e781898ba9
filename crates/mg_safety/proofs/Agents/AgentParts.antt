-- Parts of the steps of an agent: the configuration that it is shown by where a target is entered, and what stays of a lost call.
use Rattle.mg_safety.proofs.Invariant.Sound.{Listed}
use Rattle.mg_safety.proofs.Words.{◌≡◌, ◌∙◌, ◌<◌, ◌≤◌, ℕ, Option, Some, None, sym, subst, arith, inl, inr, Contains, ◌⊎◌, Failure, Resting, StepName}
use Rattle.mg_safety.proofs.Words.{Agent, awaits_reply, resting, entered_or_rests, entered_if, leads_on, Configuration, Gateway, last_executed, Request}
use Rattle.mg_safety.proofs.Words.{Script, Step, entering, reply_step, steps_by_link, state_of, only_here, none_is_some, the_some, subst₂}
use Rattle.mg_names.specs.declared.phases.LinkPhase as phases
use Rattle.mg_model.specs.declared.steps.StepName.TheVariants as names
use Rattle.mg_model.specs.Steps as steps
use Rattle.mg_safety.proofs.InvariantWords.{Stands, IsCurrent, IsCurrentAt, IsLost, IsSentBy, IsClosed}
use Rattle.mg_safety.proofs.Agents.Entering.{Follows, follows_resting, enters_follows, IsBetween, enters_current, rests_current}
use Rattle.mg_safety.proofs.Agents.AgentSteps.{Goes}

-- ---- the configuration after a step

-- the link of a configuration says which steps it has
pub step_of : (script : Script) (Among : Listed) → IsClosed script Among → (c : Configuration) (link : phases.LinkPhase) (step : Step)
    → Stands script Among c → c.link ≡ link → Contains (steps_by_link script c link) step → Stands script Among step.1
step_of script Among closed c link step stands is among =
    closed.steps c step stands (subst (λ (l : phases.LinkPhase). Contains (steps_by_link script c l) step) (sym is) among)

-- where a target leads: the state is entered, or the call rests
abbrev pub led_to : Script → Configuration → Option ℕ → Configuration
led_to script c None = steps.with_link c Resting
led_to script c (Some state) = steps.with_state script c state

-- a target is entered, where the checker enters it
pub target_entered : (script : Script) (Among : Listed) (g : Gateway) (e : Agent) (c : Configuration) (name : StepName) (target : Option ℕ) (b : Agent)
    → IsBetween script g e c → ((step : Step) → Contains (entering script c name target) step → Stands script Among step.1)
    → entered_if script e target ≡ Some b → IsCurrentAt script Among g b (led_to script c target)
target_entered script Among g e c name None b between stands is = absurd (none_is_some b is)
target_entered script Among g e c name (Some state) b between stands is =
    enters_current script Among g e c state b between (stands (name, steps.with_state script c state) (only_here (name, steps.with_state script c state))) is

-- after a reply without a failure the target is entered, or the call rests
pub answer_led : (script : Script) (Among : Listed) (g : Gateway) (e : Agent) (c : Configuration) (target : Option ℕ) (b : Agent)
    → IsBetween script g e c → c.state ≡ e.state → ((step : Step) → Contains (reply_step script c target) step → Stands script Among step.1)
    → entered_or_rests script e target ≡ Some b → IsCurrentAt script Among g b (led_to script c target)
answer_led script Among g e c None b between state stands is =
    subst (λ (x : Agent). IsCurrentAt script Among g x (steps.with_link c Resting)) (the_some (record e { phase = resting }) b is)
    (rests_current script Among g e c between state (stands (names.Reply, steps.with_link c Resting) (only_here (names.Reply, steps.with_link c Resting))))
answer_led script Among g e c (Some target) b between state stands is =
    enters_current script Among g e c target b between
    (stands (names.Reply, steps.with_state script c target) (only_here (names.Reply, steps.with_state script c target))) is

-- ---- the agent after it

pub rests_follows : (script : Script) (e : Agent) (target : Option ℕ) (b : Agent) → entered_or_rests script e target ≡ Some b → Follows e b
rests_follows script e None b is = subst (Follows e) (the_some (record e { phase = resting }) b is) (follows_resting e)
rests_follows script e (Some state) b is = enters_follows script e state b is

pub if_follows : (script : Script) (e : Agent) (target : Option ℕ) (b : Agent) → entered_if script e target ≡ Some b → Follows e b
if_follows script e None b is = absurd (none_is_some b is)
if_follows script e (Some state) b is = enters_follows script e state b is

pub leads_follows : (script : Script) (was e : Agent) (failure : Option Failure) (b : Agent) → leads_on script was e failure ≡ Some b → Follows e b
leads_follows script was e None b is = rests_follows script e (state_of script was.state).ok b is
leads_follows script was e (Some failure) b is = if_follows script e (state_of script was.state).fault b is

-- a lost call stays lost: nothing is read of it but its number, its association and its lines
pub lost_still : (script : Script) (g : Gateway) (a b : Agent) → IsLost script g a → b.call ≡ a.call → b.association < g.association → b.lines ≡ a.lines
    → IsLost script g b
lost_still script g a b lost call older lines =
    subst₂ (λ (n : ℕ) (at : ℕ → ℕ). IsLost script g (record b { call = n; lines = at })) (sym call) (sym lines) (record {
      association = older;
      rows = lost.rows;
      list = lost.list;
      playing = lost.playing;
      request = lost.request;
      no_ephemeral = lost.no_ephemeral;
      no_reply = lost.no_reply;
      no_cut = lost.no_cut;
    })

-- what was sent by a lost call is of an older association
pub none_settles : (script : Script) (g : Gateway) (a : Agent) → IsLost script g a → (request : Request) → IsSentBy g a request
    → request.association ≡ g.association → request.number ≤ last_executed g a.call
none_settles script g a lost request sent present =
    let older = lost.association in let at_most = sent.association in absurd (omega (arith, older, at_most, present))

-- a call with no request outstanding has sent none that wasn't executed
pub quiet : (g : Gateway) (a : Agent) → ((request : Request) → a.phase ≡ awaits_reply request → ⊥) → (request : Request) → IsSentBy g a request
    → request.association ≡ g.association → request.number ≤ last_executed g a.call
quiet g a none request sent present = elim (sent.outstanding present) [
  | inl is ↦ absurd (none request is)
  | inr settled ↦ settled
]

-- ---- how the agent goes on

-- what an agent is after it took what led it on: its number, lines and next request are those of before
pub goes_on : (script : Script) (Among : Listed) (g : Gateway) (a e b : Agent) → e.call ≡ a.call → e.lines ≡ a.lines
    → a.association ≤ e.association → e.next ≡ a.next → Follows e b
    → ((request : Request) → IsSentBy g a request → request.association ≡ g.association → request.number ≤ last_executed g a.call)
    → IsCurrent script Among g b ⊎ IsLost script g b → Goes script Among g a b
goes_on script Among g a e b call lines association next follows settled part = record {
  call = follows.call ∙ call;
  lines = follows.lines ∙ lines;
  association = let same = follows.association in omega (arith, association, same);
  next = let more = follows.next in omega (arith, next, more);
  sends = λ request is.
      let own = follows.sends request is in
      (own.0 ∙ call, own.1 ∙ sym follows.association, own.2);
  above = λ request is. let more = follows.above request is in omega (arith, next, more);
  settled = settled;
  part = part;
}

-- a lost call goes on as a lost one
pub lost_goes : (script : Script) (Among : Listed) (g : Gateway) (a e b : Agent) → IsLost script g a → e.call ≡ a.call → e.lines ≡ a.lines
    → e.association ≡ a.association → e.next ≡ a.next → Follows e b → Goes script Among g a b
lost_goes script Among g a e b lost call lines association next follows =
    let same = follows.association in
    let older = lost.association in
    goes_on script Among g a e b call lines (omega (arith, association)) next follows (none_settles script g a lost)
    (inr (lost_still script g a b lost (follows.call ∙ call) (omega (arith, association, same, older)) (follows.lines ∙ lines)))
