-- Two runs from two openings in which a call goes by the same events, with those that begin on its lines: their worlds treat the one that stands alike. Of some
-- calls, of which only this one is open, they have the same requests and replies but for identifiers, in one order, and have retired the same. Each event that
-- happens in both leaves them so.
use Rattle.std.proofs.Common.{◌≡◌, ◌∙◌, ℕ, Bool, true, List, [], ◌∷◌, Option, Some, sym, ap, subst, inl, inr, ◌==◌, IsTrue, if◌then◌else◌}
use Rattle.mg_merge.proofs.Words.{Agent, AgentSteps, Begins, CallEvent, ChosenRefusal, Event, Executes, Gateway, IsRequestOf, Occurs, OccursTo, Offer, Phase}
use Rattle.mg_merge.proofs.Words.{Reply, Request, Restart, Runs, Script, World, at_one, awaits_pass, awaits_reply, discard, fresh, kept, offer_to, resting}
use Rattle.mg_merge.proofs.Words.{sent_in, the_some}
use Rattle.mg_alike.proofs.Words.{AreOnce, CallAlike, IsBeginning, Pairwise, PhasesAlike, Renaming, RepliesAlike, TreatAlike}
use Rattle.mg_model.specs.declared.events.CallEvent.TheVariants as to_call
use Rattle.mg_alike.proofs.Events.Alone.{execute_retired, steps_retired}
use Rattle.mg_alike.proofs.Events.Offers.{OffersAlike, offers_alike}
use Rattle.mg_alike.proofs.Shared.Turned.{treated_mutually}
use Rattle.mg_reports.proofs.Keys.{SameKey, RequestsInStep, RepliesInStep, joined, turned}
use Rattle.mg_reports.proofs.Only.{IsOnly}
use Rattle.mg_alike.proofs.Alone.OneCall.{execute_requests}

-- of these calls the same messages but for identifiers, in one order, and the same that are retired
pub record AreInStep (keep : ℕ → Bool) (w v : World) : Type 0 where
  pub requests : RequestsInStep keep w.requests v.requests
  pub replies : RepliesInStep keep w.replies v.replies
  pub retired : (call : ℕ) → IsTrue (keep call) → v.gateway.retired call ≡ w.gateway.retired call

-- two worlds of runs from two openings, and a call that is one of these
pub record AreBeside (script : Script) (keep : ℕ → Bool) (start first : World) (call : ℕ) (w v : World) : Type 0 where
  pub past : List Event
  pub history : List Event
  pub runs : Runs script past start w
  pub also_runs : Runs script history first v
  pub treat : TreatAlike w v call
  pub kept : IsTrue (keep call)
  pub only : IsOnly keep w call
  pub also_only : IsOnly keep v call
  pub in_step : AreInStep keep w v

pub beside_turned : (script : Script) (keep : ℕ → Bool) (start first : World) (call : ℕ) (w v : World) → AreBeside script keep start first call w v
    → AreBeside script keep first start call v w
beside_turned script keep start first call w v both = record {
  past = both.history;
  history = both.past;
  runs = both.also_runs;
  also_runs = both.runs;
  treat = treated_mutually w v call both.treat;
  kept = both.kept;
  only = both.also_only;
  also_only = both.only;
  in_step = record {
    requests = turned (λ (r : Request). r.call) (λ (r : Request). r.number) keep w.requests v.requests both.in_step.requests;
    replies = turned (λ (r : Reply). r.call) (λ (r : Reply). r.number) keep w.replies v.replies both.in_step.replies;
    retired = λ c its. sym (both.in_step.retired c its);
  };
}

-- ---- an agent's step

sent_same : (r : Renaming) (one other : Phase) → PhasesAlike r one other
    → Pairwise (SameKey (λ (q : Request). q.call) (λ (q : Request). q.number)) (sent_in one) (sent_in other)
sent_same r (awaits_reply q) (awaits_reply p) same = ((same.call, same.number), tt)
sent_same r awaits_pass awaits_pass same = tt
sent_same r resting resting same = tt
sent_same r _ _ same = absurd same

steps_requests : (keep : ℕ → Bool) (w v after next : World) (call : ℕ) (step other : Agent → Option Agent) → AgentSteps w call step after
    → AgentSteps v call other next → TreatAlike after next call → RequestsInStep keep w.requests v.requests → RequestsInStep keep after.requests next.requests
steps_requests keep w v after next call step other s t treat before =
    rw (ap (λ (x : World). x.requests) s.after_is, ap (λ (x : World). x.requests) t.after_is)
    (joined (λ (r : Request). r.call) (λ (r : Request). r.number) keep (sent_in s.agent.phase) (sent_in t.agent.phase) w.requests v.requests
    (sent_same treat.renaming s.agent.phase t.agent.phase phases) before)
  where
    one_is : treat.one ≡ s.agent
    one_is = the_some treat.one s.agent
        (sym treat.alike.open_one ∙ ap (λ (x : World). x.agent call) s.after_is ∙ at_one call (Some s.agent) (w.agent call))

    other_is : treat.other ≡ t.agent
    other_is = the_some treat.other t.agent
        (sym treat.alike.open_other ∙ ap (λ (x : World). x.agent call) t.after_is ∙ at_one call (Some t.agent) (v.agent call))

    phases : PhasesAlike treat.renaming s.agent.phase t.agent.phase
    phases =
        subst (λ (x : Agent). PhasesAlike treat.renaming x.phase t.agent.phase) one_is
        (subst (λ (x : Agent). PhasesAlike treat.renaming treat.one.phase x.phase) other_is treat.alike.agents.phase)

-- ---- a request that reaches both gateways

module _ (keep : ℕ → Bool) (w v : World) (call number : ℕ) (chosen : Option ChosenRefusal) (r : Renaming) (a b : Agent) (alike : CallAlike r w v call a b)
    (retired : v.gateway.retired call ≡ w.gateway.retired call) (once : AreOnce (λ (x : Request). x.call) (λ (x : Request). x.number) v.requests)
    (q p : Request) (of : IsRequestOf w call number q) (its : IsRequestOf v call number p) (before : RepliesInStep keep w.replies v.replies) where
  same_call : p.call ≡ q.call
  same_call = its.1 ∙ sym of.1

  same_number : p.number ≡ q.number
  same_number = its.2 ∙ sym of.2

  same_association : p.association ≡ q.association
  same_association =
      let other = alike.requests.onward q of.0 of.1 in
      let same : other.0 ≡ p = once other.0 p other.1 its.0 (other.2.call ∙ sym same_call) (other.2.number ∙ sym same_number) in
      sym (ap (λ (x : Request). x.association) same) ∙ other.2.association

  offers : OffersAlike r (offer_to w.gateway q) (offer_to v.gateway p)
  offers = offers_alike r w.gateway v.gateway q p
      (ap v.gateway.retired its.1 ∙ retired ∙ ap w.gateway.retired (sym of.1))
      same_association alike.association
      (rw (of.1, its.1) alike.kept) same_number

  clash : (o s : Offer Reply) → offer_to w.gateway q ≡ o → offer_to v.gateway p ≡ s → OffersAlike r o s
  clash o s first second =
      subst (λ (x : Offer Reply). OffersAlike r x s) first (subst (λ (x : Offer Reply). OffersAlike r (offer_to w.gateway q) x) second offers)

  -- a reply more in both
  one_more : (after next : World) (one other : Reply) → after.replies ≡ one ∷ w.replies → next.replies ≡ other ∷ v.replies → other.call ≡ one.call
      → other.number ≡ one.number → RepliesInStep keep after.replies next.replies
  one_more after next one other first second calls numbers =
      rw (first, second)
      (joined (λ (x : Reply). x.call) (λ (x : Reply). x.number) keep (one ∷ []) (other ∷ []) w.replies v.replies ((calls, numbers), tt) before)

  execute_replies : (after next : World) → Executes w q chosen after → Executes v p chosen next → RepliesInStep keep after.replies next.replies
  execute_replies after next (inl f) (inl g) =
      one_more after next f.answer g.answer (ap (λ (x : World). x.replies) f.after_is) (ap (λ (x : World). x.replies) g.after_is)
      (ap (λ (x : Reply). x.call) g.executed.reply_is ∙ same_call ∙ sym (ap (λ (x : Reply). x.call) f.executed.reply_is))
      (ap (λ (x : Reply). x.number) g.executed.reply_is ∙ same_number ∙ sym (ap (λ (x : Reply). x.number) f.executed.reply_is))
  execute_replies after next (inr (inl f)) (inr (inl g)) =
      let same : RepliesAlike r f.answer g.answer = clash (kept f.answer) (kept g.answer) f.kept g.kept in
      one_more after next f.answer g.answer (ap (λ (x : World). x.replies) f.after_is) (ap (λ (x : World). x.replies) g.after_is) same.call same.number
  execute_replies after next (inr (inr f)) (inr (inr g)) =
      rw (f.1, g.1) before
  execute_replies after next (inl f) (inr (inl g)) = absurd (clash fresh (kept g.answer) f.executed.is_fresh g.kept)
  execute_replies after next (inl f) (inr (inr g)) = absurd (clash fresh discard f.executed.is_fresh g.0)
  execute_replies after next (inr (inl f)) (inl g) = absurd (clash (kept f.answer) fresh f.kept g.executed.is_fresh)
  execute_replies after next (inr (inl f)) (inr (inr g)) = absurd (clash (kept f.answer) discard f.kept g.0)
  execute_replies after next (inr (inr f)) (inl g) = absurd (clash discard fresh f.0 g.executed.is_fresh)
  execute_replies after next (inr (inr f)) (inr (inl g)) = absurd (clash discard (kept g.answer) f.0 g.kept)

-- ---- an event of the call

-- whether a call is retired, where one more is
abbrev also_retired : (call old : ℕ) → Bool → Bool
also_retired call old was = if call == old then true else was

module _ (keep : ℕ → Bool) (w v after next : World) (before : AreInStep keep w v) where
  requests_stay : after.requests ≡ w.requests → next.requests ≡ v.requests → RequestsInStep keep after.requests next.requests
  requests_stay one other =
      rw (one, other) before.requests

  replies_stay : after.replies ≡ w.replies → next.replies ≡ v.replies → RepliesInStep keep after.replies next.replies
  replies_stay one other =
      rw (one, other) before.replies

  retired_stay : after.gateway.retired ≡ w.gateway.retired → next.gateway.retired ≡ v.gateway.retired → (call : ℕ) → IsTrue (keep call)
      → next.gateway.retired call ≡ after.gateway.retired call
  retired_stay one other call its =
      ap (λ (f : ℕ → Bool). f call) other ∙ before.retired call its ∙ sym (ap (λ (f : ℕ → Bool). f call) one)

  steps_in : (call : ℕ) (step other : Agent → Option Agent) → AgentSteps w call step after → AgentSteps v call other next → TreatAlike after next call
      → AreInStep keep after next
  steps_in call step other s t treat = record {
    requests = steps_requests keep w v after next call step other s t treat before.requests;
    replies = replies_stay (ap (λ (x : World). x.replies) s.after_is) (ap (λ (x : World). x.replies) t.after_is);
    retired = retired_stay (steps_retired w after call step s) (steps_retired v next call other t);
  }

  pub in_step : (script : Script) (call : ℕ) → IsTrue (keep call) → (happens : CallEvent) → (IsBeginning happens → ⊥) → TreatAlike w v call → TreatAlike after next call
      → AreOnce (λ (x : Request). x.call) (λ (x : Request). x.number) v.requests → OccursTo script w call happens after → OccursTo script v call happens next
      → AreInStep keep after next
  in_step script call is_kept (to_call.OnLine line event) goes_on was treat once (held, o) (also, p) = record {
    requests = requests_stay (ap (λ (x : World). x.requests) o.after_is) (ap (λ (x : World). x.requests) p.after_is);
    replies = replies_stay (ap (λ (x : World). x.replies) o.after_is) (ap (λ (x : World). x.replies) p.after_is);
    retired = retired_stay (ap (λ (x : World). x.gateway.retired) o.after_is ∙ ap (λ (g : Gateway). g.retired) o.happens.after_is)
        (ap (λ (x : World). x.gateway.retired) p.after_is ∙ ap (λ (g : Gateway). g.retired) p.happens.after_is);
  }
  in_step script call is_kept (to_call.Execute number chosen) goes_on was treat once (q, of, executes) (p, its, also) = record {
    requests = requests_stay (execute_requests w after q chosen executes) (execute_requests v next p chosen also);
    replies = execute_replies keep w v call number chosen was.renaming was.one was.other was.alike (before.retired call is_kept) once q p of its before.replies after next executes also;
    retired = retired_stay (execute_retired w after q chosen executes) (execute_retired v next p chosen also);
  }
  in_step script call is_kept (to_call.Reply number) goes_on was treat once (answer, of, s) (other, its, t) = steps_in call _ _ s t treat
  in_step script call is_kept to_call.Pass goes_on was treat once s t = steps_in call _ _ s t treat
  in_step script call is_kept (to_call.Note number) goes_on was treat once (sent, of, s) (other, its, t) = steps_in call _ _ s t treat
  in_step script call is_kept to_call.Timer goes_on was treat once s t = steps_in call _ _ s t treat
  in_step script call is_kept (to_call.Begin old) goes_on was treat once s t = absurd (goes_on tt)
  in_step script call is_kept (to_call.Hear association) goes_on was treat once (past, s) (also, t) = steps_in call _ _ s t treat

  pub in_step_begun : (script : Script) (call old : ℕ) → Begins script w call old after → Begins script v call old next → AreInStep keep after next
  in_step_begun script call old b d = record {
    requests = requests_stay (ap (λ (x : World). x.requests) b.after_is) (ap (λ (x : World). x.requests) d.after_is);
    replies = replies_stay (ap (λ (x : World). x.replies) b.after_is) (ap (λ (x : World). x.replies) d.after_is);
    retired = λ c its. ap (λ (x : World). x.gateway.retired c) d.after_is
        ∙ ap (also_retired c old) (before.retired c its)
        ∙ sym (ap (λ (x : World). x.gateway.retired c) b.after_is);
  }

  pub in_step_restarted : (script : Script) → Occurs script w Restart after → Occurs script v Restart next → AreInStep keep after next
  in_step_restarted script o p = record {
    requests = requests_stay (ap (λ (x : World). x.requests) o.1) (ap (λ (x : World). x.requests) p.1);
    replies = replies_stay (ap (λ (x : World). x.replies) o.1) (ap (λ (x : World). x.replies) p.1);
    retired = retired_stay (ap (λ (x : World). x.gateway.retired) o.1) (ap (λ (x : World). x.gateway.retired) p.1);
  }
