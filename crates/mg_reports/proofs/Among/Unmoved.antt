-- An event of a call that is none of some calls leaves one of them beside itself: of these no message is sent, and none is retired but by one that begins on its
-- lines.
use Rattle.std.proofs.Common.{◌≡◌, ◌∙◌, ◌++◌, ℕ, Bool, true, List, [], ◌∷◌, Option, refl, sym, ap, subst, inl, inr, ◌==◌, IsTrue, Contains}
use Rattle.mg_merge.proofs.Words.{Agent, AgentSteps, All, Begins, CallEvent, CallNo, ChosenRefusal, Entry, Executes, Gateway, IsEntryOf, IsOpening, IsScript}
use Rattle.mg_merge.proofs.Words.{NoneBroken, OccursTo, OfCall, Opened, Reply, Request, Script, World, eqb-true, false_from_ne_true, first_in, heard, later_in}
use Rattle.mg_merge.proofs.Words.{line_places, noted, only_one, passed, replied, sent_in, timed, where_false}
use Rattle.mg_alike.proofs.Words.{IsRetiredBy}
use Rattle.mg_model.specs.declared.events.CallEvent.TheVariants as to_call
use Rattle.mg_model.proofs.Offered.{kept_at}
use Rattle.mg_safety.proofs.Messages.NamedMessages.{opening_numbered, runs_numbered}
use Rattle.mg_safety.proofs.Messages.NumberedWorlds.{IsNumbered}
use Rattle.mg_safety.proofs.SmallLaws.AgentLaws.{IsOwn, GivesOwn, replied_own, passed_own, noted_own, timed_own, heard_own}
use Rattle.mg_alike.proofs.Events.Alone.{execute_retired, runs_on, steps_retired}
use Rattle.mg_alike.proofs.Events.Others.{others_alike}
use Rattle.mg_reports.proofs.Beside.{AreBeside}
use Rattle.mg_reports.proofs.Keys.{those_of}
use Rattle.mg_reports.proofs.Only.{IsOnly, only_beside}
use Rattle.mg_reports.proofs.Steps.{both_reached}

-- of these calls the messages are the same, and those that are retired
record IsUnmoved (keep : ℕ → Bool) (w after : World) : Type 0 where
  requests : those_of (λ (r : Request). r.call) keep after.requests ≡ those_of (λ (r : Request). r.call) keep w.requests
  replies : those_of (λ (r : Reply). r.call) keep after.replies ≡ those_of (λ (r : Reply). r.call) keep w.replies
  retired : (c : ℕ) → IsTrue (keep c) → after.gateway.retired c ≡ w.gateway.retired c

-- what is sent of another call is none of these
none_new : {A : Type 0} (of : A → ℕ) (keep : ℕ → Bool) (who : ℕ) → (IsTrue (keep who) → ⊥) → (new old : List A)
    → ((x : A) → Contains new x → of x ≡ who) → those_of of keep (new ++ old) ≡ those_of of keep old
none_new of keep who none [] old own = refl
none_new of keep who none (x ∷ new) old own =
    where_false (keep (of x)) (x ∷ those_of of keep (new ++ old)) (those_of of keep (new ++ old))
    (false_from_ne_true (keep (of x)) (λ is. none (sym (ap keep (own x (first_in x new))) ∙ is)))
    ∙ none_new of keep who none new old (λ y there. own y (later_in x new y there))

module _ (keep : ℕ → Bool) (w after : World) (who : ℕ) (none : IsTrue (keep who) → ⊥) (numbered : IsNumbered w) where
  retired_as_it_was : after.gateway.retired ≡ w.gateway.retired → (c : ℕ) → IsTrue (keep c) → after.gateway.retired c ≡ w.gateway.retired c
  retired_as_it_was same c its = ap (λ (f : ℕ → Bool). f c) same

  step_unmoved : (step : Agent → Option Agent) → ((a : Agent) → GivesOwn a.call (step a)) → AgentSteps w who step after → IsUnmoved keep w after
  step_unmoved step own s = record {
    requests = ap (λ (x : World). those_of (λ (r : Request). r.call) keep x.requests) s.after_is
        ∙ none_new (λ (r : Request). r.call) keep who none (sent_in s.agent.phase) w.requests
        (subst (λ (n : ℕ). IsOwn n s.agent.phase) (numbered.agents who s.before s.open_call) (own s.before s.agent s.steps));
    replies = ap (λ (x : World). those_of (λ (r : Reply). r.call) keep x.replies) s.after_is;
    retired = retired_as_it_was (steps_retired w after who step s);
  }

  -- a reply more, of the call
  one_reply : (answer : Reply) → answer.call ≡ who → those_of (λ (r : Reply). r.call) keep (answer ∷ w.replies) ≡ those_of (λ (r : Reply). r.call) keep w.replies
  one_reply answer its =
      none_new (λ (r : Reply). r.call) keep who none (answer ∷ []) w.replies (λ x there. ap (λ (r : Reply). r.call) (sym (only_one answer x there)) ∙ its)

  execute_unmoved : (request : Request) (chosen : Option ChosenRefusal) → request.call ≡ who → Executes w request chosen after → IsUnmoved keep w after
  execute_unmoved request chosen of (inl f) = record {
    requests = ap (λ (x : World). those_of (λ (r : Request). r.call) keep x.requests) f.after_is;
    replies = ap (λ (x : World). those_of (λ (r : Reply). r.call) keep x.replies) f.after_is
        ∙ one_reply f.answer (ap (λ (r : Reply). r.call) f.executed.reply_is ∙ of);
    retired = retired_as_it_was (execute_retired w after request chosen (inl f));
  }
  execute_unmoved request chosen of (inr (inl f)) = record {
    requests = ap (λ (x : World). those_of (λ (r : Request). r.call) keep x.requests) f.after_is;
    replies = ap (λ (x : World). those_of (λ (r : Reply). r.call) keep x.replies) f.after_is
        ∙ one_reply f.answer ((numbered.replies.kept request.call f.answer (kept_at w.gateway request f.answer f.kept)).0 ∙ of);
    retired = retired_as_it_was (execute_retired w after request chosen (inr (inl f)));
  }
  execute_unmoved request chosen of (inr (inr f)) = record {
    requests = ap (λ (x : World). those_of (λ (r : Request). r.call) keep x.requests) f.1;
    replies = ap (λ (x : World). those_of (λ (r : Reply). r.call) keep x.replies) f.1;
    retired = retired_as_it_was (execute_retired w after request chosen (inr (inr f)));
  }

  -- one that begins on the lines of another, which is none of these unless it is the one that is open
  begun_unmoved : (script : Script) (call old : ℕ) → IsOnly keep w call → (old ≡ call → ⊥) → Begins script w who old after → IsUnmoved keep w after
  begun_unmoved script call old only differ b = record {
    requests = ap (λ (x : World). those_of (λ (r : Request). r.call) keep x.requests) b.after_is;
    replies = ap (λ (x : World). those_of (λ (r : Reply). r.call) keep x.replies) b.after_is;
    retired = λ c its. ap (λ (x : World). x.gateway.retired c) b.after_is
        ∙ where_false (c == old) true (w.gateway.retired c)
        (false_from_ne_true (c == old) (λ e. differ (only old b.before (ap keep (sym (eqb-true c old e)) ∙ its) b.open_call)));
  }

  event_unmoved : (script : Script) (call : ℕ) (happens : CallEvent) → IsOnly keep w call → (IsRetiredBy happens call → ⊥) → OccursTo script w who happens after
      → IsUnmoved keep w after
  event_unmoved script call (to_call.OnLine line event) only stays (held, o) = record {
    requests = ap (λ (x : World). those_of (λ (r : Request). r.call) keep x.requests) o.after_is;
    replies = ap (λ (x : World). those_of (λ (r : Reply). r.call) keep x.replies) o.after_is;
    retired = retired_as_it_was (ap (λ (x : World). x.gateway.retired) o.after_is ∙ ap (λ (g : Gateway). g.retired) o.happens.after_is);
  }
  event_unmoved script call (to_call.Execute number chosen) only stays (request, of, executes) = execute_unmoved request chosen of.1 executes
  event_unmoved script call (to_call.Reply number) only stays (answer, of, s) = step_unmoved (λ a. replied script a answer) (λ a. replied_own script a answer) s
  event_unmoved script call to_call.Pass only stays s = step_unmoved (passed script) (passed_own script) s
  event_unmoved script call (to_call.Note number) only stays (sent, of, s) =
      step_unmoved (λ a. noted script a (line_places script) sent) (λ a. noted_own script a (line_places script) sent) s
  event_unmoved script call to_call.Timer only stays s = step_unmoved (timed script) (timed_own script) s
  event_unmoved script call (to_call.Begin old) only stays b = begun_unmoved script call old.0 only stays b
  event_unmoved script call (to_call.Hear association) only stays (past, s) =
      step_unmoved (λ a. heard script a association.0) (λ a. heard_own script a association.0) s

-- ---- so the call is beside itself after it

module _ (script : Script) (entries : List Entry) (is_script : IsScript script) (listed : All (IsEntryOf script) entries) (none_broken : NoneBroken script entries)
    (calls others : List Opened) (keep : ℕ → Bool) (start first : World) (opens : IsOpening script calls start) (also_opens : IsOpening script others first) where
  pub other_beside : (call : ℕ) (w v : World) → AreBeside script keep start first call w v → (who : CallNo) (happens : CallEvent) → (IsTrue (keep who.0) → ⊥)
      → (IsRetiredBy happens call → ⊥) → (after : World) → OccursTo script w who.0 happens after → AreBeside script keep start first call after v
  other_beside call w v both who happens none stays after occurs = record {
    past = both.past ++ OfCall who happens ∷ [];
    history = both.history;
    runs = runs_on script both.past start w after (OfCall who happens) both.runs occurs;
    also_runs = both.also_runs;
    treat = others_alike script w v (both_reached script entries is_script listed none_broken calls others keep start first opens also_opens call w v both) call who.0
        happens (λ is. none (ap keep is ∙ both.kept)) stays both.treat after occurs;
    kept = both.kept;
    only = only_beside script keep w after call both.only who.0 happens none occurs;
    also_only = both.also_only;
    in_step = record {
      requests = rw unmoved.requests both.in_step.requests;
      replies = rw unmoved.replies both.in_step.replies;
      retired = λ c its. both.in_step.retired c its ∙ sym (unmoved.retired c its);
    };
  }
    where
      unmoved : IsUnmoved keep w after
      unmoved = event_unmoved keep w after who.0 none (runs_numbered script both.past start w (opening_numbered script calls start opens) both.runs) script call happens
          both.only stays occurs
