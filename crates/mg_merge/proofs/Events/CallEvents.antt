-- Each event of a call of a shard happens in the merge, and leaves the shard beside the merge and all else as it was.
use Rattle.std.proofs.Common.{◌≡◌, ◌∙◌, ◌≤◌, ℕ, true, sym, ap, subst, refl}
use Rattle.mg_merge.proofs.Words.{CallEvent, HasIdentifiersLeft, IsScript, OccursTo, Script, World, heard, line_places, noted, passed, replied, timed}
use Rattle.mg_model.specs.declared.events.CallEvent.TheVariants as to_call
use Rattle.mg_merge.proofs.Events.AgentNames.{replied_within, passed_within, noted_within, timed_within, heard_within}
use Rattle.mg_merge.proofs.Events.AgentSteps.{Follows, agent_follows, follows_so}
use Rattle.mg_merge.proofs.Events.Beginnings.{begin_follows}
use Rattle.mg_merge.proofs.Events.LineEvents.{line_follows}
use Rattle.mg_merge.proofs.Events.Requests.{executes_follows}
use Rattle.mg_merge.proofs.Scopes.{Scope}
use Rattle.mg_merge.proofs.Events.Worlds.{IsContained, IsBeside, IsMerge}

module _ (script : Script) (is : IsScript script) (s : Scope) (w m : World) (contained : IsContained script s w) (along : IsBeside s w m) (merge : IsMerge m)
    (left : HasIdentifiersLeft w) (call : ℕ) (own : s.numbers call ≡ true) (after : World) where
  pub call_follows : (event : CallEvent) → OccursTo script w call event after → Follows script s after m (OccursTo script m call event)
  call_follows (to_call.OnLine line event) occurs = line_follows script s w m contained along merge call own line.0 event after occurs
  call_follows (to_call.Execute number chosen) (request, of, executes) = follows_so refl (λ merged is. (request, (along.requests request of.0, of.1, of.2), is))
      (executes_follows script s w m contained along merge left request of.0 (ap s.numbers of.1 ∙ own) chosen after executes)
  call_follows (to_call.Reply number) (answer, of, steps) = follows_so refl (λ merged is. (answer, (along.replies answer of.0, of.1, of.2), is))
      (agent_follows script s w m contained along merge call own (λ a. replied script a answer) after
      (λ a within. replied_within script s is a answer within (contained.replies answer of.0)) steps)
  call_follows to_call.Pass occurs = agent_follows script s w m contained along merge call own (passed script) after (passed_within script s is) occurs
  call_follows (to_call.Note number) (sent, of, steps) = follows_so refl (λ merged is. (sent, (along.notes sent of.0, of.1, of.2), is))
      (agent_follows script s w m contained along merge call own (λ a. noted script a (line_places script) sent) after
      (λ a within. noted_within script s is a (line_places script) sent within) steps)
  call_follows to_call.Timer occurs = agent_follows script s w m contained along merge call own (timed script) after (timed_within script s is) occurs
  call_follows (to_call.Begin old) occurs = begin_follows script s w m contained along merge call own old.0 after occurs
  call_follows (to_call.Hear association) (reached, steps) =
      follows_so refl (λ merged is. (subst (λ (n : ℕ). association.0 ≤ n) (sym along.association) reached, is))
      (agent_follows script s w m contained along merge call own (λ a. heard script a association.0) after
      (λ a within. heard_within script s is a association.0 within) steps)
