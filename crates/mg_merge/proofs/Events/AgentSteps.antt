-- What an event of a shard is in the merge; and the steps of an agent: the agent of the same call steps alike.
use Rattle.std.proofs.Common.{◌≡◌, ◌∙◌, ◌++◌, ℕ, Bool, true, false, List, Option, Some, refl, sym, ap, subst, inl, inr, ◌==◌, Contains, if◌then◌else◌}
use Rattle.mg_merge.proofs.Words.{Agent, AgentSteps, Contains-append_cases, Contains-append_left, Contains-append_right, Request, Script, World, agent_steps}
use Rattle.mg_merge.proofs.Words.{at_another, eqb-true, not_both, sent_in, the_some}
use Rattle.mg_merge.proofs.Events.AgentNames.{IsAgentWithin, IsRequestWithin, GivesWithin}
use Rattle.mg_merge.proofs.Commands.RequestRuns.{same_outside}
use Rattle.mg_merge.proofs.Scopes.{Scope}
use Rattle.mg_merge.proofs.Events.Worlds.{IsContained, IsBeside, IsMerge, LeavesOthers}

-- after an event of a shard: the merge goes on, beside the shard, and all else stays
pub record Follows (script : Script) (s : Scope) (next m : World) (occurs : World → Type 0) : Type 0 where
  pub merged : World
  pub happens : occurs merged
  pub contained : IsContained script s next
  pub along : IsBeside s next merged
  pub merge : IsMerge merged
  pub others : LeavesOthers s m merged

-- what happens in the world that an event leaves follows what happens in the same world
pub follows_so : {script : Script} {s : Scope} {next after m : World} {goes occurs : World → Type 0} → after ≡ next
    → ((merged : World) → goes merged → occurs merged) → Follows script s next m goes → Follows script s after m occurs
follows_so {script} {s} {next} {after} {m} {goes} {occurs} same also it = subst (λ (w : World). Follows script s w m occurs) (sym same) (record {
  merged = it.merged;
  happens = also it.merged it.happens;
  contained = it.contained;
  along = it.along;
  merge = it.merge;
  others = it.others;
})

-- nothing changes
pub leaves_itself : (s : Scope) (m : World) → LeavesOthers s m m
leaves_itself s m = assumption (same_outside s m.gateway.board)

-- a number that isn't the shard's is not that of its call
pub another_number : (s : Scope) (call c : ℕ) → s.numbers call ≡ true → s.numbers c ≡ false → c ≡ call → ⊥
another_number s call c own other is = not_both (ap s.numbers is ∙ own) other

-- what was added to both is in both
pub added_to_both : {A : Type 0} (new old more : List A) → ((x : A) → Contains old x → Contains more x) → (x : A)
    → Contains (new ++ old) x → Contains (new ++ more) x
added_to_both new old more on x there = elim (Contains-append_cases new old x there) [
  | inl first ↦ Contains-append_left new more x first
  | inr later ↦ Contains-append_right new more x (on x later)
]

module _ (script : Script) (s : Scope) (w m : World) (contained : IsContained script s w) (along : IsBeside s w m) (merge : IsMerge m)
    (call : ℕ) (own : s.numbers call ≡ true) where
  stepped_agents : (a : Agent) → IsAgentWithin script s a → (c : ℕ) (b : Agent) → (agent_steps w call a).agent c ≡ Some b
      → (s.numbers c ≡ true) × IsAgentWithin script s b
  stepped_agents a within c b = go (c == call) refl
    where
      go : (test : Bool) → (c == call) ≡ test → (if test then Some a else w.agent c) ≡ Some b → (s.numbers c ≡ true) × IsAgentWithin script s b
      go true e is = (ap s.numbers (eqb-true c call e) ∙ own, subst (IsAgentWithin script s) (the_some a b is) within)
      go false e is = contained.agents c b is

  stepped_requests : (a : Agent) → IsAgentWithin script s a → (request : Request) → Contains (sent_in a.phase ++ w.requests) request
      → IsRequestWithin s request
  stepped_requests a within request there = elim (Contains-append_cases (sent_in a.phase) w.requests request there) [
    | inl new ↦ within.sends request new
    | inr before ↦ contained.requests request before
  ]

  stepped : (a : Agent) → IsAgentWithin script s a → Follows script s (agent_steps w call a) m (λ after. after ≡ agent_steps m call a)
  stepped a within = record {
    merged = agent_steps m call a;
    happens = refl;
    contained = assumption (stepped_agents a within, stepped_requests a within);
    along = assumption (
      λ (c : ℕ) (its : s.numbers c ≡ true). ap (λ (o : Option Agent). if c == call then Some a else o) (along.agent c its),
      added_to_both (sent_in a.phase) w.requests m.requests along.requests,
    );
    merge = assumption;
    others = assumption (
      same_outside s m.gateway.board,
      λ (c : ℕ) (other : s.numbers c ≡ false). at_another call c (Some a) (m.agent c) (another_number s call c own other),
      Contains-append_right (sent_in a.phase) m.requests,
    );
  }

  -- the agent of the call steps
  pub agent_follows : (step : Agent → Option Agent) (after : World) → ((a : Agent) → IsAgentWithin script s a → GivesWithin script s (step a))
      → AgentSteps w call step after → Follows script s after m (AgentSteps m call step)
  agent_follows step after gives x = follows_so x.after_is
      (λ merged is. record { before = x.before; agent = x.agent; open_call = along.agent call own ∙ x.open_call; steps = x.steps; after_is = is })
      (stepped x.agent (gives x.before (contained.agents call x.before x.open_call).1 x.agent x.steps))
