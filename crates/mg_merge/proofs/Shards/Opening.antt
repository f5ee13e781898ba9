-- Where a shard opens: its world is contained in what it owns; and shards that are apart own nothing in common.
use Rattle.std.proofs.Common.{◌≡◌, ◌∙◌, ◌<◌, ℕ, true, List, length, Option, Some, None, is_some, refl, sym, ap, subst, Contains}
use Rattle.mg_merge.proofs.Words.{Agent, AreApart, CallLink, Eph, IsOpening, IsShardRun, Line, Opened, Row, Script, Shard, TermId, World, false_not_true}
use Rattle.mg_merge.proofs.Words.{none_is_some, nothing_in, opened, place_in, place_of, some_of, the_some}
use Rattle.mg_model.proofs.OpenedLines.{line_held}
use Rattle.mg_merge.proofs.Events.AgentNames.{IsAgentWithin, opened_within}
use Rattle.mg_merge.proofs.Scopes.{Scope, scope_of, AreSeparate, IsWithin}
use Rattle.mg_merge.proofs.Events.Worlds.{IsContained}

-- everything stands in the null context, or nowhere
pub all_in_null : (script : Script) (calls : List Opened) (w : World) → IsOpening script calls w → (t : TermId) → place_of w.gateway.board t ≡ 0
all_in_null script calls w o (Line l) = go (w.gateway.board.row (Line l)) refl
  where
    go : (row : Option Row) → w.gateway.board.row (Line l) ≡ row → place_in row ≡ 0
    go None e = refl
    go (Some row) e = ap (λ (r : Row). r.place.0) (o.lines.others_null l.0 row e)
all_in_null script calls w o (Eph k) = ap place_in (o.gateway.no_ephemeral k)

module _ (script : Script) (shard : Shard) (run : IsShardRun script shard) where
  -- a line of the shard is one of a call of its opening
  pub line_of_call : (l : ℕ) → (scope_of shard).lines l ≡ true
      → (one : Opened) × (i : ℕ) × Contains shard.calls one × (i < length script.lines) × (one.lines i ≡ l)
  line_of_call l own =
      let held = some_of (shard.start.gateway.holder l) own in
      let its = (run.opens.lines.held l held.0).0 held.1 in
      (its.one, its.i, its.among, its.within, its.is_line)

  -- and a line of such a call is the shard's
  pub call_line : (one : Opened) → Contains shard.calls one → (i : ℕ) → i < length script.lines → (scope_of shard).lines (one.lines i) ≡ true
  call_line one there i within = ap is_some (line_held script shard.calls shard.start.gateway run.opens.lines one there i within)

  start_holder : (l c : ℕ) → shard.start.gateway.holder l ≡ Some c → ((scope_of shard).lines l ≡ true) × (shard.numbers c ≡ true)
  start_holder l c held =
      let its = (run.opens.lines.held l c).0 held in
      (ap is_some held, ap shard.numbers (sym its.is_call) ∙ run.calls its.one its.among)

  start_agents : (c : ℕ) (a : Agent) → shard.start.agent c ≡ Some a → (shard.numbers c ≡ true) × IsAgentWithin script (scope_of shard) a
  start_agents c a there =
      let one = run.opens.agents.no_other c a there in
      let known : shard.start.agent c ≡ Some (opened script one.0.call one.0.lines) = ap shard.start.agent (sym one.2) ∙ run.opens.agents.opened one.0 one.1 in (
        ap shard.numbers (sym one.2) ∙ run.calls one.0 one.1,
        subst (IsAgentWithin script (scope_of shard)) (the_some (opened script one.0.call one.0.lines) a (sym known ∙ there))
            (opened_within script (scope_of shard) one.0.call one.0.lines (call_line one.0 one.1)),
      )

  start_within : IsWithin (scope_of shard) shard.start.gateway.board
  start_within = record {
    class = λ n. refl;
    outside = λ t other. all_in_null script shard.calls shard.start run.opens t;
    places = λ t real. absurd (real (all_in_null script shard.calls shard.start run.opens t));
    ephemerals = λ k there. absurd (false_not_true (sym (ap is_some (run.opens.gateway.no_ephemeral k)) ∙ there));
  }

  pub start_contained : IsContained script (scope_of shard) shard.start
  start_contained = record {
    board = start_within;
    holder = start_holder;
    creator = λ k c is. absurd (none_is_some c (sym (ap (λ (creator : ℕ → Option ℕ). creator k) run.opens.gateway.no_creator) ∙ is));
    link = λ c answer is. absurd (none_is_some answer (sym (ap (λ (link : ℕ → CallLink). (link c).last) run.opens.gateway.no_reply_kept) ∙ is));
    agents = start_agents;
    requests = λ request there. absurd (nothing_in request shard.start.requests run.opens.messages.no_request there);
    replies = λ answer there. absurd (nothing_in answer shard.start.replies run.opens.messages.no_answer there);
  }

-- shards that are apart own nothing in common
pub separate : (script : Script) (one other : Shard) → IsShardRun script one → IsShardRun script other → AreApart script one other
    → AreSeparate (scope_of one) (scope_of other)
separate script one other first second apart = record {
  numbers = apart.numbers;
  lines = λ l mine theirs.
      let a = line_of_call script one first l mine in
      let b = line_of_call script other second l theirs in
      apart.lines a.0 b.0 a.1 b.1 a.2 b.2 a.3 b.3 (a.4 ∙ sym b.4);
  classes = apart.classes;
}

pub turned : (s u : Scope) → AreSeparate s u → AreSeparate u s
turned s u apart = record {
  numbers = λ c first second. apart.numbers c second first;
  lines = λ l first second. apart.lines l second first;
  classes = λ n first second. apart.classes n second first;
}
