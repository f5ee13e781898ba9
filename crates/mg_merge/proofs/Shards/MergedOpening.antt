-- Where the merge opens: the lines, the holders and the agents of all shards. It is an opening of all their calls, and each shard stands beside it.
use Rattle.std.proofs.Common.{◌<◌, length, ◌≡◌, ◌∙◌, ℕ, Bool, true, false, List, [], Option, Some, None, is_some, refl, sym, ap, subst, inl, inr, ◌⊎◌, Contains}
use Rattle.std.proofs.Common.{◌∷◌}
use Rattle.mg_merge.proofs.Words.{Agent, AreAllApart, AreDistinct, AreOpenedLines, CallLink, Contains-append_cases, Eph, IsLineOf, IsOpening, IsShardRun, Line}
use Rattle.mg_merge.proofs.Words.{Opened, Row, Script, Shard, TermId, World, all_calls, armed_line, false_not_true, first_association, first_in, flat_map}
use Rattle.mg_merge.proofs.Words.{in_joined, later_in, none_in, none_is_some, nothing_in, null_row, place_of, the_some}
use Rattle.mg_model.proofs.OpenedLines.{line_armed, line_held, line_stands, opened_lines}
use Rattle.mg_merge.proofs.Shards.Choosing.{first_with, only_with, from_first, class_of, in_class, two_of}
use Rattle.mg_merge.proofs.Shards.Opening.{line_of_call, call_line, start_contained, separate}
use Rattle.mg_merge.proofs.Scopes.{scope_of, mine}
use Rattle.mg_merge.proofs.Events.Worlds.{IsBeside, IsMerge}

-- what stands in lists that are joined
from_joined : {X A : Type 0} (f : X → List A) (xs : List X) (a : A) → Contains (flat_map f xs) a → (x : X) × Contains xs x × Contains (f x) a
from_joined f [] a among = absurd (none_in a among)
from_joined f (y ∷ ys) a among = go (Contains-append_cases (f y) (flat_map f ys) a among) (from_joined f ys a)
  where
    go : Contains (f y) a ⊎ Contains (flat_map f ys) a → (Contains (flat_map f ys) a → (x : _) × Contains ys x × Contains (f x) a)
        → (x : _) × Contains (y ∷ ys) x × Contains (f x) a
    go (inl first) on = (y, first_in y ys, first)
    go (inr later) on = let it = on later in (it.0, later_in y ys it.0 it.1, it.2)

-- ---- the world

abbrev opened_row : TermId → Option Row
opened_row (Line l) = Some null_row
opened_row (Eph k) = None

abbrev pub holder_of : ℕ → Shard → Option ℕ
holder_of l shard = shard.start.gateway.holder l

abbrev pub agent_of : ℕ → Shard → Option Agent
agent_of c shard = shard.start.agent c

abbrev pub merged_start : List Shard → World
merged_start shards = record {
  gateway = record {
    association = first_association;
    board = record { row = opened_row; cut = λ t u. false; used_context = λ n. false; used_ephemeral = λ n. false; class = class_of shards };
    line = λ l. armed_line;
    holder = λ l. first_with (holder_of l) shards;
    creator = λ k. None;
    link = λ call. record { last = None; notes = 0 };
    retired = λ call. false;
  };
  agent = λ c. first_with (agent_of c) shards;
  requests = [];
  replies = [];
  notes = [];
}

all_null : (t : TermId) (shards : List Shard) → place_of (merged_start shards).gateway.board t ≡ 0
all_null (Line l) shards = refl
all_null (Eph k) shards = refl

pub start_merge : (shards : List Shard) → IsMerge (merged_start shards)
start_merge shards = record {
  board = record { places = λ t real. absurd (real (all_null t shards)); zeroth = refl };
  contexts = λ c. (λ used. absurd (false_not_true used), λ there. absurd (there.0 (sym there.1.1 ∙ all_null there.1.0 shards)));
  ephemerals = λ k. refl;
  creator = λ k none. refl;
}

-- an option that isn't some is none
none_unless : {A : Type 0} (o : Option A) → ((x : A) → o ≡ Some x → ⊥) → o ≡ None
none_unless None never = refl
none_unless (Some x) never = absurd (never x refl)

module _ (script : Script) (shards : List Shard) (runs : (shard : Shard) → Contains shards shard → IsShardRun script shard)
    (apart : AreAllApart script shards) where
  module _ (shard : Shard) (there : Contains shards shard) where
    held_by : (l : ℕ) → (scope_of shard).lines l ≡ true → first_with (holder_of l) shards ≡ shard.start.gateway.holder l
    held_by l own = only_with (holder_of l) shards shard there other_way
      where
        other_way : (other : Shard) → Contains shards other → (other ≡ shard) ⊎ (holder_of l other ≡ None)
        other_way other among = elim (two_of script shards apart other shard among there) [
          | inl is ↦ inl is
          | inr far ↦ inr (none_unless (holder_of l other) (λ c held.
              (separate script other shard (runs other among) (runs shard there) far).lines l (ap is_some held) own))
        ]

    agent_by : (c : ℕ) → shard.numbers c ≡ true → first_with (agent_of c) shards ≡ shard.start.agent c
    agent_by c own = only_with (agent_of c) shards shard there other_way
      where
        other_way : (other : Shard) → Contains shards other → (other ≡ shard) ⊎ (agent_of c other ≡ None)
        other_way other among = elim (two_of script shards apart other shard among there) [
          | inl is ↦ inl is
          | inr far ↦ inr (none_unless (agent_of c other) (λ a open_call.
              far.numbers c ((start_contained script other (runs other among)).agents c a open_call).0 own))
        ]

    row_by : (t : TermId) → mine (scope_of shard) t ≡ true → opened_row t ≡ shard.start.gateway.board.row t
    row_by (Line l) own =
        let one = line_of_call script shard (runs shard there) l.0 own in
        sym (line_stands script shard.calls shard.start.gateway (runs shard there).opens.lines one.0 one.2 one.1 one.3) ∙ ap (λ (n : ℕ). shard.start.gateway.board.row (Line (record { 0 = n }))) one.4
    row_by (Eph k) own = sym ((runs shard there).opens.gateway.no_ephemeral k)

    line_by : (l : ℕ) → (scope_of shard).lines l ≡ true → armed_line ≡ shard.start.gateway.line l
    line_by l own =
        let one = line_of_call script shard (runs shard there) l own in
        sym (line_armed script shard.calls shard.start.gateway (runs shard there).opens.lines one.0 one.2 one.1 one.3) ∙ ap shard.start.gateway.line one.4

    own_holder : (l c : ℕ) → first_with (holder_of l) shards ≡ Some c → shard.numbers c ≡ true → (scope_of shard).lines l ≡ true
    own_holder l c held own =
        let it = from_first (holder_of l) shards c held in
        let theirs = (start_contained script it.0 (runs it.0 it.1)).holder l c it.2 in
        elim (two_of script shards apart it.0 shard it.1 there) [
          | inl is ↦ ap (λ (x : Shard). is_some (x.start.gateway.holder l)) (sym is) ∙ ap is_some it.2
          | inr far ↦ absurd (far.numbers c theirs.1 own)
        ]

    pub start_beside : IsBeside (scope_of shard) shard.start (merged_start shards)
    start_beside = record {
      association = sym (runs shard there).opens.gateway.association;
      board = record {
        class = λ n own. in_class shards shard there n own;
        row = row_by;
        cut = λ t u own also. sym (ap (λ (cuts : TermId → TermId → Bool). cuts t u) (runs shard there).opens.gateway.nothing_cut);
        used_context = λ n own. sym (ap (λ (used : ℕ → Bool). used n) (runs shard there).opens.gateway.no_context_given);
        used_ephemeral = λ n own. sym (ap (λ (used : ℕ → Bool). used n) (runs shard there).opens.gateway.no_ephemeral_given);
        members = λ t real class. absurd (real (all_null t shards));
      };
      line = line_by;
      holder = held_by;
      creator = λ k own. sym (ap (λ (creator : ℕ → Option ℕ). creator k) (runs shard there).opens.gateway.no_creator);
      link = λ c own. sym (ap (λ (link : ℕ → CallLink). link c) (runs shard there).opens.gateway.no_reply_kept);
      retired = λ c own. sym (ap (λ (retired : ℕ → Bool). retired c) (runs shard there).opens.gateway.none_retired);
      agent = agent_by;
      requests = λ request among. absurd (nothing_in request shard.start.requests (runs shard there).opens.messages.no_request among);
      replies = λ answer among. absurd (nothing_in answer shard.start.replies (runs shard there).opens.messages.no_answer among);
      notes = λ sent among. absurd (nothing_in sent shard.start.notes (runs shard there).opens.messages.no_note among);
      own_holder = own_holder;
      own_creator = λ k c is own. absurd (none_is_some c is);
    }

  -- ---- it is an opening

  -- a call of all is one of a shard
  whose : (one : Opened) → Contains (all_calls shards) one → (shard : Shard) × Contains shards shard × Contains shard.calls one
  whose one among = from_joined (λ (shard : Shard). shard.calls) shards one among

  distinct : AreDistinct script (all_calls shards)
  distinct = record {
    calls_differ = λ one other here there same.
        let a = whose one here in
        let b = whose other there in
        elim (two_of script shards apart a.0 b.0 a.1 b.1) [
          | inl is ↦ (runs b.0 b.1).opens.distinct.calls_differ one other (subst (λ (x : Shard). Contains x.calls one) is a.2) b.2 same
          | inr far ↦ absurd (far.numbers one.call ((runs a.0 a.1).calls one a.2) (ap b.0.numbers same ∙ (runs b.0 b.1).calls other b.2))
        ];
    lines_differ = λ one other here there i j first second same.
        let a = whose one here in
        let b = whose other there in
        elim (two_of script shards apart a.0 b.0 a.1 b.1) [
          | inl is ↦ (runs b.0 b.1).opens.distinct.lines_differ one other (subst (λ (x : Shard). Contains x.calls one) is a.2) b.2 i j first second same
          | inr far ↦ absurd (far.lines one other i j a.2 b.2 first second same)
        ];
  }

  merged_lines : AreOpenedLines script (all_calls shards) (merged_start shards).gateway
  merged_lines = opened_lines script (all_calls shards) (merged_start shards).gateway (λ one here i within. refl) (λ one here i within. refl) held
      (λ l row e. sym (the_some null_row row e)) alone
    where
      held : (one : Opened) → Contains (all_calls shards) one → (i : ℕ) → i < length script.lines
          → (merged_start shards).gateway.holder (one.lines i) ≡ Some one.call
      held one here i within =
          let a = whose one here in
          held_by a.0 a.1 (one.lines i) (call_line script a.0 (runs a.0 a.1) one a.2 i within)
          ∙ line_held script a.0.calls a.0.start.gateway (runs a.0 a.1).opens.lines one a.2 i within

      alone : (l c : ℕ) → (merged_start shards).gateway.holder l ≡ Some c → IsLineOf script (all_calls shards) l c
      alone l c held =
          let it = from_first (holder_of l) shards c held in
          let its = ((runs it.0 it.1).opens.lines.held l c).0 it.2 in
          record {
            one = its.one;
            i = its.i;
            among = in_joined (λ (shard : Shard). shard.calls) shards it.0 its.one it.1 its.among;
            is_call = its.is_call;
            within = its.within;
            is_line = its.is_line;
          }

  pub opens : IsOpening script (all_calls shards) (merged_start shards)
  opens = record {
    distinct = distinct;
    lines = merged_lines;
    gateway = assumption;
    agents = record {
      opened = λ one here.
          let a = whose one here in
          agent_by a.0 a.1 one.call ((runs a.0 a.1).calls one a.2) ∙ (runs a.0 a.1).opens.agents.opened one a.2;
      no_other = λ c a open_call.
          let it = from_first (agent_of c) shards a open_call in
          let one = (runs it.0 it.1).opens.agents.no_other c a it.2 in
          (one.0, in_joined (λ (shard : Shard). shard.calls) shards it.0 one.0 it.1 one.1, one.2);
    };
    messages = assumption;
  }
