-- The world of a shard beside the world of the merge: what each is, and that an event of one shard leaves the other shards beside the merge.
use Rattle.std.proofs.Common.{◌≡◌, ◌∙◌, ℕ, Bool, true, false, Some, None, refl, sym, ap, Contains, IsTrue, ◌↔◌, inl, inr}
use Rattle.mg_merge.proofs.Words.{Agent, ContextExists, Eph, Line, Reply, Request, Script, SentNote, TermId, World, cases_Bool, exists, null, place_in}
use Rattle.mg_merge.proofs.Words.{place_of}
use Rattle.mg_merge.proofs.Events.AgentNames.{IsAgentWithin, IsRequestWithin, IsReplyWithin}
use Rattle.mg_merge.proofs.Scopes.{Scope, mine, AreSeparate, IsWithin, IsPart, IsWhole, IsSameOutside}

-- a world of a shard: nothing in it is another shard's
pub record IsContained (script : Script) (s : Scope) (w : World) : Type 0 where
  pub board : IsWithin s w.gateway.board
  pub holder : (l c : ℕ) → w.gateway.holder l ≡ Some c → (s.lines l ≡ true) × (s.numbers c ≡ true)
  pub creator : (k c : ℕ) → w.gateway.creator k ≡ Some c → (s.class k ≡ true) × (s.numbers c ≡ true)
  pub link : (c : ℕ) (answer : Reply) → (w.gateway.link c).last ≡ Some answer → IsReplyWithin s answer
  pub agents : (c : ℕ) (a : Agent) → w.agent c ≡ Some a → (s.numbers c ≡ true) × IsAgentWithin script s a
  pub requests : (request : Request) → Contains w.requests request → IsRequestWithin s request
  pub replies : (answer : Reply) → Contains w.replies answer → IsReplyWithin s answer

-- the world of a shard and that of the merge, which reads alike at what is the shard's
pub record IsBeside (s : Scope) (w m : World) : Type 0 where
  pub association : m.gateway.association ≡ w.gateway.association
  pub board : IsPart s w.gateway.board m.gateway.board
  pub line : (l : ℕ) → s.lines l ≡ true → m.gateway.line l ≡ w.gateway.line l
  pub holder : (l : ℕ) → s.lines l ≡ true → m.gateway.holder l ≡ w.gateway.holder l
  pub creator : (k : ℕ) → s.class k ≡ true → m.gateway.creator k ≡ w.gateway.creator k
  pub link : (c : ℕ) → s.numbers c ≡ true → m.gateway.link c ≡ w.gateway.link c
  pub retired : (c : ℕ) → s.numbers c ≡ true → m.gateway.retired c ≡ w.gateway.retired c
  pub agent : (c : ℕ) → s.numbers c ≡ true → m.agent c ≡ w.agent c
  pub requests : (request : Request) → Contains w.requests request → Contains m.requests request
  pub replies : (answer : Reply) → Contains w.replies answer → Contains m.replies answer
  pub notes : (sent : SentNote) → Contains w.notes sent → Contains m.notes sent
  pub own_holder : (l c : ℕ) → m.gateway.holder l ≡ Some c → s.numbers c ≡ true → s.lines l ≡ true
  pub own_creator : (k c : ℕ) → m.gateway.creator k ≡ Some c → s.numbers c ≡ true → s.class k ≡ true

-- a world of the merge between two events
pub record IsMerge (m : World) : Type 0 where
  pub board : IsWhole m.gateway.board
  pub contexts : (c : ℕ) → IsTrue (m.gateway.board.used_context c) ↔ ContextExists m.gateway.board c
  pub ephemerals : (k : ℕ) → m.gateway.board.used_ephemeral k ≡ exists m.gateway.board (Eph k)
  pub creator : (k : ℕ) → exists m.gateway.board (Eph k) ≡ false → m.gateway.creator k ≡ None

-- what isn't the shard's is as it was
pub record LeavesOthers (s : Scope) (m after : World) : Type 0 where
  pub association : after.gateway.association ≡ m.gateway.association
  pub board : IsSameOutside s m.gateway.board after.gateway.board
  pub line : (l : ℕ) → s.lines l ≡ false → after.gateway.line l ≡ m.gateway.line l
  pub holder : (l : ℕ) → s.lines l ≡ false → after.gateway.holder l ≡ m.gateway.holder l
  pub creator : (k : ℕ) → s.class k ≡ false → after.gateway.creator k ≡ m.gateway.creator k
  pub link : (c : ℕ) → s.numbers c ≡ false → after.gateway.link c ≡ m.gateway.link c
  pub retired : (c : ℕ) → s.numbers c ≡ false → after.gateway.retired c ≡ m.gateway.retired c
  pub agent : (c : ℕ) → s.numbers c ≡ false → after.agent c ≡ m.agent c
  pub requests : (request : Request) → Contains m.requests request → Contains after.requests request
  pub replies : (answer : Reply) → Contains m.replies answer → Contains after.replies answer
  pub notes : (sent : SentNote) → Contains m.notes sent → Contains after.notes sent

-- ---- the other shards

pub not_of_both : (p q : Bool) → (p ≡ true → q ≡ true → ⊥) → q ≡ true → p ≡ false
not_of_both true q apart e = absurd (apart refl e)
not_of_both false q apart e = refl

module _ (s u : Scope) (separate : AreSeparate s u) where
  other_term : (t : TermId) → mine u t ≡ true → mine s t ≡ false
  other_term (Line l) own = not_of_both (s.lines l.0) (u.lines l.0) (separate.lines l.0) own
  other_term (Eph k) own = not_of_both (s.class k) (u.class k) (separate.classes k) own

  other_line : (l : ℕ) → u.lines l ≡ true → s.lines l ≡ false
  other_line l own = not_of_both (s.lines l) (u.lines l) (separate.lines l) own

  other_number : (c : ℕ) → u.numbers c ≡ true → s.numbers c ≡ false
  other_number c own = not_of_both (s.numbers c) (u.numbers c) (separate.numbers c) own

  other_class : (n : ℕ) → u.class n ≡ true → s.class n ≡ false
  other_class n own = not_of_both (s.class n) (u.class n) (separate.classes n) own

  module _ (script : Script) (w v m after : World) (contained : IsContained script s w) (ours : IsBeside s w after) (leaves : LeavesOthers s m after)
      (theirs : IsBeside u v m) where
    members : (t : TermId) → (place_of after.gateway.board t ≡ null → ⊥) → u.class (place_of after.gateway.board t) ≡ true → mine u t ≡ true
    members t real class = elim (cases_Bool (mine s t)) [
      | inl e ↦ (let at : place_of after.gateway.board t ≡ place_of w.gateway.board t = ap place_in (ours.board.row t e) in
          absurd (separate.classes (place_of w.gateway.board t) (contained.board.places t (λ is. real (at ∙ is))).1 (sym (ap u.class at) ∙ class)))
      | inr e ↦ (let at : place_of after.gateway.board t ≡ place_of m.gateway.board t = ap place_in (leaves.board.row t e) in
          theirs.board.members t (λ is. real (at ∙ is)) (sym (ap u.class at) ∙ class))
    ]

    own_holder : (l c : ℕ) → after.gateway.holder l ≡ Some c → u.numbers c ≡ true → u.lines l ≡ true
    own_holder l c is own = elim (cases_Bool (s.lines l)) [
      | inl e ↦ absurd (separate.numbers c (contained.holder l c (sym (ours.holder l e) ∙ is)).1 own)
      | inr e ↦ theirs.own_holder l c (sym (leaves.holder l e) ∙ is) own
    ]

    own_creator : (k c : ℕ) → after.gateway.creator k ≡ Some c → u.numbers c ≡ true → u.class k ≡ true
    own_creator k c is own = elim (cases_Bool (s.class k)) [
      | inl e ↦ absurd (separate.numbers c (contained.creator k c (sym (ours.creator k e) ∙ is)).1 own)
      | inr e ↦ theirs.own_creator k c (sym (leaves.creator k e) ∙ is) own
    ]

    -- an event of the one shard leaves the other beside the merge
    pub others_beside : IsBeside u v after
    others_beside = record {
      association = leaves.association ∙ theirs.association;
      board = record {
        class = λ n own. leaves.board.class n ∙ theirs.board.class n own;
        row = λ t own. leaves.board.row t (other_term t own) ∙ theirs.board.row t own;
        cut = λ t x own also. leaves.board.cut t x (other_term t own) (other_term x also) ∙ theirs.board.cut t x own also;
        used_context = λ n own. leaves.board.used_context n (other_class n own) ∙ theirs.board.used_context n own;
        used_ephemeral = λ n own. leaves.board.used_ephemeral n (other_class n own) ∙ theirs.board.used_ephemeral n own;
        members = members;
      };
      line = λ l own. leaves.line l (other_line l own) ∙ theirs.line l own;
      holder = λ l own. leaves.holder l (other_line l own) ∙ theirs.holder l own;
      creator = λ k own. leaves.creator k (other_class k own) ∙ theirs.creator k own;
      link = λ c own. leaves.link c (other_number c own) ∙ theirs.link c own;
      retired = λ c own. leaves.retired c (other_number c own) ∙ theirs.retired c own;
      agent = λ c own. leaves.agent c (other_number c own) ∙ theirs.agent c own;
      requests = λ request there. leaves.requests request (theirs.requests request there);
      replies = λ answer there. leaves.replies answer (theirs.replies answer there);
      notes = λ sent there. leaves.notes sent (theirs.notes sent there);
      own_holder = own_holder;
      own_creator = own_creator;
    }
