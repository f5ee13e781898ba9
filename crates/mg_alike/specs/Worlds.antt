-- Two worlds that treat a call alike. A reader should check that each thing that a call can meet is compared: its agent, its link, its lines, what it owns of
-- the connection model, and the messages of it; and that nothing is said of other calls.
use Rattle.std.specs.Prelude.{◌≡◌, ℕ, Bool, true, false, IsTrue, List, Contains, Option, Some, None, ◌↔◌}
use Rattle.mg_names.specs.declared.identifiers.TermId.{TermId}
use Rattle.mg_names.specs.declared.identifiers.TermId.TheVariants.{Line, Eph}
use Rattle.mg_model.specs.Agent.{Agent, Phase, awaits_reply, awaits_pass, resting, answers}
use Rattle.mg_model.specs.Messages.{Request, Reply, SentNote}
use Rattle.mg_model.specs.World.{World}
use Rattle.mg_alike.specs.Agents.{AgentsAlike}
use Rattle.mg_alike.specs.Boards.{OptionalRowsAlike}
use Rattle.mg_alike.specs.Messages.{RequestsAlike, RepliesAlike}
use Rattle.mg_alike.specs.Renaming.{Renaming, IsRenaming}

-- ---- messages

-- what was sent of a call in the one world was sent in the other too
pub record AreSentInBoth {A : Type 0} (of : A → ℕ) (call : ℕ) (alike : A → A → Type 0) (sent others : List A) : Type 0 where
  pub onward : (one : A) → Contains sent one → of one ≡ call → (other : A) × Contains others other × alike one other
  pub back : (other : A) → Contains others other → of other ≡ call → (one : A) × Contains sent one × alike one other

-- any identifier for any other: two messages that are alike by it have one shape
abbrev pub anything : Renaming
anything = record { contexts = λ c d. true; ephemerals = λ x y. true }

-- a reply to the request that the agent has outstanding
abbrev pub is_awaited : Phase → Reply → Bool
is_awaited (awaits_reply request) answer = answers answer request
is_awaited awaits_pass answer = false
is_awaited resting answer = false

-- two replies have one shape, and where the agent awaits them they are the same but for the renaming
pub record SameReply (r : Renaming) (phase : Phase) (one other : Reply) : Type 0 where
  pub shape : RepliesAlike anything one other
  pub awaited : IsTrue (is_awaited phase one) → RepliesAlike r one other

-- the reply that a link keeps
abbrev pub KeptAlike : Renaming → Option Reply → Option Reply → Type 0
KeptAlike r None None = Unit {0}
KeptAlike r (Some one) (Some other) = RepliesAlike r one other
KeptAlike r None (Some other) = ⊥
KeptAlike r (Some one) None = ⊥

-- ---- worlds

-- what the call owns in both: a line that it holds, which stands for itself, and an ephemeral that it created, renamed
abbrev pub OwnAlike : Renaming → (w v : World) → (call : ℕ) → TermId → TermId → Type 0
OwnAlike r w v call (Line l) (Line m) = (l ≡ m) × (w.gateway.holder l.0 ≡ Some call)
OwnAlike r w v call (Eph x) (Eph y) = IsTrue (r.ephemerals x y) × (w.gateway.creator x ≡ Some call) × (v.gateway.creator y ≡ Some call)
OwnAlike r w v call (Line l) (Eph y) = ⊥
OwnAlike r w v call (Eph x) (Line m) = ⊥

-- the call is open in both, and all that it can meet is the same but for the renaming
pub record CallAlike (r : Renaming) (w v : World) (call : ℕ) (a b : Agent) : Type 0 where
  pub renaming : IsRenaming r
  -- its agent
  pub open_one : w.agent call ≡ Some a
  pub open_other : v.agent call ≡ Some b
  pub agents : AgentsAlike r a b
  -- its link
  pub association : v.gateway.association ≡ w.gateway.association
  pub kept : KeptAlike r (w.gateway.link call).last (v.gateway.link call).last
  pub count : (v.gateway.link call).notes ≡ (w.gateway.link call).notes
  -- its lines
  pub held : (l : ℕ) → (w.gateway.holder l ≡ Some call) ↔ (v.gateway.holder l ≡ Some call)
  pub lines : (l : ℕ) → w.gateway.holder l ≡ Some call → v.gateway.line l ≡ w.gateway.line l
  -- what it owns of the connection model: each ephemeral that it created stands for one that it created, and what is set on each, and between two
  pub rows : (t u : TermId) → OwnAlike r w v call t u → OptionalRowsAlike r t (w.gateway.board.row t) (v.gateway.board.row u)
  pub created : (x : ℕ) → w.gateway.creator x ≡ Some call → (y : ℕ) × IsTrue (r.ephemerals x y) × (v.gateway.creator y ≡ Some call)
  pub created_back : (y : ℕ) → v.gateway.creator y ≡ Some call → (x : ℕ) × IsTrue (r.ephemerals x y) × (w.gateway.creator x ≡ Some call)
  pub cuts : (t u s x : TermId) → OwnAlike r w v call t u → OwnAlike r w v call s x → v.gateway.board.cut u x ≡ w.gateway.board.cut t s
  -- the messages of it
  pub requests : AreSentInBoth (λ (q : Request). q.call) call (RequestsAlike anything) w.requests v.requests
  pub replies : AreSentInBoth (λ (q : Reply). q.call) call (SameReply r a.phase) w.replies v.replies
  pub notes : AreSentInBoth (λ (n : SentNote). n.call) call (λ one other. one ≡ other) w.notes v.notes

-- two worlds treat a call alike, by some renaming
pub record TreatAlike (w v : World) (call : ℕ) : Type 0 where
  pub renaming : Renaming
  pub one : Agent
  pub other : Agent
  pub alike : CallAlike renaming w v call one other
