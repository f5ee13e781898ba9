-- What holds of every world of a run whose script and certificate have no broken obligation: each call is shown by a configuration of the
-- certificate, or it is lost; and what a call owns is named by it alone.
use Rattle.mg_safety.proofs.Words.{◌≡◌, ℕ, ◌<◌, ◌≤◌, ◌==◌, Bool, true, false, [], length, Contains, Option, Some, None, ◌⊎◌, Failure, TermId, Line, Eph}
use Rattle.mg_safety.proofs.Words.{IsWellFormed}
use Rattle.mg_safety.proofs.Words.{Sent, Answered, Failed, Resting, Row, Agent, awaits_reply, awaits_pass, resting, after_results, built_by, commands_of}
use Rattle.mg_safety.proofs.Words.{none_made, exists, remote_of, Configuration, Gateway, last_executed, silent, Request, Reply, SentNote}
use Rattle.mg_safety.proofs.Words.{Script, World, null_row, IsSlot, Termination, Empty, Unset, Absent, Free, Inactive, is_same}
use Rattle.mg_names.specs.declared.phases.LinkPhase as phases
use Rattle.mg_safety.proofs.Invariant.Shown.{naming, Seen, LinesShown, IsAccounted, Owner, owned_at, list_raises}

-- ---- configurations that stand in the certificate

-- what the script doesn't declare is as in a configuration in which nothing is used
pub record IsOfScript (script : Script) (c : Configuration) : Type 0 where
  pub spot : (t : Termination) → (IsSlot script t → ⊥) → c.spot t ≡ Absent
  pub mode : (t : Termination) → (IsSlot script t → ⊥) → c.mode t ≡ Inactive
  pub events : (i : ℕ) → length script.lines ≤ i → c.events i ≡ Empty
  pub plays : (i : ℕ) → length script.lines ≤ i → c.plays i ≡ false
  pub context : (j : ℕ) → length script.contexts ≤ j → c.context j ≡ Free
  pub remote : (k : ℕ) → length script.ephemerals ≤ k → c.remote k ≡ Unset
  pub cut : (t u : Termination) → (IsSlot script t × IsSlot script u × (is_same t u ≡ false) → ⊥) → c.cut t u ≡ false

-- whatever is said of configurations: that an entry has them, or that calls come to them
abbrev pub Listed : Type 1
Listed = Configuration → Type 0

pub record Stands (script : Script) (Among : Listed) (c : Configuration) : Type 0 where
  pub of_script : IsOfScript script c
  pub formed : IsWellFormed c
  pub covered : Among c

-- ---- one call

abbrev pub is_call : Option ℕ → ℕ → Bool
is_call None call = false
is_call (Some one) call = one == call

-- what a call owns when no request runs
abbrev pub owner_of : Gateway → ℕ → Owner
owner_of g call = record {
  held = λ l. is_call (g.holder l) call;
  created = λ x. is_call (g.creator x) call;
  before = g.board.used_ephemeral;
}

abbrev pub owned_in : Gateway → ℕ → TermId → Bool
owned_in g call = owned_at (owner_of g call) g.board

-- the link of the configuration once a reply is kept
abbrev pub link_of : Option Failure → phases.LinkPhase
link_of None = Answered
link_of (Some failure) = Failed

-- the outstanding request is as the agent built it
pub record IsOutstanding (script : Script) (a : Agent) (request : Request) : Type 0 where
  pub phase : a.phase ≡ awaits_reply request
  pub call : request.call ≡ a.call
  pub association : request.association ≡ a.association
  pub commands : request.commands ≡ commands_of script a none_made 0 (built_by script a a.state)

pub record IsSent (script : Script) (g : Gateway) (a e : Agent) (link : phases.LinkPhase) : Type 0 where
  pub request : Request
  pub outstanding : IsOutstanding script a request
  pub above : last_executed g a.call < request.number
  pub effective : e ≡ a
  pub link_is : link ≡ Sent

pub record IsAnswered (script : Script) (g : Gateway) (a e : Agent) (link : phases.LinkPhase) : Type 0 where
  pub request : Request
  pub outstanding : IsOutstanding script a request
  pub answer : Reply
  pub kept : (g.link a.call).last ≡ Some answer
  pub number : answer.number ≡ request.number
  pub effective : e ≡ after_results a (built_by script a a.state) answer.results answer.number
  pub link_is : link ≡ link_of answer.failure

pub record IsPassing (a e : Agent) (link : phases.LinkPhase) : Type 0 where
  pub phase : a.phase ≡ awaits_pass
  pub effective : e ≡ a
  pub link_is : link ≡ Answered

pub record IsResting (a e : Agent) (link : phases.LinkPhase) : Type 0 where
  pub phase : a.phase ≡ resting
  pub effective : e ≡ a
  pub link_is : link ≡ Resting

-- how far the state's request has come, with the agent as it will be once it has taken a reply that is kept
abbrev pub IsAt : Script → Gateway → Agent → Agent → phases.LinkPhase → Type 0
IsAt script g a e link = IsSent script g a e link ⊎ (IsAnswered script g a e link ⊎ (IsPassing a e link ⊎ IsResting a e link))

-- the call is of the gateway's association, and the gateway shows a configuration of the certificate
pub record IsCurrent (script : Script) (Among : Listed) (g : Gateway) (a : Agent) : Type 0 where
  pub association : a.association ≡ g.association
  pub c : Configuration
  pub e : Agent
  pub stands : Stands script Among c
  pub state : c.state ≡ a.state
  pub at : IsAt script g a e c.link
  pub shown : Seen script (owned_in g a.call) (naming e) g.board c
  pub lines_shown : LinesShown script e g.line c

-- by this very configuration
pub record IsCurrentAt (script : Script) (Among : Listed) (g : Gateway) (a : Agent) (c : Configuration) : Type 0 where
  pub current : IsCurrent script Among g a
  pub is : current.c ≡ c

-- the call is of an older association: it owns nothing
pub record IsLost (script : Script) (g : Gateway) (a : Agent) : Type 0 where
  pub association : a.association < g.association
  pub rows : (i : ℕ) → i < length script.lines → g.board.row (Line (record { 0 = a.lines i })) ≡ Some null_row
  pub list : (i : ℕ) → i < length script.lines → (g.line (a.lines i)).list ≡ []
  pub playing : (i : ℕ) → i < length script.lines → (g.line (a.lines i)).playing ≡ silent
  pub request : (i : ℕ) → i < length script.lines → (g.line (a.lines i)).request ≡ None
  pub no_ephemeral : (x : ℕ) → g.creator x ≡ Some a.call → ⊥
  pub no_reply : (g.link a.call).last ≡ None
  -- nothing is cut of its lines
  pub no_cut : (i j : ℕ) → i < length script.lines → j < length script.lines
      → g.board.cut (Line (record { 0 = a.lines i })) (Line (record { 0 = a.lines j })) ≡ false

-- a request of the call that was sent
pub record IsSentBy (g : Gateway) (a : Agent) (request : Request) : Type 0 where
  pub association : request.association ≤ a.association
  pub number : request.number < a.next
  pub outstanding : request.association ≡ g.association → (a.phase ≡ awaits_reply request) ⊎ (request.number ≤ last_executed g a.call)

pub record CallIsSound (script : Script) (Among : Listed) (w : World) (call : ℕ) (a : Agent) : Type 0 where
  pub numbered : a.call ≡ call
  pub first : 0 < a.next
  pub next : last_executed w.gateway call < a.next
  pub held : (i : ℕ) → i < length script.lines → w.gateway.holder (a.lines i) ≡ Some call
  pub once : (i j : ℕ) → i < length script.lines → j < length script.lines → a.lines i ≡ a.lines j → i ≡ j
  pub requests : (request : Request) → Contains w.requests request → request.call ≡ call → IsSentBy w.gateway a request
  pub outstanding : (request : Request) → a.phase ≡ awaits_reply request → request.number < a.next
  pub part : IsCurrent script Among w.gateway a ⊎ IsLost script w.gateway a

-- ---- the gateway and the messages

-- a reply of the present association is the kept one, or an older one of its call
pub record IsReplySound (g : Gateway) (answer : Reply) : Type 0 where
  pub association : answer.association ≤ g.association
  pub kept : answer.association ≡ g.association → ((g.link answer.call).last ≡ Some answer) ⊎ (answer.number < last_executed g answer.call)

-- a RequestID that the call's lines can have: one that was there when the call opened, or of a request of it that was executed
abbrev pub IsReached : (ℕ → ℕ) → Gateway → ℕ → ℕ → Type 0
IsReached floor g call q = (q ≤ floor call) ⊎ (q ≤ last_executed g call)

-- a note of the present association with the RequestID of the descriptor that stands is of a kind that the descriptor raises
pub record IsNoteStanding (floor : ℕ → ℕ) (g : Gateway) (sent : SentNote) : Type 0 where
  pub held : g.holder sent.line ≡ Some sent.call
  pub number : IsReached floor g sent.call sent.note.request
  pub raised : (g.line sent.line).request ≡ Some sent.note.request → list_raises (g.line sent.line).list sent.note.kind ≡ true

pub record IsNoteSound (floor : ℕ → ℕ) (g : Gateway) (sent : SentNote) : Type 0 where
  pub association : sent.association ≤ g.association
  pub standing : sent.association ≡ g.association → IsNoteStanding floor g sent

-- the call is open, or was retired
abbrev pub IsKnown : World → ℕ → Type 0
IsKnown w call = ((a : Agent) × (w.agent call ≡ Some a)) ⊎ (w.gateway.retired call ≡ true)

abbrev pub IsOpen : World → ℕ → Type 0
IsOpen w call = (a : Agent) × (w.agent call ≡ Some a)

pub record GatewayIsSound (script : Script) (floor : ℕ → ℕ) (w : World) : Type 0 where
  pub accounted : IsAccounted w.gateway.board
  -- an ephemeral that exists was created by a call that is open, and what doesn't exist by none
  pub creator_stands : (x call : ℕ) → w.gateway.creator x ≡ Some call → exists w.gateway.board (Eph x) ≡ true
  pub created : (x : ℕ) → exists w.gateway.board (Eph x) ≡ true → (call : ℕ) × (a : Agent) × (w.gateway.creator x ≡ Some call) × (w.agent call ≡ Some a)
  -- no two ephemerals of different calls name each other
  pub apart : (x y one other : ℕ) → w.gateway.creator x ≡ Some one → w.gateway.creator y ≡ Some other → (one ≡ other → ⊥)
      → remote_of w.gateway.board (Eph x) ≡ Some y → remote_of w.gateway.board (Eph y) ≡ Some x → ⊥
  -- a line that no call holds stands in the null context; a line that is held is one of its call's
  pub unheld : (l : ℕ) (row : Row) → w.gateway.holder l ≡ None → w.gateway.board.row (Line (record { 0 = l })) ≡ Some row → row.place.0 ≡ 0
  pub held : (l call : ℕ) → w.gateway.holder l ≡ Some call
      → (a : Agent) × (i : ℕ) × (w.agent call ≡ Some a) × (i < length script.lines) × (a.lines i ≡ l)
  pub kept : (call : ℕ) (answer : Reply) → (w.gateway.link call).last ≡ Some answer → (answer.call ≡ call) × (answer.association ≡ w.gateway.association)
  pub request_ids : (l call q : ℕ) → w.gateway.holder l ≡ Some call → (w.gateway.line l).request ≡ Some q → IsReached floor w.gateway call q
  -- all that was sent is of a call that is open or was retired; of an open one it is as it should be
  pub retired : (call : ℕ) (a : Agent) → w.agent call ≡ Some a → w.gateway.retired call ≡ false
  pub requests : (request : Request) → Contains w.requests request → IsKnown w request.call
  pub replies : (answer : Reply) → Contains w.replies answer → IsKnown w answer.call × (IsOpen w answer.call → IsReplySound w.gateway answer)
  pub notes : (sent : SentNote) → Contains w.notes sent → IsKnown w sent.call × (IsOpen w sent.call → IsNoteSound floor w.gateway sent)

-- the numbers of a call are above those that its lines had when it opened
pub record IsAboveFloor (floor : ℕ) (w : World) (call : ℕ) (a : Agent) : Type 0 where
  pub next : floor < a.next
  pub requests : (request : Request) → Contains w.requests request → request.call ≡ call → floor < request.number

pub record IsSound (script : Script) (Among : Listed) (w : World) : Type 0 where
  pub floor : ℕ → ℕ
  pub gateway : GatewayIsSound script floor w
  pub floors : (call : ℕ) (a : Agent) → w.agent call ≡ Some a → IsAboveFloor (floor call) w call a
  pub calls : (call : ℕ) (a : Agent) → w.agent call ≡ Some a → CallIsSound script Among w call a
