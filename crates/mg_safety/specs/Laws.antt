-- The statements of small laws. Each is carried by an empty function of the same name.
use Rattle.std.specs.Prelude.{◌≡◌, ℕ, ◌≤◌, ◌<◌, Bool, false, not, IsTrue, List, [], length, Contains, Some, None, Option}
use Rattle.mg_model.specs.declared.failures.ChosenRefusal.{ChosenRefusal}
use Rattle.mg_names.specs.declared.identifiers.TermId.{TermId}
use Rattle.mg_names.specs.declared.identifiers.TermId.TheVariants.{Line, Eph}
use Rattle.mg_names.specs.declared.modes.Mode.{Mode}
use Rattle.mg_names.specs.declared.topologies.Topology.{Topology}
use Rattle.mg_model.specs.declared.items.Added.TheVariants as added
use Rattle.mg_model.specs.declared.items.Item.{Item}
use Rattle.mg_model.specs.declared.items.Item.TheVariants.{Add, Modify, Move, Subtract, SubtractAll, SetTopology}
use Rattle.mg_model.specs.declared.rows.Row.{Row}
use Rattle.mg_model.specs.Agent.{Agent}
use Rattle.mg_model.specs.Board.{Board, place_of}
use Rattle.mg_model.specs.Gateway.{last_executed}
use Rattle.mg_model.specs.Effects.{cuts_forward, cuts_backward}
use Rattle.mg_model.specs.Items.{Chosen, effect, first_receives, second_receives}
use Rattle.mg_model.specs.LineEvents.{silent}
use Rattle.mg_model.specs.Paths.{passes_in, passes_out}
use Rattle.mg_model.specs.Media.{receives, sends, share_context, crosses, goes_over, AreJoined}
use Rattle.mg_model.specs.Messages.{Request, Reply, SentNote}
use Rattle.mg_model.specs.Script.{Script}
use Rattle.mg_model.specs.declared.events.CallEvent.{CallEvent}
use Rattle.mg_model.specs.declared.events.CallEvent.TheVariants as to_call
use Rattle.mg_model.specs.declared.events.Event.{Event}
use Rattle.mg_model.specs.declared.events.Event.TheVariants.{Restart}
use Rattle.mg_model.specs.World.{World, execute, OccursTo, Occurs, Runs, Opened, IsOpening, IsGood}
use Rattle.mg_model.specs.Board.{null_row}
use Rattle.mg_model.specs.Numbers.{the_line}

-- nothing but the replies that were sent
pub record IsSameButReplies (w after : World) : Type 0 where
  pub gateway : after.gateway ≡ w.gateway
  pub agents : after.agent ≡ w.agent
  pub requests : after.requests ≡ w.requests
  pub notes : after.notes ≡ w.notes

abbrev pub OldRequestsDoNothing : Type 0
OldRequestsDoNothing =
    (script : Script) (w after : World) (call number : ℕ) (refusal : Option ChosenRefusal) → Occurs script w (execute call number refusal) after
    → number ≤ last_executed w.gateway call → IsSameButReplies w after

pub record IsLineRestarted (w after : World) (l : ℕ) : Type 0 where
  pub row : after.gateway.board.row (Line (the_line l)) ≡ Some null_row
  pub list : (after.gateway.line l).list ≡ []
  pub request : (after.gateway.line l).request ≡ None
  pub playing : (after.gateway.line l).playing ≡ silent
  pub hook : (after.gateway.line l).hook ≡ (w.gateway.line l).hook

abbrev pub RestartsClearLines : Type 0
RestartsClearLines =
    (script : Script) (w after : World) → Occurs script w Restart after → (l : ℕ) (row : Row)
    → w.gateway.board.row (Line (the_line l)) ≡ Some row → IsLineRestarted w after l

-- ---- other calls

-- each agent and each kept reply has the number of its call
pub record AreNumbered (w : World) : Type 0 where
  pub agents : (call : ℕ) (a : Agent) → w.agent call ≡ Some a → a.call ≡ call
  pub replies : (call : ℕ) (answer : Reply) → (w.gateway.link call).last ≡ Some answer → answer.call ≡ call

pub record IsSameFor (w after : World) (other : ℕ) : Type 0 where
  pub agent : after.agent other ≡ w.agent other
  pub link : after.gateway.link other ≡ w.gateway.link other
  pub requests : (request : Request) → request.call ≡ other → Contains after.requests request → Contains w.requests request
  pub replies : (answer : Reply) → answer.call ≡ other → Contains after.replies answer → Contains w.replies answer
  pub notes : (sent : SentNote) → sent.call ≡ other → Contains after.notes sent → Contains w.notes sent

-- the call ends with the event: another begins on its lines
abbrev pub IsRetiredBy : CallEvent → ℕ → Type 0
IsRetiredBy (to_call.Begin old) other = old.0 ≡ other
IsRetiredBy _ other = ⊥

abbrev pub EventsKeepOthers : Type 0
EventsKeepOthers =
    (script : Script) (w after : World) (call other : ℕ) (happens : CallEvent) → AreNumbered w → OccursTo script w call happens after
    → (call ≡ other → ⊥) → (IsRetiredBy happens other → ⊥) → IsSameFor w after other

-- ---- good worlds

abbrev pub OpeningsAreGood : Type 0
OpeningsAreGood = (script : Script) (calls : List Opened) (w : World) → IsOpening script calls w → IsGood script w

-- no line is a line of two calls
abbrev pub LinesAreApart : Script → World → Type 0
LinesAreApart script w =
    (call other : ℕ) (a b : Agent) (i j : ℕ) → w.agent call ≡ Some a → w.agent other ≡ Some b → i < length script.lines
    → j < length script.lines → a.lines i ≡ b.lines j → call ≡ other

-- in every world of every run
abbrev pub LinesStayDistinct : Type 0
LinesStayDistinct =
    (script : Script) (calls : List Opened) (events : List Event) (opening end : World) → IsOpening script calls opening
    → Runs script events opening end → LinesAreApart script end

abbrev pub CallsStayApart : Type 0
CallsStayApart =
    (script : Script) (w : World) → IsGood script w → LinesAreApart script w → (call other : ℕ) (a b : Agent) (i j : ℕ)
    → w.agent call ≡ Some a → w.agent other ≡ Some b → i < length script.lines → j < length script.lines → (call ≡ other → ⊥)
    → AreJoined w.gateway.board (a.lines i) (b.lines j) → ⊥

-- nothing is joined of a call whose association is past
abbrev pub LostCallsAreNotJoined : Type 0
LostCallsAreNotJoined =
    (script : Script) (w : World) → IsGood script w → LinesAreApart script w → (call : ℕ) (a : Agent) (i m : ℕ)
    → w.agent call ≡ Some a → a.association < w.gateway.association → i < length script.lines
    → AreJoined w.gateway.board (a.lines i) m → ⊥

-- ---- the connection model

-- what the gateway's side of the definitions and the checker's each say by themselves is the same: which modes let media into a context
-- and out of it, and which way a Topology descriptor cuts a pair
pub record SidesAgree : Type 0 where
  pub receives : (mode : Mode) → receives mode ≡ passes_in mode
  pub sends : (mode : Mode) → sends mode ≡ passes_out mode
  pub forward : (topology : Topology) → not (second_receives topology) ≡ cuts_forward topology
  pub backward : (topology : Topology) → not (first_receives topology) ≡ cuts_backward topology

-- what a command names, what it creates and what it takes out of a context is among these terminations
abbrev pub NamesOnly : (TermId → Bool) → Board → Item → Chosen → Type 0
NamesOnly mine b (Add context (added.Line l) settings) chosen = IsTrue (mine (Line l))
NamesOnly mine b (Add context added.NewEphemeral settings) chosen = IsTrue (mine (Eph chosen.ephemeral))
NamesOnly mine b (Modify context t settings) chosen = IsTrue (mine t)
NamesOnly mine b (Move context t settings) chosen = IsTrue (mine t)
NamesOnly mine b (Subtract context t) chosen = IsTrue (mine t)
NamesOnly mine b (SubtractAll context) chosen = (t : TermId) → place_of b t ≡ context.0 → IsTrue (mine t)
NamesOnly mine b (SetTopology context t u topology) chosen = IsTrue (mine t) × IsTrue (mine u)

-- a command leaves the row of every other termination, and every cut between others, as it was
pub record KeepsOthers (mine : TermId → Bool) (b after : Board) : Type 0 where
  pub rows : (u : TermId) → mine u ≡ false → after.row u ≡ b.row u
  pub cuts : (u v : TermId) → mine u ≡ false → mine v ≡ false → after.cut u v ≡ b.cut u v

abbrev pub CommandsKeepOthers : Type 0
CommandsKeepOthers =
    (mine : TermId → Bool) (b : Board) (item : Item) (chosen : Chosen) → NamesOnly mine b item chosen
    → KeepsOthers mine b (effect b item chosen)

-- these terminations are closed under standing in one context, and under crossing to one another
pub record AreClosed (b : Board) (mine : TermId → Bool) : Type 0 where
  pub contexts : (t u : TermId) → IsTrue (mine t) → IsTrue (share_context b t u) → IsTrue (mine u)
  pub crossings : (k i : ℕ) → IsTrue (mine (Eph k)) → IsTrue (crosses b k i) → IsTrue (mine (Eph i))

abbrev pub PathsStayInside : Type 0
PathsStayInside =
    (b : Board) (mine : TermId → Bool) → AreClosed b mine → (from to : TermId) (crossings : List (ℕ × ℕ))
    → IsTrue (goes_over b from crossings to) → IsTrue (mine from) → IsTrue (mine to)
