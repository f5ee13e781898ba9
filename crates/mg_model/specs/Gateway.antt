-- The gateway whole: its association, the connection model, its lines, for each call the reply that its link keeps and the
-- count of its notes, and what events do to it. A reader should check that a request is executed at most once (H.248.1
-- Annex D.1.1), that messages of another association do nothing, and what a restart takes away.
use Rattle.std.specs.Prelude.{◌≡◌, ℕ, ◌+◌, ◌≤◌, ◌==◌, Bool, true, false, if◌then◌else◌, List, [], ◌∷◌, length, Option, Some, None}
use Rattle.mg_names.specs.declared.identifiers.TermId.{TermId}
use Rattle.mg_names.specs.declared.identifiers.TermId.TheVariants.{Line, Eph}
use Rattle.mg_model.specs.declared.failures.ChosenRefusal.{ChosenRefusal}
use Rattle.mg_model.specs.declared.failures.Failure.{Failure}
use Rattle.mg_model.specs.declared.line_events.LineEvent.{LineEvent}
use Rattle.mg_model.specs.declared.line_events.LineEvent.TheVariants.{Hook, Flash, Digit, Pause, SignalEnd}
use Rattle.mg_model.specs.declared.rows.Row.{Row}
use Rattle.mg_names.specs.declared.strictness.Strict.TheVariants.{Exact}
use Rattle.mg_model.specs.declared.transitions.EventItem.TheVariants.{OffHook}
use Rattle.mg_model.specs.Board.{Board, exists, null_row, IsSettled}
use Rattle.mg_model.specs.Delivery.{Link, Offer, fresh, kept, discard, offer, last_of}
use Rattle.mg_model.specs.Items.{subtracted}
use Rattle.mg_model.specs.LineEvents.{LineRow, silent, Note, Outcome, cleared, hooked, flashed, dialled, paused, signal_ended}
use Rattle.mg_model.specs.Messages.{Request, Reply, SentNote}
use Rattle.mg_model.specs.Numbers.{last_number, the_line}
use Rattle.mg_model.specs.RequestRun.{Running, RaisedNote, RunsFrom}

-- the link of a call: the reply to the last request that was executed, if there is one, and how many notes were sent
pub record CallLink : Type 0 where
  pub last : Option Reply
  pub notes : ℕ

pub record Gateway : Type 0 where
  pub association : ℕ
  pub board : Board
  pub line : ℕ → LineRow
  -- the call with which a line is open
  pub holder : ℕ → Option ℕ
  -- the call whose request created an ephemeral, in this association
  pub creator : ℕ → Option ℕ
  pub link : ℕ → CallLink
  -- whether a call of this number was retired: its requests are dropped, and no call has its number again
  pub retired : ℕ → Bool

-- ---- requests

-- a reply under its number
abbrev pub numbered : Option Reply → Option (ℕ × Reply)
numbered None = None
numbered (Some reply) = Some (reply.number, reply)

-- the link of a call: it keeps the reply to the last request under its number, in the gateway's association
abbrev pub link_in : Gateway → ℕ → Link Reply
link_in g call = record { association = g.association; last = numbered (g.link call).last }

-- the number of the last request of a call that was executed, 0 where there is none
abbrev pub last_executed : Gateway → ℕ → ℕ
last_executed g call = last_of (link_in g call).last

-- what that link says of a request that arrives
abbrev pub offer_to : Gateway → Request → Offer Reply
offer_to g request = if g.retired request.call then discard else offer (link_in g request.call) request.association request.number

abbrev pub with_link : Gateway → ℕ → CallLink → Gateway
with_link g call link = record g { link = λ c. if c == call then link else g.link c }

abbrev pub start_of : Gateway → Running
start_of g = record { board = g.board; line = g.line; results = []; notes = [] }

-- notes on their way, numbered on from a count
abbrev pub sent_notes : ℕ → ℕ → ℕ → List RaisedNote → List SentNote
sent_notes call association count [] = []
sent_notes call association count (n ∷ more) =
    record { call = call; association = association; number = count + 1; line = n.line; note = n.note } ∷ sent_notes call association (count + 1) more

abbrev pub reply_of : Request → Running → Option Failure → Reply
reply_of request end failure =
    record { call = request.call; association = request.association; number = request.number; results = end.results; failure = failure }

-- whose an ephemeral is after a request: whose it was, where it existed before, and else the request's call's. What doesn't exist is nobody's
abbrev pub creator_after : Gateway → Request → Running → ℕ → Option ℕ
creator_after g request end k =
    if exists end.board (Eph k) then (if exists g.board (Eph k) then g.creator k else Some request.call) else None

abbrev pub after_request : Gateway → Request → Running → Board → Option Failure → Gateway
after_request g request end settled failure =
    with_link (record g { board = settled; line = end.line; creator = creator_after g request end }) request.call
    (record { last = Some (reply_of request end failure); notes = (g.link request.call).notes + length end.notes })

-- a request whose number is fresh is executed. Where the numbers of notes could run out it can't happen (this profile's own)
pub record IsExecutedBy (g : Gateway) (request : Request) (chosen : Option ChosenRefusal) (after : Gateway) (reply : Reply) (notes : List SentNote) : Type 0 where
  pub end : Running
  pub settled : Board
  pub failure : Option Failure
  pub is_fresh : offer_to g request ≡ fresh
  pub room : (g.link request.call).notes + length request.commands ≤ last_number
  pub runs : RunsFrom request.number chosen (start_of g) 0 request.commands end failure
  pub is_settled : IsSettled end.board settled
  pub after_is : after ≡ after_request g request end settled failure
  pub reply_is : reply ≡ reply_of request end failure
  pub notes_are : notes ≡ sent_notes request.call request.association (g.link request.call).notes end.notes

-- a request with the number of the last one has its reply sent once more
abbrev pub IsKept : Gateway → Request → Reply → Type 0
IsKept g request reply = offer_to g request ≡ kept reply

-- any other does nothing: one of another association, one with a lower number, and one with the number 0, which no request has
abbrev pub IsDiscarded : Gateway → Request → Type 0
IsDiscarded g request = offer_to g request ≡ discard

-- ---- what users do, and signals that end

abbrev pub outcome_of : LineRow → LineEvent → Option Outcome
outcome_of row (Hook h) = hooked row h
outcome_of row Flash = flashed row
outcome_of row (Digit s) = dialled row s
outcome_of row Pause = paused row
outcome_of row (SignalEnd s) = signal_ended row s

abbrev pub with_line : Gateway → ℕ → LineRow → Gateway
with_line g l row = record g { line = λ other. if other == l then row else g.line other }

-- the note that an event of a line raises, on its way to the call that holds the line
abbrev pub notes_from : Gateway → ℕ → ℕ → Option Note → List SentNote
notes_from g call l None = []
notes_from g call l (Some note) =
    record { call = call; association = g.association; number = (g.link call).notes + 1; line = l; note = note } ∷ []

abbrev pub with_notes : Gateway → ℕ → ℕ → Gateway
with_notes g call count = with_link g call (record { last = (g.link call).last; notes = (g.link call).notes + count })

-- an event of a line that a call holds; where no number for its note is left it can't happen (this profile's own)
pub record Happens (g : Gateway) (l : ℕ) (event : LineEvent) (after : Gateway) (notes : List SentNote) : Type 0 where
  pub call : ℕ
  pub outcome : Outcome
  pub held : g.holder l ≡ Some call
  pub happens : outcome_of (g.line l) event ≡ Some outcome
  pub notes_are : notes ≡ notes_from g call l outcome.note
  pub room : (g.link call).notes + length notes ≤ last_number
  pub after_is : after ≡ with_notes (with_line g l outcome.row) call (length notes)

-- ---- a call that begins on the lines of one that has ended

-- each line that the old call holds is in the null context, Inactive, silent and armed by `al/of` with `strict=exact` alone, and no
-- ephemeral exists that it created (this profile's own)
pub record MayBegin (g : Gateway) (old : ℕ) : Type 0 where
  pub rows : (l : ℕ) → g.holder l ≡ Some old → g.board.row (Line (the_line l)) ≡ Some null_row
  pub playing : (l : ℕ) → g.holder l ≡ Some old → (g.line l).playing ≡ silent
  pub list : (l : ℕ) → g.holder l ≡ Some old → (g.line l).list ≡ OffHook Exact ∷ []
  pub no_ephemeral : (k : ℕ) → g.creator k ≡ Some old → ⊥

abbrev pub handed_over : ℕ → ℕ → Option ℕ → Option ℕ
handed_over old new None = None
handed_over old new (Some call) = Some (if call == old then new else call)

-- the old call is retired, and the new one holds its lines; of both nothing is kept, and no note was sent
abbrev pub begun : Gateway → (old new : ℕ) → Gateway
begun g old new = record g {
  holder = λ l. handed_over old new (g.holder l);
  link = λ call. if call == old then record { last = None; notes = 0 } else if call == new then record { last = None; notes = 0 } else g.link call;
  retired = λ call. if call == old then true else g.retired call;
}

-- ---- restart

-- a line is in the null context and Inactive, and an ephemeral is no more
abbrev pub row_restarted : TermId → Option Row → Option Row
row_restarted t None = None
row_restarted t (Some row) = subtracted t

abbrev pub board_restarted : Board → Board
board_restarted b = record {
  row = λ t. row_restarted t (b.row t);
  cut = λ t u. false;
  used_context = λ n. false;
  used_ephemeral = λ n. false;
  class = b.class;
}

abbrev pub link_restarted : CallLink → CallLink
link_restarted link = record link { last = None }

-- a restart: contexts, ephemerals, descriptors, signals, modes and kept replies are lost, and the next association begins;
-- hook states stay (H.248.1 section 11.2 on ServiceChange with the method Restart; a forced loss, this profile's own)
abbrev pub restarted : Gateway → Gateway
restarted g = record {
  association = g.association + 1;
  board = board_restarted g.board;
  line = λ l. cleared (g.line l);
  holder = g.holder;
  creator = λ k. None;
  link = λ call. link_restarted (g.link call);
  retired = g.retired;
}
