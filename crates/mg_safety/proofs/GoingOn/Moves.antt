-- What it is for a call to be led to a configuration that is named: by events of its own, from a world of a run, with numbers left for the moves after it.
use Rattle.std.proofs.Common.{◌≡◌, ◌+◌, ◌*◌, ◌≤◌, ℕ, suc, true, List, length, Some, sym, subst, arith}
use Rattle.std.specs.List.{All}
use Rattle.mg_model.specs.declared.events.Event.{Event}
use Rattle.mg_model.specs.Accepted.{IsScript, most_commands}
use Rattle.mg_model.specs.Agent.{Agent, Phase, awaits_reply, awaits_pass, resting}
use Rattle.mg_model.specs.Board.{Board}
use Rattle.mg_model.specs.Configuration.{Configuration}
use Rattle.mg_model.specs.Numbers.{last_number}
use Rattle.mg_model.specs.Script.{Script}
use Rattle.mg_model.specs.Shards.{AreLeft, IsContextLeft, IsEphemeralLeft}
use Rattle.mg_model.specs.World.{World, IsOpening, Opened, Runs, is_of_call, sent_in}
use Rattle.mg_safety.specs.Ending.{NumbersLast}
use Rattle.mg_safety.proofs.Events.Openings.{openings_sound}
use Rattle.mg_safety.proofs.GoingOn.AcceptedNotes.{AcceptedAreCounted, opening_accepted, runs_accepted}
use Rattle.mg_safety.proofs.GoingOn.InOrder.{IsInOrder, opening_in_order, runs_in_order}
use Rattle.mg_safety.proofs.GoingOn.Taking.{Remain, fewer_left}
use Rattle.mg_safety.proofs.GoodWorlds.EveryRun.{runs_sound}
use Rattle.mg_safety.proofs.Invariant.Sound.{IsCurrentAt, IsSound, Listed}
use Rattle.mg_safety.proofs.Invariant.Statements.{IsClosed}
use Rattle.mg_safety.proofs.Messages.AgentNumbers.{GoesOn}
use Rattle.mg_safety.proofs.Messages.NamedMessages.{opening_numbered, runs_numbered}
use Rattle.mg_safety.proofs.Messages.NumberedWorlds.{IsNumbered}

-- ---- worlds of a run

pub record IsOfRun (script : Script) (Among : Listed) (w : World) : Type 0 where
  pub sound : IsSound script Among w
  pub order : IsInOrder w
  pub numbered : IsNumbered w
  pub counted : AcceptedAreCounted w

pub run_on : (script : Script) (Among : Listed) → IsScript script → IsClosed script Among → (events : List Event) (w end : World) → IsOfRun script Among w
    → Runs script events w end → IsOfRun script Among end
run_on script Among is_script closes events w end was runs = record {
  sound = runs_sound script Among is_script closes events w end was.sound runs;
  order = runs_in_order script events w end was.order runs;
  numbered = runs_numbered script events w end was.numbered runs;
  counted = runs_accepted script events w end was.numbered was.counted runs;
}

pub of_opening : (script : Script) (Among : Listed) → IsScript script → IsClosed script Among → (calls : List Opened) (w : World) → IsOpening script calls w
    → IsOfRun script Among w
of_opening script Among is_script closes calls w opens = record {
  sound = openings_sound script Among is_script closes calls w opens;
  order = opening_in_order script calls w opens;
  numbered = opening_numbered script calls w opens;
  counted = opening_accepted script calls w opens;
}

-- ---- a move

-- three events of the call at most lead it to a configuration, and numbers are left for so many moves
pub record IsMovedTo (script : Script) (Among : Listed) (w : World) (call moves : ℕ) (d : Configuration) : Type 0 where
  pub events : List Event
  pub end : World
  pub agent : Agent
  pub few : length events ≤ 3
  pub own : All (λ (event : Event). is_of_call call event ≡ true) events
  pub runs : Runs script events w end
  pub there : end.agent call ≡ Some agent
  pub current : IsCurrentAt script Among end.gateway agent d
  pub last : NumbersLast end call agent moves

-- ---- numbers

one_sent : (phase : Phase) → length (sent_in phase) ≤ 1
one_sent (awaits_reply request) = omega arith
one_sent awaits_pass = omega arith
one_sent resting = omega arith

-- an agent's step takes one transaction at most
pub one_more : (call next : ℕ) (lines : ℕ → ℕ) (b : Agent) → GoesOn call next lines b → b.next ≤ next + 1
one_more call next lines b goes = let is = goes.next_is in let few = one_sent b.phase in omega (arith, is, few)

module _ (w : World) (call : ℕ) (a : Agent) (moves : ℕ) (last : NumbersLast w call a (suc moves)) where
  -- a number is left for the request of a state
  pub next_room : a.next ≤ last_number
  next_room = let room = last.transactions in omega (arith, room)

  -- for a request, and for the moves after it
  pub for_request : (commands : ℕ) → commands ≤ most_commands → Remain w.gateway.board (commands + most_commands * moves)
  for_request commands few = record {
    contexts = fewer_left (IsContextLeft w.gateway.board) (most_commands * suc moves) (commands + most_commands * moves) (omega (arith, few)) last.contexts;
    ephemerals = fewer_left (IsEphemeralLeft w.gateway.board) (most_commands * suc moves) (commands + most_commands * moves) (omega (arith, few))
        last.ephemerals;
  }

  pub for_notes : (commands : ℕ) → commands ≤ most_commands + 2 → (w.gateway.link call).notes + commands ≤ last_number
  for_notes commands few = let room = last.notes in omega (arith, room, few)

  -- what is left after a move that created nothing
  pub last_after : (after : World) (b : Agent) → after.gateway.board ≡ w.gateway.board → (after.gateway.link call).notes ≤ (w.gateway.link call).notes + 2
      → b.next ≤ a.next + 1 → NumbersLast after call b moves
  last_after after b board notes next = record {
    contexts = subst (λ (x : Board). AreLeft (IsContextLeft x) (most_commands * moves)) (sym board)
        (fewer_left (IsContextLeft w.gateway.board) (most_commands * suc moves) (most_commands * moves) (omega arith) last.contexts);
    ephemerals = subst (λ (x : Board). AreLeft (IsEphemeralLeft x) (most_commands * moves)) (sym board)
        (fewer_left (IsEphemeralLeft w.gateway.board) (most_commands * suc moves) (most_commands * moves) (omega arith) last.ephemerals);
    notes = (let room = last.notes in omega (arith, room, notes));
    transactions = (let room = last.transactions in omega (arith, room, next));
  }
