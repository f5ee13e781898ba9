-- A request of one command is executed in any world where its command is, its number is fresh, and the call was sent few notes: with the
-- message that asks for it, the reply, and the world after it.
use Rattle.std.proofs.Common.{◌≡◌, ◌≤◌, ℕ, List, [], ◌∷◌, ◌++◌, None, refl, arith, inl}
use Rattle.mg_examples.proofs.Words.{Board, IsSettled, fresh, Gateway, after_request, offer_to, start_of, Done, IsExecuted, Request, Reply, RequestCommand}
use Rattle.mg_examples.proofs.Words.{Running, after_command, item_at, World, IsFirst, with_gateway, sent_notes, SentNote}
use Rattle.mg_model.specs.RequestRun.{RunsFrom}

-- the request of a call with a number, in the first association, and the reply where the command was done
abbrev pub asks : ℕ → ℕ → RequestCommand → Request
asks call number command = record { call = call; association = 1; number = number; commands = command ∷ [] }

abbrev pub answer : ℕ → ℕ → Done → Reply
answer call number done = record { call = call; association = 1; number = number; results = done ∷ []; failure = None }

module _ (w : World) (call number : ℕ) (command : RequestCommand) (after settled : Board) (done : Done) where
  abbrev end : Running
  end = after_command (start_of w.gateway) command (item_at [] command) after done number

  abbrev gateway_after : Gateway
  gateway_after = after_request w.gateway (asks call number command) end settled None

  abbrev sent : List SentNote
  sent = sent_notes call 1 (w.gateway.link call).notes end.notes

  abbrev pub world_after : World
  world_after = record (with_gateway w gateway_after) { replies = answer call number done ∷ w.replies; notes = sent ++ w.notes }

  at_end : RunsFrom number None end 1 [] end None
  unfolding RunsFrom
  at_end = (refl, refl)

  runs_through : IsExecuted w.gateway.board (item_at [] command) after done → RunsFrom number None (start_of w.gateway) 0 (command ∷ []) end None
  unfolding RunsFrom
  runs_through executed = inl (end, record { board = after; done = done; not_chosen = refl; executed = executed; next_is = refl }, at_end)

  pub executes : IsExecuted w.gateway.board (item_at [] command) after done → IsSettled after settled
      → offer_to w.gateway (asks call number command) ≡ fresh → (w.gateway.link call).notes ≤ 1
      → IsFirst w (asks call number command) None world_after
  executes executed is_settled is_fresh few = record {
    gateway = gateway_after;
    answer = answer call number done;
    sent = sent;
    executed = record {
      end = end;
      settled = settled;
      failure = None;
      is_fresh = is_fresh;
      room = omega (arith, few);
      runs = runs_through executed;
      is_settled = is_settled;
      after_is = refl;
      reply_is = refl;
      notes_are = refl;
    };
    after_is = refl;
  }
