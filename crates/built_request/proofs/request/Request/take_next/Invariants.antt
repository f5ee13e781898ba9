-- What is built of the commands that are left is what was left at the start.
use Rattle.std.proofs.Common.{◌≡◌, ◌≤◌, length, drop}
use Rattle.mg_model.specs.Request.{built}
use Rattle.built_request.specs.Known.{names_of}
use Rattle.built_request.proofs.request.Request.take_next.Given as goal

abbrev pub invariant-loop-place : goal.invariant-loop-place
invariant-loop-place l = record {
  within : l.self-inside.place ≤ length l.self-inside.commands.now;
  end : l.place-end ≡ length l.self-inside.commands.now;
  left : built (names_of l.self-inside.names) (drop l.place l.self-inside.commands.now)
      ≡ built (names_of l.initial.self-inside.names) (drop l.initial.self-inside.place l.initial.self-inside.commands.now);
}
