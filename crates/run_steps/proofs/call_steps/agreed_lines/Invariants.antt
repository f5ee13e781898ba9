-- Those of the lines so far.
use Rattle.std.proofs.Common.{◌≡◌, take}
use Rattle.std.specs.Prelude.{◌==◌}
use Rattle.std.specs.List.{All, filter}
use Rattle.run_account.specs.Line.{Line}
use Rattle.run_steps.specs.CallsTold.{IsLineTold}
use Rattle.run_steps.proofs.call_steps.agreed_lines.Given as goal

abbrev pub invariant-loop-line : goal.invariant-loop-line
invariant-loop-line l = record {
  lines : l.lines.items ≡ filter (λ (line : Line). line.call == l.fn.number) (take l.line-index l.line-items);
  told : All (IsLineTold l.outcome.history l.steps) l.lines.items;
}
