-- The lines so far are written or kept.
use Rattle.std.proofs.Common.{◌≡◌, Ok, take}
use Rattle.std.specs.List.{flat_map}
use Rattle.program_rim.specs.Devices.{Passes}
use Rattle.check_lines.specs.Output.{call_text}
use Rattle.run_reports.specs.RunAnswers.{call_lines}
use Rattle.run_reports.proofs.report.write_lines.Given as goal

abbrev pub invariant-loop-line : goal.invariant-loop-line
invariant-loop-line g l = record {
  bytes : Passes {E = Unit {0}} (g.W.Sink.contents l.initial.sink) (g.W.Sink.contents l.sink)
      (flat_map call_text (call_lines l.script (take l.line-index l.lines))) (Ok tt) l.gathered;
  counted : g.W.Sink.faults l.sink ≡ g.W.Sink.faults l.initial.sink;
}
