-- What a call on a line answers, and the row after it: the note of what happened, or that it can't happen, and then the row
-- stays as it was. A call for what never raises a note answers only whether it happened.
use Rattle.std.specs.Prelude.{Option, Some, None, Result, Ok, Err}
use Rattle.line_events.specs.declared.fault.LineFault.{LineFault}
use Rattle.line_events.specs.declared.fault.LineFault.TheVariants.{CannotHappen}
use Rattle.mg_model.specs.LineEvents.{LineRow, Note, Outcome}

abbrev pub Answer : Type 0
Answer = Result (Option Note) LineFault

abbrev pub row_after : LineRow → Option Outcome → LineRow
row_after row None = row
row_after row (Some outcome) = outcome.row

abbrev pub answer : Option Outcome → Answer
answer None = Err CannotHappen
answer (Some outcome) = Ok outcome.note

-- what a call answers for what never raises a note, as an answer that has none
abbrev pub noteless : Result (Unit {0}) LineFault → Answer
noteless (Ok _) = Ok None
noteless (Err fault) = Err fault
