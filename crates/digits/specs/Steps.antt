-- What a step of a collector tells: its completion, and whether the symbol was kept.
use Rattle.std.specs.Prelude.{◌≡◌, Bool, true, false, Option, Some, None}
use Rattle.digits.specs.declared.step.Step.{Step}
use Rattle.digits.specs.declared.step.Step.TheVariants.{More, Done, Closed}
use Rattle.mg_model.specs.declared.line_events.Method.{Method}
use Rattle.mg_model.specs.declared.line_events.Method.TheVariants.{Unambiguous, Full, Partial}
use Rattle.mg_model.specs.DigitMaps.{Dialling, Collected, Completion}

abbrev pub completion_of : Step → Option Completion
completion_of More = None
completion_of (Done method alternative symbols) = Some (record { method = method; alternative = alternative; symbols = symbols })
completion_of Closed = None

-- the symbol that completes a map unambiguously is kept; else the completion is by a pause, or by a symbol that is taken back
abbrev pub keeps_by : Method → Bool
keeps_by Unambiguous = true
keeps_by Full = false
keeps_by Partial = false

abbrev pub keeps : Step → Bool
keeps More = true
keeps (Done method alternative symbols) = keeps_by method
keeps Closed = false

-- what is collected after a step, with what the step tells
abbrev pub told : Dialling → Step → Collected
told digits step = record { digits = digits; completion = completion_of step; kept = keeps step }

-- the step that tells of this completion
abbrev pub ends_by : Completion → Step → Type 0
ends_by completion step = (completion_of step ≡ Some completion) × (keeps step ≡ false)
