-- The lines that a run tells, as the report has them. A reader should check that no line is told without its call, that each has its number, and that those of
-- a call of the plan count each of its steps other than a restart once. This profile's own.
use Rattle.std.specs.Prelude.{◌≡◌, ℕ, zero, suc, ◌+◌, ◌==◌, Bool, List, [], ◌∷◌, ◌++◌, length, map, codes, if◌then◌else◌}
use Rattle.std.specs.List.{flat_map}
use Rattle.mg_model.specs.Plans.{Plan}
use Rattle.mg_model.specs.Reports.{IsReport, ReportLine}
use Rattle.mg_model.specs.Script.{Script}
use Rattle.mg_model.specs.Tables.{state_of}
use Rattle.mg_reports.specs.Sums.{AddUp}
use Rattle.agent.specs.CallValue.{Kind, rests, waits, has_ended}
use Rattle.shards.specs.declared.standing.Standing.{Standing}
use Rattle.planned_calls.specs.declared.call_count.CallCount.{CallCount}
use Rattle.planned_calls.specs.declared.call_count.RetiredCall.{RetiredCall}
use Rattle.planned_calls.specs.declared.lines.CallPhase.{CallPhase}
use Rattle.planned_calls.specs.declared.lines.CallPhase.TheVariants.{Lost, Resting, Waiting, Ended, Retired}
use Rattle.planned_calls.specs.declared.lines.Line.{Line}

-- the word for it
abbrev pub phase_text : CallPhase → List ℕ
phase_text Lost = codes "lost"
phase_text Resting = codes "resting"
phase_text Waiting = codes "waiting"
phase_text Ended = codes "ended"
phase_text Retired = codes "retired"

-- a line, with its state by name
abbrev pub line_of : Script → Line → ReportLine
line_of script l = record { state = (state_of script l.state).name; phase = phase_text l.phase; events = l.events; idle = l.idle }

-- the line of a call that another has begun on
abbrev pub gone_line : Script → RetiredCall → ReportLine
gone_line script g = record { state = (state_of script g.state).name; phase = codes "retired"; events = g.events; idle = g.idle }

abbrev pub kind_phase : Kind → CallPhase
kind_phase rests = Resting
kind_phase waits = Waiting
kind_phase has_ended = Ended

abbrev pub phase_in : Bool → Kind → CallPhase
phase_in is_current kind = if is_current then kind_phase kind else Lost

-- where a call is that stands so, where its gateway is in this association
abbrev pub phase_standing : Script → Standing → (association : ℕ) → CallPhase
phase_standing script s association =
    phase_in (s.association.0 == association) (if s.is_resting then (if (state_of script s.state).is_end then has_ended else rests) else waits)

-- the lines of a call of the plan, of which this is counted, with all that began within it; the one that stands is in this state and phase
abbrev pub lines_told : Script → CallCount → (state : ℕ) → CallPhase → List ReportLine
lines_told script c state phase =
    map (gone_line script) c.gone.items
    ++ record { state = (state_of script state).name; phase = phase_text phase; events = c.events; idle = c.idle } ∷ []

-- ---- numbers

-- the call of the plan, and which of those that began within it
abbrev pub number_of : Line → ℕ × ℕ
number_of l = (l.call, l.begun)

abbrev pub numbers_from : (call begun count : ℕ) → List (ℕ × ℕ)
numbers_from call begun zero = []
numbers_from call begun (suc count) = (call, begun) ∷ numbers_from call (begun + 1) count

-- the lines of a call of the plan, its own first, and then those of the calls that began within it, in order
abbrev pub AreNumbered : ℕ → List Line → Type 0
AreNumbered call lines = map number_of lines ≡ numbers_from call 0 (length lines)

abbrev pub AreAllNumbered : ℕ → List (List Line) → Type 0
AreAllNumbered number [] = Unit {0}
AreAllNumbered number (own ∷ more) = AreNumbered number own × AreAllNumbered (number + 1) more

-- ---- the whole

-- the lines of all calls, one call after the other, are the report of the plan
pub record IsReportOf (script : Script) (plan : Plan) (lines : List Line) : Type 0 where
  pub of_calls : List (List Line)
  pub reported : IsReport script plan (map (λ (own : List Line). map (line_of script) own) of_calls)
  pub numbered : AreAllNumbered 0 of_calls
  -- those of each call add up to its steps other than restarts
  pub add_up : AddUp plan.calls (map (λ (own : List Line). map (line_of script) own) of_calls)
  pub are : lines ≡ flat_map (λ (own : List Line). own) of_calls
