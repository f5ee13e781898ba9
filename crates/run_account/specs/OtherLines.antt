-- Where the lines of a call of the plan tell otherwise than the run leaves it: what is seen, line after line. A reader should check that nothing of this is so
-- where the lines are as the run leaves their calls. This profile's own.
use Rattle.std.specs.Prelude.{◌≡◌, ℕ, ◌+◌, ◌<◌, ◌≤◌, ◌%◌, ◌⊎◌, IsTrue, List, [], ◌∷◌, ◌++◌, length, Contains, Some, None, slice_get, slice_index_or}
use Rattle.std.specs.List.{sum_by}
use Rattle.mg_names.specs.declared.identifiers.CallNo.{CallNo}
use Rattle.mg_model.specs.declared.events.CallEvent.{CallEvent}
use Rattle.mg_model.specs.declared.events.Event.{Event}
use Rattle.mg_model.specs.declared.events.Event.TheVariants.{OfCall}
use Rattle.mg_model.specs.Script.{Script}
use Rattle.mg_model.specs.Tables.{state_of}
use Rattle.mg_model.specs.World.{World, begin}
use Rattle.run_shards.specs.Shards.{IsWorldOf, ShardValue}
use Rattle.run_shards.specs.Standings.{StandsAs}
use Rattle.run_shards.specs.Standing.{Standing}
use Rattle.run_account.specs.Comparing.{last_place}
use Rattle.run_account.specs.FinalState.{call_of}
use Rattle.run_account.specs.FinalStates.{IsLineOf}
use Rattle.run_shards.specs.Disagreements.{last_number}
use Rattle.run_shards.specs.ReportLines.{phase_standing}
use Rattle.run_shards.specs.CallPhase.TheVariants.{Retired}
use Rattle.run_shards.specs.Line.{Line}

-- ---- one thing that a line tells

-- it is of another call of the plan than this, or its number is past the last
abbrev pub IsOfNoCall : (call : ℕ) → Line → Type 0
IsOfNoCall call l = (IsLineOf call l → ⊥) ⊎ (last_number < call_of l)

-- what stands at a place is no event of a call: it is another's, or none is there
abbrev pub IsNotOf : (call : ℕ) → (trail : List Event) → (place : ℕ) → Type 0
IsNotOf call trail place = (number : CallNo) (happens : CallEvent) → number.0 ≡ call → slice_get trail place ≡ Some (OfCall number happens) → ⊥

-- from a place on there are so many places, and what stands at one of them is no event of the call
pub record IsInterrupted (trail : List Event) (call from count : ℕ) : Type 0 where
  pub place : ℕ
  pub behind : from ≤ place
  pub within : place < from + count
  pub other : IsNotOf call trail place

-- what stands at a place isn't that a call begins on this one
abbrev pub IsNoBeginningOn : (call : ℕ) → (trail : List Event) → (place : ℕ) → Type 0
IsNoBeginningOn call trail place = (next : ℕ) → slice_get trail place ≡ Some (begin next call) → ⊥

-- a call stands so, where its gateway is in this association, and a line tells another state or another phase
abbrev pub IsOtherStanding : Script → Standing → (association : ℕ) → Line → Type 0
IsOtherStanding script s association l = (l.state ≡ s.state → ⊥) ⊎ (l.phase ≡ phase_standing script s association → ⊥)

-- a line doesn't tell its call as retired, or tells it in a state that isn't marked end, or no call begins on it at this place
abbrev pub IsNotGone : Script → (trail : List Event) → (place : ℕ) → Line → Type 0
IsNotGone script trail place l =
    (l.phase ≡ Retired → ⊥) ⊎ ((IsTrue (state_of script l.state).is_end → ⊥) ⊎ IsNoBeginningOn (call_of l) trail place)

-- ---- a line

-- behind the events of its call is this place
pub data IsLeftOtherwise (script : Script) (v : ShardValue) (trail : List Event) (place : ℕ) (l : Line) : Type 0 where
  -- its call is open, and stands otherwise
  stands_otherwise : (s : Standing) → ((w : World) → IsWorldOf v w → StandsAs w (call_of l) s) → IsOtherStanding script s v.gateway.association l
      → IsLeftOtherwise script v trail place l
  -- no call of its number is open, and it isn't gone as the line tells
  is_not_gone : ((w : World) → IsWorldOf v w → w.agent (call_of l) ≡ None) → IsNotGone script trail place l → IsLeftOtherwise script v trail place l

-- how many events these lines tell
abbrev pub events_told : List Line → ℕ
events_told lines = sum_by (λ (l : Line). l.events) lines

-- behind these lines, which tell all events up to a place, it tells otherwise
pub data IsUnlike (script : Script) (v : ShardValue) (trail : List Event) (call : ℕ) (front : List Line) (l : Line) : Type 0 where
  of_no_call : IsOfNoCall call l → IsUnlike script v trail call front l
  -- its number is the last, so that none is above it
  numbers_end : last_number ≤ call_of l → IsUnlike script v trail call front l
  -- its number isn't above that of a line before it
  not_above : (earlier : Line) → Contains front earlier → call_of l ≤ call_of earlier → IsUnlike script v trail call front l
  -- not so many events are its call's
  other_events : IsInterrupted trail (call_of l) (events_told front) l.events → IsUnlike script v trail call front l
  left_otherwise : IsLeftOtherwise script v trail (events_told front + l.events) l → IsUnlike script v trail call front l

-- ---- the lines of a call of the plan

-- these lines in front, this line, and what it tells otherwise
pub record HasUnlike (script : Script) (v : ShardValue) (trail : List Event) (call : ℕ) (lines : List Line) : Type 0 where
  pub front : List Line
  pub line : Line
  pub back : List Line
  pub parts : lines ≡ front ++ line ∷ back
  pub unlike : IsUnlike script v trail call front line

-- by its shard, and its transcripts
pub data AreUnlike (script : Script) (v : ShardValue) (trail : List Event) (call : ℕ) (lines : List Line) : Type 0 where
  a_line_is : HasUnlike script v trail call lines → AreUnlike script v trail call lines
  -- the transcripts go on behind the events that the lines tell
  goes_on : events_told lines < length trail → AreUnlike script v trail call lines
  -- the transcripts are longer than places can be counted
  too_long : last_place < length trail → AreUnlike script v trail call lines

-- in so many shards
pub data AreLeftOtherwise (script : Script) (count : ℕ) (vs : List ShardValue) (trails : List (List Event)) (call : ℕ) (lines : List Line) : Type 0 where
  no_call : length trails ≤ call → AreLeftOtherwise script count vs trails call lines
  no_shards : count ≡ 0 → AreLeftOtherwise script count vs trails call lines
  no_shard : length vs ≤ call % count → AreLeftOtherwise script count vs trails call lines
  unlike : (v : ShardValue) → slice_get vs (call % count) ≡ Some v → AreUnlike script v (slice_index_or trails call []) call lines
      → AreLeftOtherwise script count vs trails call lines
