-- How lines are compared with the transcripts and with a shard, one after the other. A reader should check that what happened up to a place is counted for every
-- call.
use Rattle.std.specs.Prelude.{◌≡◌, ℕ, ◌+◌, ◌==◌, ◌%◌, if◌then◌else◌, List, length, take}
use Rattle.mg_model.specs.declared.events.Event.{Event}
use Rattle.mg_model.specs.Numbers.{plan_calls}
use Rattle.mg_model.specs.Script.{Script}
use Rattle.mg_model.specs.World.{World}
use Rattle.run_shards.specs.Shards.{IsWorldOf, ShardValue}
use Rattle.run_account.specs.FinalState.{IsLeftIn, call_of}
use Rattle.run_shards.specs.Parts.{of_call}
use Rattle.run_shards.specs.Line.{Line}

-- how many events of a call stand before a place
abbrev pub counted : (call place : ℕ) → List Event → ℕ
counted call place trail = length (of_call call (take place trail))

-- from one place to another so many events stand, each of the same call
abbrev pub AreAllOf : (trail : List Event) → (number from count next : ℕ) → Type 0
AreAllOf trail number from count next =
    (call : ℕ) → counted call next trail ≡ counted call from trail + (if number == call then count else 0)

-- a line is of a call of the plan, or of one that began within it
pub record IsLineOf (call : ℕ) (l : Line) : Type 0 where
  pub of_call : l.call ≡ call
  pub within : call_of l % plan_calls ≡ l.call

-- whatever world a shard shows, a line tells what is left there
abbrev pub Leaves : Script → ShardValue → List Event → Line → Type 0
Leaves script v trail l = (w : World) → IsWorldOf v w → IsLeftIn script trail w l
