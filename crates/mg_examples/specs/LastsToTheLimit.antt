-- That runs in which identifiers are left before each event are as long as a plan may be: one with as many executes as the steps that a plan has at most. So the
-- law that identifiers last isn't hollow at its limit. A reader should check that the events are an opening, one request, and executes alone.
use Rattle.std.specs.Prelude.{◌≡◌, ℕ, List, [], ◌∷◌, length, None}
use Rattle.std.specs.List.{All}
use Rattle.mg_model.specs.declared.events.Event.{Event}
use Rattle.mg_model.specs.declared.line_events.Hook.TheVariants as hooks
use Rattle.mg_model.specs.declared.line_events.LineEvent.TheVariants as event
use Rattle.mg_model.specs.Shards.{RunsWithin}
use Rattle.mg_model.specs.World.{World, IsOpening, on_a_line, note, execute}
use Rattle.mg_examples.specs.Talk.{call}
use Rattle.mg_examples.specs.TwoLines.{calling}
use Rattle.mg_examples.specs.TwoTalks.{both_lines}

-- the most executes of a plan: 10,000 calls of 1,000 steps each
abbrev pub most_executes : ℕ
most_executes = 10000000

-- line a goes off hook, the note of it is taken, and the request reaches the gateway so many times
pub record LastsToTheLimit : Type 0 where
  pub executes : List Event
  pub each : All (λ (happens : Event). happens ≡ execute 7 1 None) executes
  pub many : length executes ≡ most_executes
  pub opening : World
  pub end : World
  pub opens : IsOpening (calling both_lines) (call ∷ []) opening
  pub runs : RunsWithin (calling both_lines) (on_a_line 7 1 (event.Hook hooks.Off) ∷ note 7 1 ∷ executes) opening end
