-- The values so far are there, and whatever was there.
use Rattle.std.proofs.Common.{ℕ, ◌<◌, map, Contains}
use Rattle.std.specs.List.{slice_index_or}
use Rattle.mg_model.specs.Configuration.{Configuration}
use Rattle.mg_model.specs.Entries.{choices_of, same_choice}
use Rattle.configuration.specs.Config.{configuration_of}
use Rattle.entry_table.specs.Shown.{shown}
use Rattle.closure.proofs.block_hull.push_each.Given as goal

abbrev pub invariant-loop-place : goal.invariant-loop-place
invariant-loop-place l = record {
  kept : (d : Configuration) → Contains (map configuration_of l.initial.hull) d → Contains (map configuration_of l.hull) d;
  each : (p : ℕ) → p < l.place
      → Contains (map configuration_of l.hull) ((slice_index_or (choices_of (shown l.component)) p same_choice) (configuration_of l.first));
}
