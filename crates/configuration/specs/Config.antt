-- What a `Config` shows: one function from its words to the definition's configuration. A reader should check that each
-- component is read from its own field, at the place of its slot, and that a slot that no script has is absent.
use Rattle.std.specs.Prelude.{◌+◌, ◌*◌, Bool, false, nat_lt, ◌&&◌, if◌then◌else◌}
use Rattle.mg_names.specs.declared.modes.Mode.{Mode}
use Rattle.mg_names.specs.declared.modes.Mode.TheVariants.{Inactive}
use Rattle.mg_names.specs.declared.context_values.ContextValue.TheVariants.{Free}
use Rattle.mg_model.specs.declared.commands.EventsName.TheVariants.{Empty}
use Rattle.mg_model.specs.declared.commands.Termination.{Termination}
use Rattle.mg_model.specs.declared.commands.Termination.TheVariants.{Line, Ephemeral}
use Rattle.mg_model.specs.declared.components.Spot.{Spot}
use Rattle.mg_model.specs.declared.components.Spot.TheVariants.{Absent}
use Rattle.mg_model.specs.declared.components.Remote.TheVariants.{Unset}
use Rattle.mg_model.specs.Configuration.{Configuration}
use Rattle.configuration.specs.Places.{index_of}
use Rattle.configuration.specs.Fields.{field_of}
use Rattle.configuration.specs.Codes.{link_at, mode_at, context_at, flag_at, events_at, line_spot_at, ephemeral_spot_at, remote_at}
use Rattle.configuration.specs.Packed.{Words, pair_place}

abbrev pub spot_in : Words → Termination → Spot
spot_in w (Line i) = if nat_lt i 4 then line_spot_at (field_of w.lines (8 + 11 * i) 3) else Absent
spot_in w (Ephemeral k) = if nat_lt k 4 then ephemeral_spot_at (field_of w.ephemerals (8 * k) 3) else Absent

abbrev pub mode_in : Words → Termination → Mode
mode_in w (Line i) = if nat_lt i 4 then mode_at (field_of w.lines (8 + 11 * i + 3) 2) else Inactive
mode_in w (Ephemeral k) = if nat_lt k 4 then mode_at (field_of w.ephemerals (8 * k + 3) 2) else Inactive

abbrev pub cut_in : Words → Termination → Termination → Bool
cut_in w t u =
    nat_lt (index_of t) 8 && nat_lt (index_of u) 8 && flag_at (field_of w.cuts (pair_place (index_of t) (index_of u)) 1)

-- the configuration that a value shows
unfoldable pub configuration_of : Words → Configuration
configuration_of w = record {
  state = field_of w.lines 0 6 + 64 * field_of w.lines 60 2;
  link = link_at (field_of w.lines 6 2);
  spot = spot_in w;
  mode = mode_in w;
  events = λ i. if nat_lt i 4 then events_at (field_of w.lines (8 + 11 * i + 5) 5) else Empty;
  plays = λ i. if nat_lt i 4 then flag_at (field_of w.lines (8 + 11 * i + 10) 1) else false;
  context = λ j. if nat_lt j 4 then context_at (field_of w.lines (52 + 2 * j) 2) else Free;
  remote = λ k. if nat_lt k 4 then remote_at (field_of w.ephemerals (8 * k + 5) 3) else Unset;
  cut = cut_in w;
}
