-- All that can be warned of: of each state, each line in it with each kind of note, each mark and each command; of each arrow, and each command of the state
-- that it leads to; and of each entry.
use Rattle.std.specs.Prelude.{ℕ, List, [], ◌∷◌, ◌++◌, length, map, Option, Some, None, slice_get}
use Rattle.std.specs.List.{flat_map}
use Rattle.mg_names.specs.declared.kinds.Kind.TheVariants.{On, Of, Fl, Full, Part}
use Rattle.mg_model.specs.Script.{Script}
use Rattle.mg_model.specs.Tables.{state_of}
use Rattle.mg_model.specs.Entries.{Entry}
use Rattle.mg_model.specs.declared.commands.Command.{Command}
use Rattle.call_ways.specs.Arrows.{arrows_of}
use Rattle.call_ways.specs.Numbers.{numbers}
use Rattle.call_ways.specs.declared.arrows.Arrow.{Arrow}
use Rattle.call_ways.specs.declared.warning.Warning.{Warning}
use Rattle.call_ways.specs.declared.warning.Warning.TheVariants as warning

-- of the arrows for a line, and of its lists
abbrev pub of_notes : ℕ → ℕ → List Warning
of_notes s i =
    warning.ArrowUnused s i On ∷ warning.ArrowUnused s i Of ∷ warning.ArrowUnused s i Fl ∷ warning.ArrowUnused s i Full
    ∷ warning.ArrowUnused s i Part ∷ []

abbrev pub of_lists : ℕ → ℕ → List Warning
of_lists s i =
    warning.NoteSwallowed s i On ∷ warning.NoteSwallowed s i Of ∷ warning.NoteSwallowed s i Fl ∷ warning.NoteSwallowed s i Full
    ∷ warning.NoteSwallowed s i Part ∷ warning.LineDeaf s i ∷ []

abbrev pub of_line : ℕ → ℕ → List Warning
of_line s i = of_notes s i ++ of_lists s i

abbrev pub of_command : ℕ → ℕ → List Warning
of_command s place = warning.CommandUnsent s place ∷ []

abbrev pub of_state : Script → ℕ → List Warning
of_state script s =
    warning.StateUnlisted s ∷ warning.StateNeverLeft s ∷ flat_map (of_line s) (0 ∷ 1 ∷ 2 ∷ 3 ∷ [])
    ++ map (λ pair. warning.MarkUnneeded s pair) (state_of script s).talk ++ flat_map (of_command s) (numbers (length (state_of script s).commands))

-- the commands of the state that an arrow leads to
abbrev pub commands_over : Script → Option Arrow → List Command
commands_over script None = []
commands_over script (Some arrow) = (state_of script arrow.to).commands

abbrev pub of_command_over : ℕ → ℕ → List Warning
of_command_over a place = warning.CommandRefused a place ∷ []

abbrev pub of_arrow : Script → ℕ → List Warning
of_arrow script a =
    warning.RequestEmpty a ∷ flat_map (of_command_over a) (numbers (length (commands_over script (slice_get (arrows_of script) a))))

abbrev pub of_entry : ℕ → List Warning
of_entry e = warning.EntryUnreached e ∷ warning.EntryHeld e ∷ warning.PointUnreached e ∷ []

abbrev pub candidates_of : Script → List Entry → List Warning
candidates_of script entries =
    flat_map (of_state script) (numbers (length script.states)) ++ flat_map (of_arrow script) (numbers (length (arrows_of script)))
    ++ flat_map of_entry (numbers (length entries))
