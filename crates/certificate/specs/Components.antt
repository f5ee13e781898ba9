-- The components of a configuration in the order in which points are numbered, and the values that an entry gives
-- each of them. A reader should check the order, and each component's default.
use Rattle.std.specs.Prelude.{ℕ, List, [], ◌∷◌, ◌++◌, Bool, false, not, ◌==◌, ◌&&◌, map, filter, find, take, length, Option, Some, None, option_map, option_and_then}
use Rattle.std.specs.List.{flat_map}
use Rattle.mg_names.specs.declared.modes.Mode.TheVariants.{Inactive}
use Rattle.mg_names.specs.declared.context_values.ContextValue.TheVariants.{Free}
use Rattle.mg_names.specs.Words.{link_named, mode_named, context_value_named}
use Rattle.mg_model.specs.declared.commands.Termination.{Termination}
use Rattle.mg_model.specs.declared.commands.Termination.TheVariants.{Line, Ephemeral}
use Rattle.mg_model.specs.declared.commands.EventsName.TheVariants.{Armed}
use Rattle.mg_model.specs.declared.components.Spot.TheVariants.{Absent, Null}
use Rattle.mg_model.specs.declared.components.Remote.TheVariants.{Unset}
use Rattle.mg_model.specs.Script.{Script}
use Rattle.mg_model.specs.Entries.{Component, links, spots, modes, events, plays, contexts, remotes, cuts}
use Rattle.mg_model.specs.Configuration.{is_same}
use Rattle.script_table.specs.Table.{place_of, list_named}
use Rattle.certificate.specs.Ranks.{set_with, link_rank, spot_rank, mode_rank, events_rank, switch_rank, context_rank, remote_rank}
use Rattle.certificate.specs.Naming.{line_spot_named, ephemeral_spot_named, plays_named, remote_named, cut_named, pair_named}
use Rattle.certificate.specs.Written as written
use Rattle.certificate.specs.Written.{Text}
use Rattle.certificate.specs.declared.key.Key.{Key}
use Rattle.certificate.specs.declared.key.Key.TheVariants as key

-- ---- the order

-- the slots of so many names
abbrev pub slots : ℕ → List ℕ
slots count = take count (0 ∷ 1 ∷ 2 ∷ 3 ∷ [])

abbrev pub line_keys : ℕ → List Key
line_keys i = key.Spot (Line i) ∷ key.Mode (Line i) ∷ key.Events i ∷ key.Plays i ∷ []

abbrev pub ephemeral_keys : ℕ → List Key
ephemeral_keys k = key.Spot (Ephemeral k) ∷ key.Mode (Ephemeral k) ∷ key.Remote k ∷ []

abbrev pub line_terminations : List ℕ → List Termination
line_terminations lines = map (λ i. Line i) lines

abbrev pub ephemeral_terminations : List ℕ → List Termination
ephemeral_terminations ephemerals = map (λ k. Ephemeral k) ephemerals

-- lines before ephemerals
abbrev pub terminations_of : Script → List Termination
terminations_of script =
    line_terminations (slots (length script.lines)) ++ ephemeral_terminations (slots (length script.ephemerals))

-- the pairs of a termination with each other one
abbrev pub cut_keys : List Termination → Termination → List Key
cut_keys all source = map (λ sink. key.Cut source sink) (filter (λ sink. not (is_same source sink)) all)

-- link; for each line at, mode, events, plays; each context; for each ephemeral at, mode, remote; each ordered pair
-- of different terminations, the first one major
abbrev pub keys_of : Script → List Key
keys_of script = key.Link ∷ flat_map line_keys (slots (length script.lines))
    ++ map (λ j. key.Context j) (slots (length script.contexts))
    ++ flat_map ephemeral_keys (slots (length script.ephemerals))
    ++ flat_map (cut_keys (terminations_of script)) (terminations_of script)

-- ---- the values

-- a name stands for a slot
abbrev pub is_slot : Option ℕ → ℕ → Bool
is_slot None slot = false
is_slot (Some place) slot = place == slot

abbrev pub is_pair : Option (Termination × Termination) → Termination → Termination → Bool
is_pair None source sink = false
is_pair (Some (t, u)) source sink = is_same t source && is_same u sink

-- what is written for a slot of some names
abbrev pub row_at : {A : Type 0} → List Text → ℕ → List (Text × A) → Option A
row_at names slot rows = option_map (λ row. row.1) (find (λ row. is_slot (place_of row.0 names) slot) rows)

abbrev pub cut_at : Script → Termination → Termination → List (Text × List Text) → Option (List Text)
cut_at script source sink rows = option_map (λ row. row.1) (find (λ row. is_pair (pair_named script row.0) source sink) rows)

module _ {A : Type 0} (rank : A → ℕ) (named : Text → Option A) where
  -- the set that some words name
  abbrev pub set_of : List Text → Option (List A)
  set_of words = set_with rank named [] words

  -- the same, or the default alone where nothing is written
  abbrev pub set_or : A → Option (List Text) → Option (List A)
  set_or default None = Some (default ∷ [])
  set_or default (Some words) = set_of words

abbrev pub line_words : Script → written.Entry → ℕ → (written.Line → Option (List Text)) → Option (List Text)
line_words script entry i part = option_and_then part (row_at script.lines i entry.lines)

abbrev pub ephemeral_words : Script → written.Entry → ℕ → (written.Ephemeral → Option (List Text)) → Option (List Text)
ephemeral_words script entry k part = option_and_then part (row_at script.ephemerals k entry.ephemerals)

-- the component that an entry gives for a key, or nothing where a word of it is unknown
abbrev pub component_meant : Script → written.Entry → Key → Option Component
component_meant script entry key.Link = option_map links (set_of link_rank link_named entry.link)
component_meant script entry (key.Spot (Line i)) =
    option_map (spots (Line i)) (set_or spot_rank (line_spot_named script) Null (line_words script entry i (λ line. line.at)))
component_meant script entry (key.Spot (Ephemeral k)) =
    option_map (spots (Ephemeral k)) (set_or spot_rank (ephemeral_spot_named script) Absent (ephemeral_words script entry k (λ ephemeral. ephemeral.at)))
component_meant script entry (key.Mode (Line i)) =
    option_map (modes (Line i)) (set_or mode_rank mode_named Inactive (line_words script entry i (λ line. line.mode)))
component_meant script entry (key.Mode (Ephemeral k)) =
    option_map (modes (Ephemeral k)) (set_or mode_rank mode_named Inactive (ephemeral_words script entry k (λ ephemeral. ephemeral.mode)))
component_meant script entry (key.Events i) =
    option_map (events i) (set_or events_rank (λ word. list_named word script.lists) Armed (line_words script entry i (λ line. line.events)))
component_meant script entry (key.Plays i) =
    option_map (plays i) (set_or switch_rank plays_named false (line_words script entry i (λ line. line.plays)))
component_meant script entry (key.Context j) =
    option_map (contexts j) (set_or context_rank context_value_named Free (row_at script.contexts j entry.contexts))
component_meant script entry (key.Remote k) =
    option_map (remotes k) (set_or remote_rank (remote_named script) Unset (ephemeral_words script entry k (λ ephemeral. ephemeral.remote)))
component_meant script entry (key.Cut source sink) =
    option_map (cuts source sink) (set_or switch_rank cut_named false (cut_at script source sink entry.cuts))
