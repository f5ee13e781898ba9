-- The texts of a script: items of events lists, pairs that talk, and commands. A reader should check each form, and that
-- an option comes at most once. A text that is not of these forms is a bad key.
use Rattle.std.specs.Prelude.{ℕ, List, [], ◌∷◌, length, drop, Bool, true, false, ◌&&◌, ◌||◌, ◌==◌, nat_lt, is_none, slice_index, codes, if◌then◌else◌, Option, Some, None}
use Rattle.std.specs.List.{before_first, after_first, position_or_len}
use Rattle.std.specs.Str.{bytes_eq}
use Rattle.mg_names.specs.Words.{mode_named, event_name_named, strict_named, topology_named}
use Rattle.mg_names.specs.declared.events.EventName.{EventName}
use Rattle.mg_names.specs.declared.events.EventName.TheVariants as event
use Rattle.mg_names.specs.declared.strictness.Strict.TheVariants.{Exact}
use Rattle.scriptreader.specs.declared.syntax.WrittenItem.{WrittenItem}
use Rattle.scriptreader.specs.declared.syntax.WrittenItem.TheVariants.{OnHook, OffHook, Flash, Digits}
use Rattle.scriptreader.specs.declared.syntax.WrittenPair.{WrittenPair}
use Rattle.scriptreader.specs.declared.syntax.Options.{Options}
use Rattle.scriptreader.specs.declared.syntax.WrittenCommand.{WrittenCommand}
use Rattle.scriptreader.specs.declared.syntax.WrittenCommand.TheVariants.{Add, Modify, Move, Subtract, SubtractAll, SetTopology}
use Rattle.typed_values.specs.Names.{is_name}
use Rattle.typed_values.specs.Shape.{◌>>=◌, only_if}

-- the two parts of a text round the first such byte
unfoldable pub parts_at : ℕ → List ℕ → Option (List ℕ × List ℕ)
parts_at sign text =
    only_if (nat_lt (position_or_len (λ byte. byte == sign) text) (length text))
    (Some (before_first (λ byte. byte == sign) text, after_first (λ byte. byte == sign) text))

-- a word that has the form of a name
abbrev pub name_of : List ℕ → Option (List ℕ)
name_of text = only_if (is_name text) (Some text)

-- whether `$` stands before a word, and the word
abbrev pub marked_of : List ℕ → Bool × List ℕ
marked_of text = if slice_index text 0 == 36 then (true, drop 1 text) else (false, text)

-- `al/on`, `al/of` and `al/fl`; a hook event stands for its exact form
abbrev pub plain_item : EventName → Option WrittenItem
plain_item event.OnHook = Some (OnHook Exact)
plain_item event.OffHook = Some (OffHook Exact)
plain_item event.Flash = Some Flash
plain_item event.DigitMapCompletion = None

-- `al/on=`, `al/of=` and `dd/ce=`
abbrev pub valued_item : EventName → List ℕ → Option WrittenItem
valued_item event.OnHook value = strict_named value >>= λ strict. Some (OnHook strict)
valued_item event.OffHook value = strict_named value >>= λ strict. Some (OffHook strict)
valued_item event.Flash value = None
valued_item event.DigitMapCompletion value = name_of value >>= λ map. Some (Digits map)

abbrev pub plain_named : List ℕ → Option WrittenItem
plain_named text = event_name_named text >>= plain_item

abbrev pub valued_named : List ℕ → List ℕ → Option WrittenItem
valued_named name value = event_name_named name >>= λ event. valued_item event value

abbrev pub item_in : List ℕ → Option (List ℕ × List ℕ) → Option WrittenItem
item_in text None = plain_named text
item_in text (Some p) = valued_named p.0 p.1

-- an item of an events list
unfoldable pub item_of : List ℕ → Option WrittenItem
item_of text = item_in text (parts_at 61 text)

-- two lines with `-` between them
unfoldable pub pair_of : List ℕ → Option WrittenPair
pair_of text = do
  p ← parts_at 45 text
  first ← name_of p.0
  second ← name_of p.1
  Some (record { first = first; second = second })

-- ---- options

abbrev pub no_options : Options
no_options = record { mode = None; events = None; signals = None; remote = None }

abbrev pub with_mode : Options → List ℕ → Option Options
with_mode options value = mode_named value >>= λ mode. only_if (is_none options.mode) (Some (record options { mode = Some mode }))

abbrev pub with_events : Options → List ℕ → Option Options
with_events options value = name_of value >>= λ name. only_if (is_none options.events) (Some (record options { events = Some name }))

abbrev pub with_signals : Options → List ℕ → Option Options
with_signals options value = name_of value >>= λ name. only_if (is_none options.signals) (Some (record options { signals = Some name }))

abbrev pub with_remote : Options → List ℕ → Option Options
with_remote options value = name_of value >>= λ name. only_if (is_none options.remote) (Some (record options { remote = Some name }))

abbrev pub with_value : Options → List ℕ → List ℕ → Option Options
with_value options key value =
    if bytes_eq key (codes "mode") then with_mode options value
    else if bytes_eq key (codes "events") then with_events options value
    else if bytes_eq key (codes "signals") then with_signals options value
    else if bytes_eq key (codes "remote") then with_remote options value
    else None

-- the options and one more, which isn't there yet
unfoldable pub with_option : Options → List ℕ → Option Options
with_option options word = parts_at 61 word >>= λ p. with_value options p.0 p.1

unfoldable pub options_from : Options → List (List ℕ) → Option Options
options_from options [] = Some options
options_from options (word ∷ words) = with_option options word >>= λ more. options_from more words

-- options of a line, and of an ephemeral termination
abbrev pub suits_line : Options → Bool
suits_line options = is_none options.remote

abbrev pub suits_ephemeral : Options → Bool
suits_ephemeral options = is_none options.events && is_none options.signals

-- ---- commands

abbrev pub add_in : Bool × List ℕ → Bool × List ℕ → List (List ℕ) → Option WrittenCommand
add_in place termination words = do
  context ← name_of place.1
  name ← name_of termination.1
  options ← options_from no_options words
  only_if (if termination.0 then suits_ephemeral options else suits_line options)
      (Some (Add place.0 context termination.0 name options))

unfoldable pub add_of : List ℕ → List (List ℕ) → Option WrittenCommand
add_of place [] = None
add_of place (termination ∷ words) = add_in (marked_of place) (marked_of termination) words

-- `-` is the null context
abbrev pub place_of : List ℕ → Option (Option (List ℕ))
place_of place = if bytes_eq place (codes "-") then Some None else name_of place >>= λ name. Some (Some name)

unfoldable pub modify_of : List ℕ → List (List ℕ) → Option WrittenCommand
modify_of place [] = None
modify_of place (termination ∷ words) = do
  place ← place_of place
  name ← name_of termination
  options ← options_from no_options words
  only_if (suits_line options || suits_ephemeral options) (Some (Modify place name options))

unfoldable pub move_of : List ℕ → List (List ℕ) → Option WrittenCommand
move_of place [] = None
move_of place (termination ∷ words) = do
  context ← name_of place
  name ← name_of termination
  options ← options_from no_options words
  only_if (suits_line options || suits_ephemeral options) (Some (Move context name options))

unfoldable pub subtract_of : List ℕ → List (List ℕ) → Option WrittenCommand
subtract_of place (termination ∷ []) = name_of place >>= λ context.
    (if bytes_eq termination (codes "*") then Some (SubtractAll context) else name_of termination >>= λ name. Some (Subtract context name))
subtract_of place words = None

unfoldable pub topology_of : List ℕ → List (List ℕ) → Option WrittenCommand
topology_of place (first ∷ second ∷ word ∷ []) = do
  context ← name_of place
  first ← name_of first
  second ← name_of second
  topology ← topology_named word
  Some (SetTopology context first second topology)
topology_of place words = None

-- the command that the words write
unfoldable pub command_of : List (List ℕ) → Option WrittenCommand
command_of (verb ∷ place ∷ rest) =
    if bytes_eq verb (codes "add") then add_of place rest
    else if bytes_eq verb (codes "modify") then modify_of place rest
    else if bytes_eq verb (codes "move") then move_of place rest
    else if bytes_eq verb (codes "subtract") then subtract_of place rest
    else if bytes_eq verb (codes "topology") then topology_of place rest
    else None
command_of words = None
