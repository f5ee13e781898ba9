-- What the words and names of a certificate stand for, given a script. A reader should compare the words with the
-- table of the page on formats.
use Rattle.std.specs.Prelude.{Bool, true, false, ◌==◌, if◌then◌else◌, Option, Some, None, option_map, option_and_then, codes, length, nat_lt}
use Rattle.std.specs.List.{position_or_len, before_first, after_first}
use Rattle.std.specs.Str.{bytes_eq}
use Rattle.mg_model.specs.declared.commands.Termination.{Termination}
use Rattle.mg_model.specs.declared.commands.Termination.TheVariants.{Line, Ephemeral}
use Rattle.mg_model.specs.declared.components.Spot.{Spot}
use Rattle.mg_model.specs.declared.components.Spot.TheVariants.{Absent, Null, In}
use Rattle.mg_model.specs.declared.components.Remote.{Remote}
use Rattle.mg_model.specs.declared.components.Remote.TheVariants.{Unset, Gone, To}
use Rattle.mg_model.specs.Script.{Script}
use Rattle.mg_model.specs.Configuration.{is_same}
use Rattle.script_table.specs.Table.{place_of}
use Rattle.certificate.specs.Written.{Text}

-- a text is one word
abbrev pub is_word : Text → Text → Bool
is_word text word = bytes_eq text word

abbrev pub context_spot_named : Script → Text → Option Spot
context_spot_named script word = option_map (λ j. In j) (place_of word script.contexts)

abbrev pub line_spot_named : Script → Text → Option Spot
line_spot_named script word = if is_word word (codes "-") then Some Null else context_spot_named script word

abbrev pub ephemeral_spot_named : Script → Text → Option Spot
ephemeral_spot_named script word = if is_word word (codes "absent") then Some Absent else context_spot_named script word

abbrev pub plays_named : Text → Option Bool
plays_named word = if is_word word (codes "no") then Some false else if is_word word (codes "may") then Some true else None

abbrev pub remote_named : Script → Text → Option Remote
remote_named script word =
    if is_word word (codes "none") then Some Unset
    else if is_word word (codes "gone") then Some Gone
    else option_map (λ k. To k) (place_of word script.ephemerals)

abbrev pub cut_named : Text → Option Bool
cut_named word = if is_word word (codes "no") then Some false else if is_word word (codes "yes") then Some true else None

-- a termination is a line or an ephemeral of the script
abbrev pub or_else : {A : Type 0} → Option A → Option A → Option A
or_else None other = other
or_else (Some x) other = Some x

abbrev pub termination_named : Script → Text → Option Termination
termination_named script name =
    or_else (option_map (λ i. Line i) (place_of name script.lines)) (option_map (λ k. Ephemeral k) (place_of name script.ephemerals))

-- two different terminations
abbrev pub different : Termination → Termination → Option (Termination × Termination)
different source sink = if is_same source sink then None else Some (source, sink)

-- two terminations of the script, by their names
abbrev pub pair_of : Script → Text → Text → Option (Termination × Termination)
pair_of script source sink =
    option_and_then (λ t. option_and_then (λ u. different t u) (termination_named script sink)) (termination_named script source)

-- the two parts of a text round its first `>` (62 is that character)
abbrev pub parts_of : Text → Option (Text × Text)
parts_of text =
    if nat_lt (position_or_len (λ c. c == 62) text) (length text)
    then Some (before_first (λ c. c == 62) text, after_first (λ c. c == 62) text) else None

-- a cut's key: two different terminations with `>` between them
abbrev pub pair_named : Script → Text → Option (Termination × Termination)
pair_named script key = option_and_then (λ (parts : Text × Text). pair_of script parts.0 parts.1) (parts_of key)
