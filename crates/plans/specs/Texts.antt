-- The texts of a plan's steps. A reader should check the words of each step, and that a number is written in decimal digits without leading zeros. A
-- text that is not of these forms is no step.
use Rattle.std.specs.Prelude.{ℕ, List, [], ◌∷◌, length, Bool, not, ◌&&◌, ◌||◌, ◌==◌, nat_le, slice_index, codes, if◌then◌else◌, Option, Some, None}
use Rattle.std.specs.List.{list_all}
use Rattle.std.specs.Str.{bytes_eq}
use Rattle.std.specs.Str.Parse.{digits_value}
use Rattle.mg_names.specs.Words.{signal_named, symbol_named}
use Rattle.mg_model.specs.declared.plans.PlanStep.{PlanStep}
use Rattle.mg_model.specs.declared.plans.PlanStep.TheVariants.{GoesOff, GoesOn, Flashes, Dials, Pauses, Ends, Executes, TakesReply, Passes, TakesNote, TimesOut, Hears, Begins, Restarts}
use Rattle.script_table.specs.Table.{place_of}
use Rattle.typed_values.specs.Shape.{◌>>=◌, only_if}

-- ---- numbers

abbrev pub is_digit : ℕ → Bool
is_digit byte = nat_le 48 byte && nat_le byte 57

-- decimal digits, without leading zeros
unfoldable pub is_numeral : List ℕ → Bool
is_numeral text =
    nat_le 1 (length text) && (list_all (λ byte. is_digit byte) text && (length text == 1 || not (slice_index text 0 == 48)))

-- a number within bounds
unfoldable pub number_in : (least most : ℕ) → List ℕ → Option ℕ
number_in least most text =
    only_if (is_numeral text) (only_if (nat_le least (digits_value 10 text) && nat_le (digits_value 10 text) most) (Some (digits_value 10 text)))

-- the number of a message, and the place of a command
abbrev pub message_number : List ℕ → Option ℕ
message_number text = number_in 1 4294967295 text

abbrev pub command_place : List ℕ → Option ℕ
command_place text = number_in 0 255 text

-- ---- what follows a step's first word

-- nothing
abbrev pub alone : PlanStep → List (List ℕ) → Option PlanStep
alone step [] = Some step
alone step (word ∷ more) = None

-- the line of a name, by its place
unfoldable pub line_named : List (List ℕ) → List ℕ → Option ℕ
line_named lines name = place_of name lines

-- the name of a line
unfoldable pub line_in : List (List ℕ) → List (List ℕ) → Option ℕ
line_in lines (name ∷ []) = line_named lines name
line_in lines words = None

-- a line, and a symbol that is dialled on it
unfoldable pub dialled_in : List (List ℕ) → List (List ℕ) → Option PlanStep
dialled_in lines (name ∷ word ∷ []) = line_named lines name >>= λ line. symbol_named word >>= λ symbol. Some (Dials line symbol)
dialled_in lines words = None

-- a line, and a signal that ends on it
unfoldable pub ended_in : List (List ℕ) → List (List ℕ) → Option PlanStep
ended_in lines (name ∷ word ∷ []) = line_named lines name >>= λ line. signal_named word >>= λ signal. Some (Ends line signal)
ended_in lines words = None

-- the number of a message, or nothing
unfoldable pub which_in : List (List ℕ) → Option (Option ℕ)
which_in [] = Some None
which_in (word ∷ []) = message_number word >>= λ number. Some (Some number)
which_in words = None

-- `refuse` and the place of a command, or nothing
unfoldable pub refusal_in : List (List ℕ) → Option (Option ℕ)
refusal_in [] = Some None
refusal_in (word ∷ place ∷ []) = only_if (bytes_eq word (codes "refuse")) (command_place place >>= λ place. Some (Some place))
refusal_in words = None

-- the number of a request, or nothing, and then a refusal, or nothing
unfoldable pub executed_in : List (List ℕ) → Option PlanStep
executed_in [] = Some (Executes None None)
executed_in (word ∷ more) =
    if bytes_eq word (codes "refuse") then (refusal_in (word ∷ more) >>= λ place. Some (Executes None place))
    else message_number word >>= λ number. refusal_in more >>= λ place. Some (Executes (Some number) place)

-- ---- steps

unfoldable pub step_of : List (List ℕ) → List (List ℕ) → Option PlanStep
step_of lines [] = None
step_of lines (word ∷ more) =
    if bytes_eq word (codes "off") then (line_in lines more >>= λ line. Some (GoesOff line))
    else if bytes_eq word (codes "on") then (line_in lines more >>= λ line. Some (GoesOn line))
    else if bytes_eq word (codes "flash") then (line_in lines more >>= λ line. Some (Flashes line))
    else if bytes_eq word (codes "pause") then (line_in lines more >>= λ line. Some (Pauses line))
    else if bytes_eq word (codes "digit") then dialled_in lines more
    else if bytes_eq word (codes "end") then ended_in lines more
    else if bytes_eq word (codes "execute") then executed_in more
    else if bytes_eq word (codes "reply") then (which_in more >>= λ which. Some (TakesReply which))
    else if bytes_eq word (codes "note") then (which_in more >>= λ which. Some (TakesNote which))
    else if bytes_eq word (codes "pass") then alone Passes more
    else if bytes_eq word (codes "timer") then alone TimesOut more
    else if bytes_eq word (codes "hear") then alone Hears more
    else if bytes_eq word (codes "begin") then alone Begins more
    else if bytes_eq word (codes "restart") then alone Restarts more
    else None
