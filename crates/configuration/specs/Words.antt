-- A configuration as three numbers below 2 ^ 64, each a sum of the numbers of its components at their places. A reader
-- should check it against the table of the format: from the low bit, the first word has the state's low six bits, the
-- link at 6, four lines of eleven bits from 8 on, and four contexts of two bits from 52 on; the second has four
-- ephemerals of eight bits; the third a bit for each ordered pair of two different ones of four lines and then four
-- ephemerals. What a script has no name for counts nothing.
use Rattle.std.specs.Prelude.{ℕ, ◌+◌, ◌-◌, ◌*◌, ◌%◌, ◌^◌, ◌==◌, nat_lt, if◌then◌else◌, List, [], ◌∷◌, map, sum}
use Rattle.mg_model.specs.declared.commands.Termination.{Termination}
use Rattle.mg_model.specs.declared.commands.Termination.TheVariants.{Line, Ephemeral}
use Rattle.mg_model.specs.declared.components.Spot.{Spot}
use Rattle.mg_model.specs.declared.components.Spot.TheVariants.{Absent, Null, In}
use Rattle.mg_model.specs.Configuration.{Configuration}
use Rattle.configuration.specs.Codes.{link_code, mode_code, context_code, flag_code, events_code, ephemeral_spot_code, remote_code}

-- where a line stands; one that the script has no name for counts as nothing
abbrev pub line_spot_number : Spot → ℕ
line_spot_number Null = 0
line_spot_number (In j) = j + 1
line_spot_number Absent = 0

abbrev pub line_number : Configuration → ℕ → ℕ
line_number c i =
    line_spot_number (c.spot (Line i)) + mode_code (c.mode (Line i)) * 2 ^ 3 + events_code (c.events i) * 2 ^ 5
    + flag_code (c.plays i) * 2 ^ 10

abbrev pub ephemeral_number : Configuration → ℕ → ℕ
ephemeral_number c k =
    ephemeral_spot_code (c.spot (Ephemeral k)) + mode_code (c.mode (Ephemeral k)) * 2 ^ 3 + remote_code (c.remote k) * 2 ^ 5

-- of the eight terminations
abbrev pub termination_at : ℕ → Termination
termination_at m = if nat_lt m 4 then Line m else Ephemeral (m - 4)

-- the first one's seven pairs stand together, in the order of the second
abbrev pub pair_number : Configuration → ℕ → ℕ → ℕ
pair_number c m n =
    if m == n then 0
    else flag_code (c.cut (termination_at m) (termination_at n)) * 2 ^ (if nat_lt m n then 7 * m + n - 1 else 7 * m + n)

abbrev pub eight : List ℕ
eight = 0 ∷ 1 ∷ 2 ∷ 3 ∷ 4 ∷ 5 ∷ 6 ∷ 7 ∷ []

abbrev pub row_number : Configuration → ℕ → ℕ
row_number c m = sum (map (pair_number c m) eight)

-- state and link, lines, contexts
abbrev pub first_word : Configuration → ℕ
first_word c =
    c.state % 64 + link_code c.link * 2 ^ 6
    + line_number c 0 * 2 ^ 8 + line_number c 1 * 2 ^ 19 + line_number c 2 * 2 ^ 30 + line_number c 3 * 2 ^ 41
    + context_code (c.context 0) * 2 ^ 52 + context_code (c.context 1) * 2 ^ 54 + context_code (c.context 2) * 2 ^ 56
    + context_code (c.context 3) * 2 ^ 58

abbrev pub second_word : Configuration → ℕ
second_word c =
    ephemeral_number c 0 + ephemeral_number c 1 * 2 ^ 8 + ephemeral_number c 2 * 2 ^ 16 + ephemeral_number c 3 * 2 ^ 24

abbrev pub third_word : Configuration → ℕ
third_word c = sum (map (row_number c) eight)

unfoldable pub words_of : Configuration → List ℕ
words_of c = first_word c ∷ second_word c ∷ third_word c ∷ []
