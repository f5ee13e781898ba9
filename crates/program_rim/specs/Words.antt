-- What the command line asks for. What words `clap` takes, and how, is the definition of the port
-- of that crate; a reader should check the command below, which it is given, and that a request is
-- read off exactly the words that it takes.
use Rattle.std.specs.Prelude.{◌≡◌, ℕ, pos, ◌&&◌, nat_le, nat_lt, length, List, [], ◌∷◌, Option, None, Some, Result, MatchResult, codes, if◌then◌else◌}
use Rattle.std.specs.Option.{option_map_or}
use Rattle.std.specs.Char.{digit_value}
use Rattle.std.specs.List.{list_all}
use Rattle.std.specs.Str.{bytes_eq}
use Rattle.std.specs.Str.Parse.{digits_value, without_leading_plus}
use Rattle.clap.specs.Walk.{Row, Rule, Text, byte_or_zero, one_of}
use Rattle.clap.specs.Simple.{App, new_app, new_rule, subcommand_of, with_rule, with_subcommand}
use Rattle.clap.specs.Faults.{fault_of}
use Rattle.clap.specs.Kinds.{Kinds}
use Rattle.clap.specs.declared.builder.value_parser.ValueParser.TheVariants as parser
use Rattle.program_rim.specs.declared.words.Request.{Request}
use Rattle.program_rim.specs.declared.words.Request.TheVariants.{Check, Run}
use Rattle.program_rim.specs.declared.words.WordsFault.{WordsFault}
use Rattle.program_rim.specs.declared.words.WordsFault.TheVariants.{Refused, NoMemory}

-- `--pieces N`, with N a whole number of 1 to 64, and 1 where it isn't given
abbrev pub pieces_rule : Rule
pieces_rule = record (new_rule (codes "pieces")) {
  long = Some (codes "pieces");
  parser = Some (parser.Signed (pos 1) (pos 64));
  defaults = codes "1" ∷ [];
}

-- `check [--pieces N]`
abbrev pub check_app : App
check_app = with_rule (new_app (codes "check")) pieces_rule

-- `--workers N`, with N a whole number of 16 bits, and 1 where it isn't given
abbrev pub workers_rule : Rule
workers_rule = record (new_rule (codes "workers")) {
  long = Some (codes "workers");
  parser = Some (parser.Signed (pos 0) (pos 65535));
  defaults = codes "1" ∷ [];
}

-- `run [--workers N]`
abbrev pub run_app : App
run_app = with_rule (new_app (codes "run")) workers_rule

-- `mgcall check [--pieces N]` and `mgcall run [--workers N]`
abbrev pub mgcall_app : App
mgcall_app = with_subcommand (with_subcommand (new_app (codes "mgcall")) check_app.top) run_app.top

-- the number of pieces among what was found for the subcommand's arguments
abbrev pub pieces_of : List Row → ℕ
pieces_of rows = option_map_or byte_or_zero (one_of (codes "pieces") rows) 0

-- the number that a text is, or 0 where it is none of 16 bits
abbrev pub word_or_zero : Text → ℕ
word_or_zero text =
    let digits = without_leading_plus text in
    if nat_lt 0 (length digits) && list_all (λ d. nat_lt (digit_value d) 10) digits
    && nat_lt (digits_value 10 digits) 65536 then digits_value 10 digits else 0

-- the number of workers among what was found for the subcommand's arguments
abbrev pub workers_of : List Row → ℕ
workers_of rows = option_map_or word_or_zero (one_of (codes "workers") rows) 0

abbrev pub check_of : ℕ → Option Request
check_of pieces = if nat_le 1 pieces && nat_le pieces 64 then Some (Check pieces) else None

-- the request that a subcommand with its arguments makes
abbrev pub request_in : Option (Text × List Row) → Option Request
request_in None = None
request_in (Some (name, rows)) =
    if bytes_eq name (codes "check") then check_of (pieces_of rows)
    else if bytes_eq name (codes "run") then Some (Run (workers_of rows)) else None

-- nothing where the words have a fault
abbrev pub unless_faulty : Kinds → Option Request → Option Request
unless_faulty [] request = request
unless_faulty (fault ∷ faults) request = None

-- the request that the words make, the program's name first; or none
abbrev pub request_of : List Text → Option Request
request_of words = unless_faulty (fault_of mgcall_app words) (request_in (subcommand_of mgcall_app words))

-- memory may run out at any words
abbrev pub MatchFault : WordsFault → Type 0 → Type 0
MatchFault Refused P = P
MatchFault NoMemory P = Unit {0}

-- the answer is the request of the words, or says that there is none
abbrev pub ReadsWords : List Text → Result Request WordsFault → Type 0
ReadsWords words result = MatchResult result (λ request. request_of words ≡ Some request)
    (λ fault. MatchFault fault (request_of words ≡ None))
