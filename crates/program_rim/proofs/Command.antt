-- What the port of `clap` says of the program's own command.
use Rattle.std.proofs.Common.{◌≡◌, ◌&&◌, ℕ, Bool, true, false, List, [], ◌∷◌, length, nat_lt, lt-ltb, ltb-true, Option, Some, None, Result, Ok, Err, refl, sym, ap}
use Rattle.std.specs.Prelude.{unwrap_or, ok_or}
use Rattle.std.specs.Option.{option_map_or}
use Rattle.std.specs.Char.{digit_value}
use Rattle.std.specs.List.{list_all}
use Rattle.std.specs.Result.{result_unwrap_or}
use Rattle.std.specs.Str.Parse.{AllDigits, ParsesUnsigned, digits_value, without_leading_plus}
use Rattle.clap.specs.Walk.{Text, byte_or_zero}
use Rattle.clap.specs.Words.{is_simple_and_free, is_simple}
use Rattle.clap.specs.Matches.{ReadsOne}
use Rattle.clap.specs.Kinds.{Kinds, IsAmong}
use Rattle.clap.specs.declared.error.kind.ErrorKind.{ErrorKind}
use Rattle.clap.proofs.OnLiterals.{clap_on_literals}
use Rattle.clap.proofs.WalkLemmas.{both, byte_read}
use Rattle.program_rim.specs.declared.words.Request.{Request}
use Rattle.program_rim.specs.declared.words.WordsFault.TheVariants.{Refused}
use Rattle.program_rim.specs.Words.{mgcall_app, unless_faulty, request_of, word_or_zero, ReadsWords}

pub mgcall_is_free : is_simple_and_free mgcall_app ≡ true
unfolding clap_on_literals
mgcall_is_free = refl

pub mgcall_is_simple : is_simple mgcall_app ≡ true
unfolding clap_on_literals
mgcall_is_simple = refl

-- ---- a number of 16 bits

digits_pass : (digits : List ℕ) → AllDigits 10 digits → list_all (λ d. nat_lt (digit_value d) 10) digits ≡ true
digits_pass [] h = refl
digits_pass (d ∷ more) h = rw (lt-ltb (digit_value d) 10 h.0) (digits_pass more h.1)

digits_from : (digits : List ℕ) → list_all (λ d. nat_lt (digit_value d) 10) digits ≡ true → AllDigits 10 digits
digits_from [] e = tt
digits_from (d ∷ more) e =
    let parts = both _ _ e in
    (ltb-true _ _ parts.0, digits_from more parts.1)

abbrev is_word : List ℕ → Bool
is_word digits = nat_lt 0 (length digits) && list_all (λ d. nat_lt (digit_value d) 10) digits && nat_lt (digits_value 10 digits) 65536

word_read : {E : Type 0} (text : List ℕ) (r : Result ℕ E) → ParsesUnsigned 16 10 text r → result_unwrap_or r 0 ≡ word_or_zero text
word_read text (Ok n) h =
    let digits = without_leading_plus text in
    rw (lt-ltb 0 (length digits) h.0.0.0, digits_pass digits h.0.0.1, lt-ltb (digits_value 10 digits) 65536 h.0.1) h.1
word_read text (Err e) h = go (is_word (without_leading_plus text)) refl
  where
    go : (b : Bool) → is_word (without_leading_plus text) ≡ b → 0 ≡ word_or_zero text
    go false t = rw t refl
    go true t =
        let outer = both _ _ t in
        let inner = both _ _ outer.0 in
        absurd (h ((ltb-true _ _ inner.0, digits_from (without_leading_plus text) inner.1), ltb-true _ _ outer.1))

-- ---- the number that `get_one` reads

-- of so many bits, or 0 where it is none of them
number_read : {E : Type 0} (bits : ℕ) (or_zero : List ℕ → ℕ) (gives : List ℕ → Result ℕ E → Type 0)
    → ((t : List ℕ) (r : Result ℕ E) → ParsesUnsigned bits 10 t r → result_unwrap_or r 0 ≡ or_zero t)
    → ((t : List ℕ) (r : Result ℕ E) → gives t r → ParsesUnsigned bits 10 t r)
    → (o : Option Text) (found : Option ℕ) → (o ≡ None → found ≡ None) → ((t : List ℕ) → o ≡ Some t → ReadsOne gives t found)
    → unwrap_or found 0 ≡ option_map_or or_zero o 0
number_read bits or_zero gives read parses None found none some = ap (λ f. unwrap_or f 0) (none refl)
number_read bits or_zero gives read parses (Some t) None none some =
    let failed = some t refl in
    read t (Err failed.0) (parses t (Err failed.0) failed.1)
number_read bits or_zero gives read parses (Some t) (Some n) none some = read t (Ok n) (parses t (Ok n) (some t refl))

pub pieces_read : {E : Type 0} (gives : List ℕ → Result ℕ E → Type 0) → ((t : List ℕ) (r : Result ℕ E) → gives t r → ParsesUnsigned 8 10 t r)
    → (o : Option Text) (found : Option ℕ) → (o ≡ None → found ≡ None) → ((t : List ℕ) → o ≡ Some t → ReadsOne gives t found)
    → unwrap_or found 0 ≡ option_map_or byte_or_zero o 0
pieces_read {E} gives = number_read 8 byte_or_zero gives (λ t r. byte_read {E = E} t r)

pub workers_read : {E : Type 0} (gives : List ℕ → Result ℕ E → Type 0) → ((t : List ℕ) (r : Result ℕ E) → gives t r → ParsesUnsigned 16 10 t r)
    → (o : Option Text) (found : Option ℕ) → (o ≡ None → found ≡ None) → ((t : List ℕ) → o ≡ Some t → ReadsOne gives t found)
    → unwrap_or found 0 ≡ option_map_or word_or_zero o 0
workers_read {E} gives = number_read 16 word_or_zero gives (λ t r. word_read {E = E} t r)

-- ---- requests

-- words with a fault make no request
pub refused : (kinds : Kinds) (kind : ErrorKind) (request : Option Request) → IsAmong kind kinds → unless_faulty kinds request ≡ None
refused [] kind request among = absurd among
refused (k ∷ ks) kind request among = refl

-- words without one make that of their subcommand
pub accepted : (words : List Text) (request : Option Request) → request ≡ request_of words → ReadsWords words (ok_or request Refused)
accepted words None same = sym same
accepted words (Some request) same = sym same
