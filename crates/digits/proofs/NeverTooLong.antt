-- Reading itself never finds that a map is too long: that is judged afterwards, of what was read.
use Rattle.std.proofs.Common.{◌≡◌, ℕ, zero, suc, ◌+◌, ◌-◌, List, [], ◌∷◌, length, take, drop, Bool, true, false, Option, Some, None, Result, Ok, Err}
use Rattle.std.specs.Prelude.{◌==◌, cond, slice_index}
use Rattle.std.specs.List.{before_first, after_first}
use Rattle.digits.specs.declared.span.Span.{Span}
use Rattle.digits.specs.declared.fault.MapFault.{MapFault}
use Rattle.digits.specs.declared.fault.MapFault.TheVariants as fault
use Rattle.mg_model.specs.declared.positions.Position.{Position}
use Rattle.digits.specs.Symbols.{symbol_of, position_of, run}
use Rattle.digits.specs.Reading.{◌>>=◌, Step, values, all_of, or_fault, rising, is_end, run_at, range_at, position_at, alternative_of, alternatives_of, parts, is_wrapped, unwrapped}
use Rattle.digits.proofs.Grammar.Given.{with_rest}

abbrev pub NeverTooLong : {A : Type 0} → Result A MapFault → Type 0
NeverTooLong (Ok x) = Unit {0}
NeverTooLong (Err e) = e ≡ fault.TooLong → ⊥

never_then : {A B : Type 0} (r : Result A MapFault) (f : A → Result B MapFault) → NeverTooLong r → ((x : A) → NeverTooLong (f x)) → NeverTooLong (r >>= f)
never_then (Ok x) f first more = more x
never_then (Err e) f first more = first

never_if : {A : Type 0} (b : Bool) (x y : Result A MapFault) → NeverTooLong x → NeverTooLong y → NeverTooLong (cond b x y)
never_if true x y first other = first
never_if false x y first other = other

never_option : {A : Type 0} (e : MapFault) (o : Option A) → (e ≡ fault.TooLong → ⊥) → NeverTooLong (or_fault e o)
never_option e None other = other
never_option e (Some x) other = tt

never_values : {A : Type 0} (step : Step A) → ((text : List ℕ) → NeverTooLong (step text)) → (n : ℕ) (text : List ℕ) → NeverTooLong (values step n text)
unfolding values
never_values step never zero text = tt
never_values step never (suc n) [] = tt
never_values step never (suc n) (byte ∷ bytes) =
    never_then (step (byte ∷ bytes)) (λ first. values step n first.1 >>= λ others. Ok (first.0 ∷ others)) (never (byte ∷ bytes))
    (λ first. never_then (values step n first.1) (λ others. Ok (first.0 ∷ others)) (never_values step never n first.1) (λ others. tt))

-- an answer that follows a value is no fault of its own
never_after : {A B : Type 0} (r : Result A MapFault) (f : A → B) (rest : List ℕ) → NeverTooLong r → NeverTooLong {A = B × List ℕ} (r >>= with_rest f rest)
never_after r f rest never = never_then r (with_rest f rest) never (λ x. tt)

never_run : (start : ℕ) (text : List ℕ) → NeverTooLong (run_at start text)
unfolding run_at
never_run start text =
    let digits = never_after (or_fault (fault.BadRange start) (rising (slice_index text 0) (slice_index text 2))) (λ (found : Span). found) (drop 3 text)
    (never_option (fault.BadRange start) (rising (slice_index text 0) (slice_index text 2)) (λ e. cc)) in
    let alone = never_after (or_fault (fault.BadRange start) (symbol_of (slice_index text 0))) (λ symbol. run symbol symbol) (drop 1 text)
    (never_option (fault.BadRange start) (symbol_of (slice_index text 0)) (λ e. cc)) in
    search (never_if, digits, alone)

never_range : (start : ℕ) (text : List ℕ) → NeverTooLong (range_at start text)
unfolding range_at
never_range start text =
    let inside = before_first is_end (drop 1 text) in
    let bad : NeverTooLong {A = Position × List ℕ} (Err (fault.BadRange start)) = λ e. cc in
    let read = never_after (all_of (run_at start) inside) position_of (after_first is_end (drop 1 text)) (never_values (run_at start) (never_run start) (length inside) inside) in
    search (never_if, bad, read)

never_position : (end : ℕ) (text : List ℕ) → NeverTooLong (position_at end text)
unfolding position_at
never_position end text =
    let range = never_range (end - length text) text in
    let any : NeverTooLong {A = Position × List ℕ} (Ok (position_of (run 0 9 ∷ []), drop 1 text)) = tt in
    let alone = never_after (or_fault (fault.BadSymbol (end - length text)) (symbol_of (slice_index text 0))) (λ symbol. position_of (run symbol symbol ∷ [])) (drop 1 text)
    (never_option (fault.BadSymbol (end - length text)) (symbol_of (slice_index text 0)) (λ e. cc)) in
    search (never_if, range, any, alone)

never_alternative : (start : ℕ) (text : List ℕ) → NeverTooLong (alternative_of start text)
unfolding alternative_of
never_alternative start text =
    never_if (length text == 0) (Err fault.Empty) (all_of (position_at (start + length text)) text) (λ e. cc)
    (never_values (position_at (start + length text)) (never_position (start + length text)) (length text) text)

never_alternatives : (start : ℕ) (texts : List (List ℕ)) → NeverTooLong (alternatives_of start texts)
unfolding alternatives_of
never_alternatives start [] = tt
never_alternatives start (text ∷ texts) =
    never_then (alternative_of start text) (λ first. alternatives_of (start + length text + 1) texts >>= λ others. Ok (first ∷ others)) (never_alternative start text)
    (λ first. never_then (alternatives_of (start + length text + 1) texts) (λ others. Ok (first ∷ others)) (never_alternatives (start + length text + 1) texts) (λ others. tt))

pub never_unwrapped : (text : List ℕ) → NeverTooLong (unwrapped text)
never_unwrapped text =
    never_if (is_wrapped text) (alternatives_of 1 (parts (take (length text - 2) (drop 1 text)))) (alternatives_of 0 (parts text))
    (never_alternatives 1 (parts (take (length text - 2) (drop 1 text)))) (never_alternatives 0 (parts text))
