-- What an answer of reading says of the text: a map that fits is of the grammar, and a fault refuses the text as it should.
use Rattle.std.proofs.Common.{◌≡◌, ℕ, List, false, Result, Ok, Err, refl, sym, ◌∙◌, subst, inl, inr}
use Rattle.std.specs.Prelude.{cond, IsTrue, IfOk, IfErr}
use Rattle.digits.specs.declared.fault.MapFault.{MapFault}
use Rattle.digits.specs.declared.fault.MapFault.TheVariants as fault
use Rattle.mg_model.specs.declared.positions.Position.{Position}
use Rattle.mg_model.specs.Memory.{Answers}
use Rattle.digits.specs.Faults.{is_memory}
use Rattle.digits.specs.Grammar.{IsMap}
use Rattle.digits.specs.Refusals.{IsNoMap, IsTooLong, IsRefused}
use Rattle.digits.specs.Reading.{◌>>=◌, unwrapped, fits, map_of}
use Rattle.digits.proofs.Grammar.Given.{bound, chosen, same_answer}
use Rattle.digits.proofs.Grammar.Maps.{map_read, map_taken}
use Rattle.digits.proofs.NeverTooLong.{NeverTooLong, never_unwrapped}

-- what the limits make of alternatives
abbrev limited : List (List Position) → Result (List (List Position)) MapFault
limited alternatives = cond (fits alternatives) (Ok alternatives) (Err fault.TooLong)

map_known : (text : List ℕ) (alternatives : List (List Position)) → IsMap text alternatives → map_of text ≡ limited alternatives
unfolding map_of
map_known text alternatives is_map = rw (map_taken text alternatives is_map) refl

limited_fault : (alternatives : List (List Position)) (e : MapFault) → limited alternatives ≡ Err e → (fits alternatives ≡ false) × (fault.TooLong ≡ e)
limited_fault alternatives e so = elim (chosen (fits alternatives) (Ok alternatives) (Err fault.TooLong) (Err e) so) [ inl fitting ↦ absurd (cc (fitting.1)) | inr other ↦ (other.0, cc (other.1)) ]

limited_answer : (alternatives found : List (List Position)) → limited alternatives ≡ Ok found → (alternatives ≡ found) × IsTrue (fits alternatives)
limited_answer alternatives found so = elim (chosen (fits alternatives) (Ok alternatives) (Err fault.TooLong) (Ok found) so) [ inl fitting ↦ (same_answer alternatives found fitting.1, fitting.0) | inr other ↦ absurd (cc (other.1)) ]

no_map : (text : List ℕ) (e : MapFault) → (fault.TooLong ≡ e → ⊥) → map_of text ≡ Err e → IsNoMap text
no_map text e other so = λ alternatives is_map. other (limited_fault alternatives e (sym (map_known text alternatives is_map) ∙ so)).1

read_too_long : (text : List ℕ) (r : Result (List (List Position)) MapFault) → unwrapped text ≡ r → NeverTooLong r → (r >>= limited) ≡ Err fault.TooLong → IsTooLong text
read_too_long text (Ok alternatives) read never so = record { alternatives = alternatives; is_map = map_read text alternatives read; too_long = (limited_fault alternatives fault.TooLong so).0 }
read_too_long text (Err e) read never so = absurd (never cc)

too_long : (text : List ℕ) → map_of text ≡ Err fault.TooLong → IsTooLong text
unfolding map_of
too_long text so = read_too_long text (unwrapped text) refl (never_unwrapped text) so

-- what was parsed is of the grammar, and fits
pub parsed : (text : List ℕ) (r : Result (List (List Position)) MapFault) → Answers is_memory (λ m. m) r (map_of text) → IfOk r (λ m. IsMap text m × IsTrue (fits m))
unfolding map_of
parsed text (Ok found) so =
    let read = bound (unwrapped text) limited found so in
    let answer = limited_answer read.0 found read.2 in
    subst (λ m. IsMap text m × IsTrue (fits m)) answer.0 (map_read text read.0 read.1, answer.1)
parsed text (Err e) so = tt

-- what was refused is refused as the grammar says
pub refused : (text : List ℕ) (r : Result (List (List Position)) MapFault) → Answers is_memory (λ m. m) r (map_of text) → IfErr r (IsRefused text)
refused text (Ok found) so = tt
refused text (Err fault.NoMemory) so = tt
refused text (Err fault.Empty) so = no_map text fault.Empty (λ e. cc) so
refused text (Err (fault.BadSymbol at)) so = no_map text (fault.BadSymbol at) (λ e. cc) so
refused text (Err (fault.BadRange at)) so = no_map text (fault.BadRange at) (λ e. cc) so
refused text (Err fault.TooLong) so = too_long text so
