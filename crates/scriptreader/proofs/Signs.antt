-- What a sign divides, and what it marks.
use Rattle.std.proofs.Common.{◌≡◌, ℕ, ◌<◌, List, [], ◌∷◌, length, Bool, true, false, cond, Option, Some, None, Bor, refl, ap, nat_lt, arith}
use Rattle.std.specs.Prelude.{option_map, MatchOption, ◌==◌}
use Rattle.std.specs.List.{before_first, after_first, position_or_len}
use Rattle.std.proofs.lemmas.Bool.{le-ltb, eqb-true}
use Rattle.scriptreader.specs.Texts.{parts_at, marked_of}

pub split_is : (sign : ℕ) (text : List ℕ) (r : Option (Bor (List ℕ) × Bor (List ℕ)))
    → MatchOption r (position_or_len (λ b. b == sign) text ≡ length text)
    (λ x. (x.0.now ≡ before_first (λ b. b == sign) text) × (x.1.now ≡ after_first (λ b. b == sign) text) × (position_or_len (λ b. b == sign) text < length text))
    → option_map (λ p. (p.0.now, p.1.now)) r ≡ parts_at sign text
unfolding parts_at
split_is sign text None e =
    let past : nat_lt (position_or_len (λ b. b == sign) text) (length text) ≡ false = le-ltb _ _ (omega (arith, e)) in
    rw past refl
split_is sign text (Some x) h =
    let within : nat_lt (position_or_len (λ b. b == sign) text) (length text) ≡ true = grind (arith, h.2) in
    rw (within, h.0, h.1) refl

unmarked_if : (b : Bool) (x y : Bool × List ℕ) → (b ≡ true → ⊥) → cond b x y ≡ y
unmarked_if true x y never = absurd (never refl)
unmarked_if false x y never = refl

pub unmarked : (text : List ℕ) → ((rest : List ℕ) → text ≡ 36 ∷ rest → ⊥) → marked_of text ≡ (false, text)
unmarked [] never = refl
unmarked (byte ∷ bytes) never = unmarked_if (byte == 36) (true, bytes) (false, byte ∷ bytes) (λ e. never bytes (ap (λ (b : ℕ). b ∷ bytes) (eqb-true _ _ e)))
