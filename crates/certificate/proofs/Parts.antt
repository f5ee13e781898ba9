-- A text that is divided by its first `>`.
use Rattle.std.proofs.Common.{◌≡◌, ◌<◌, ◌≤◌, ℕ, List, length, Option, Some, None, option_map, MatchOption, Bor, refl, arith, lt-ltb, le-ltb}
use Rattle.std.specs.Prelude.{◌==◌}
use Rattle.std.specs.List.{position_or_len, before_first, after_first}
use Rattle.certificate.specs.Naming.{parts_of}

abbrev sign : ℕ → Rattle.std.specs.Prelude.Bool
sign c = c == 62

pub parts_found : (text : List ℕ) (r : Option (Bor (List ℕ) × Bor (List ℕ)))
    → MatchOption r (position_or_len sign text ≡ length text)
    (λ x. (x.0.now ≡ before_first sign text) × (x.1.now ≡ after_first sign text) × (position_or_len sign text < length text))
    → option_map (λ p. (p.0.now, p.1.now)) r ≡ parts_of text
parts_found text None past =
    let full : length text ≤ position_or_len sign text = omega arith in
    rw (le-ltb (position_or_len sign text) (length text) full) refl
parts_found text (Some x) found =
    rw (lt-ltb (position_or_len sign text) (length text) found.2) (rw (found.0, found.1) refl)
