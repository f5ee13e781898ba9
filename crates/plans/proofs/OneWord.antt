-- A text without a space is one word.
use Rattle.std.proofs.Common.{◌≡◌, ℕ, true, false, List, [], ◌∷◌}
use Rattle.std.specs.Prelude.{not, ◌==◌}
use Rattle.std.specs.List.{All, list_all}
use Rattle.std.proofs.lemmas.Bool.{and_parts, not-true}
use Rattle.std.proofs.lemmas.List.Elements.{All-nil, All-cons}
use Rattle.std.proofs.lemmas.List.Splits.{slice_split_none}
use Rattle.typed_values.specs.Texts.{words_of}

no_space : (text : List ℕ) → list_all (λ byte. not (byte == 32)) text ≡ true → All (λ byte. (byte == 32) ≡ false) text
no_space [] e = All-nil (λ byte. (byte == 32) ≡ false)
no_space (b ∷ bs) e =
    let parts = and_parts (not (b == 32)) (list_all (λ byte. not (byte == 32)) bs) e in
    All-cons (λ byte. (byte == 32) ≡ false) b bs (not-true (b == 32) parts.0) (no_space bs parts.1)

pub one_word : (text : List ℕ) → list_all (λ byte. not (byte == 32)) text ≡ true → words_of text ≡ text ∷ []
one_word text e = slice_split_none (λ byte. byte == 32) text (no_space text e)
