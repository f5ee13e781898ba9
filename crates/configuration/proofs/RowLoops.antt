-- The words that are put together byte by byte.
use Rattle.std.proofs.Common.{◌≡◌, ℕ, ◌+◌, ◌*◌, ◌<◌, ◌==◌, Bool, true, false, refl, sym, subst, ◌∙◌, arith}
use Rattle.std.proofs.lemmas.Grind.{common_steps}
use Rattle.mg_model.specs.Configuration.{Configuration}
use Rattle.mg_model.specs.Paths.{hops, crosses}
use Rattle.configuration.specs.Fields.{IsPut}
use Rattle.configuration.specs.Bits.{has}
use Rattle.configuration.specs.Words.{termination_at}
use Rattle.configuration.proofs.RowLemmas.{put_byte, other_byte}

-- the bytes below one are those of this table
abbrev pub AreBytesBelow : (ℕ → ℕ → Bool) → ℕ → ℕ → ℕ → Type 0
AreBytesBelow table width word n = (t u : ℕ) → t < n → u < width → has word (8 * t + u) ≡ table t u

pub next_byte : (table : ℕ → ℕ → Bool) (width new old value s : ℕ) → width < 9 → AreBytesBelow table width old s → IsPut new old (8 * s) 8 value →
    ((u : ℕ) → u < width → has value u ≡ table s u) → AreBytesBelow table width new (s + 1)
next_byte table width new old value s small were put here t u l h = by_test (t == s) refl
  where
    by_test : (b : Bool) → (t == s) ≡ b → has new (8 * t + u) ≡ table t u
    by_test true e =
        let same : t ≡ s = grind (arith, common_steps) in
        subst (λ (k : ℕ). has new (8 * k + u) ≡ table k u) (sym same) (put_byte new old value s put u (omega arith) ∙ here u h)
    by_test false e =
        let less : t < s = below_it e in other_byte new old value s put t u less (omega arith) ∙ were t u less h
      where
        below_it : (t == s) ≡ false → t < s
        below_it e = grind (arith, common_steps)

abbrev pub IsRowsBelow : Configuration → ℕ → ℕ → Type 0
IsRowsBelow c word n = AreBytesBelow (λ t u. hops c (termination_at t) (termination_at u)) 8 word n

abbrev pub IsCrossingsBelow : Configuration → ℕ → ℕ → Type 0
IsCrossingsBelow c word n = AreBytesBelow (λ k i. crosses c k i) 4 word n
