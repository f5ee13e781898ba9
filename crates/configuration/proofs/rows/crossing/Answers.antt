-- A bit for each of the four.
use Rattle.std.proofs.Common.{◌≡◌, ℕ, ◌<◌, ◌*◌, ◌%◌, ◌^◌, ◌==◌, ◌||◌, ◌&&◌, ap, ap₂, ◌∙◌, Bool, arith}
use Rattle.std.specs.Int.RustNames.{bit_or}
use Rattle.mg_model.specs.Paths.{crosses}
use Rattle.configuration.specs.Bits.{has}
use Rattle.configuration.specs.Codes.{flag_code}
use Rattle.configuration.specs.Config.{configuration_of}
use Rattle.configuration.proofs.BitLemmas.{has_or, has_flag}
use Rattle.configuration.proofs.RowLemmas.{pick_four}
use Rattle.configuration.proofs.rows.crossing.Goals as goal

joined : (a b d e p : ℕ) → has (bit_or (bit_or a b) (bit_or d e)) p ≡ ((has a p || has b p) || (has d p || has e p))
joined a b d e p = has_or _ _ p ∙ ap₂ (λ x y. x || y) (has_or a b p) (has_or d e p)

flag_bit : (code k i : ℕ) (b known : Bool) → k < 64 → code ≡ flag_code b → b ≡ known → has (code * 2 ^ k % 2 ^ 64) i ≡ (i == k && known)
flag_bit code k i b known h e f = ap (λ n. has (n * 2 ^ k % 2 ^ 64) i) e ∙ has_flag b k i h ∙ ap (λ x. i == k && x) f

pub returns-clause-value : goal.returns-clause-value
returns-clause-value c i h =
    joined _ _ _ _ i
    ∙ ap₂ (λ x y. x || y)
    (ap₂ (λ x y. x || y) (flag_bit _ 0 i _ _ (omega arith) c.flag_code-first.ensures.value c.is_crossing.ensures)
    (flag_bit _ 1 i _ _ (omega arith) c.flag_code-second.ensures.value c.is_crossing-2.ensures))
    (ap₂ (λ x y. x || y) (flag_bit _ 2 i _ _ (omega arith) c.flag_code-third.ensures.value c.is_crossing-3.ensures)
    (flag_bit _ 3 i _ _ (omega arith) c.flag_code-fourth.ensures.value c.is_crossing-4.ensures))
    ∙ pick_four (λ k. crosses (configuration_of c.args.config.now) c.args.source k) i h
