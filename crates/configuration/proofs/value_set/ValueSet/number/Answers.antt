-- A word with one bit has that of the lowest alone.
use Rattle.std.proofs.Common.{◌<◌, ◌==◌, sym, ap, ◌∙◌, arith}
use Rattle.std.specs.Int.{trailing_zeros, w64}
use Rattle.configuration.specs.Fields.{field_of}
use Rattle.configuration.specs.Bits.{has}
use Rattle.configuration.specs.Regions.{is_in, word_at}
use Rattle.configuration.proofs.FieldLemmas.{power_le}
use Rattle.configuration.proofs.BitLemmas.{has_one}
use Rattle.configuration.proofs.ValueSetLemmas.{below_power}
use Rattle.configuration.proofs.value_set.ValueSet.number.Goals as goal

pub overflow_shl-low : goal.overflow_shl-low
overflow_shl-low c =
    omega (arith, below_power _ c.size.result c.if-low-size-ne0.false, power_le c.size.result 5 c.size.ensures.small)

pub returns : goal.returns
unfolding is_in
returns c =
    let low = below_power _ c.size.result c.if-low-size-ne0.false in
    let small : trailing_zeros w64 c.allowed-low.result < 64 = omega (arith, low, power_le c.size.result 5 c.size.ensures.small) in
    let value = sym c.allowed.ensures ∙ c.if-allowed-low.false in
    let set = c.args.self.now in (
      rw (c.from.ensures, sym c.size.ensures.value) low,
      λ w.
          let number = field_of (word_at w set.word) set.at set.bits in
          ap (λ a. has a number) value ∙ has_one (trailing_zeros w64 c.allowed-low.result) number small
          ∙ ap (λ n. number == n) (sym c.from.ensures),
    )
