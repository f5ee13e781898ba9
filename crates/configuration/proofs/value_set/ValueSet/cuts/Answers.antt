-- A cut by its bit.
use Rattle.std.proofs.Common.{◌<◌, ℕ, subst, sym, arith}
use Rattle.configuration.specs.Bits.{has}
use Rattle.configuration.specs.Codes.{flag_code, flag_at}
use Rattle.configuration.proofs.CutLemmas.{cut_bit}
use Rattle.configuration.proofs.ValueSetLemmas.{told}
use Rattle.configuration.proofs.WordLemmas.{flag_back, small}
use Rattle.configuration.proofs.value_set.ValueSet.cuts.Goals as goal

pub returns : goal.returns
unfolding has
returns c w p =
    let source = subst (λ (n : ℕ). n < 8) c.place_of.ensures.value c.place_of.ensures.small in
    let sink = subst (λ (n : ℕ). n < 8) c.place_of-2.ensures.value c.place_of-2.ensures.small in
    told flag_code flag_at _ _ c.numbers_of-allowed.ensures _ 2 _ 1
    (rw (c.pair_place-place.ensures.value, c.place_of.ensures.value, c.place_of-2.ensures.value) at c.of_field.ensures) (omega arith) w
    (flag_back _ (small _ _ 1)) _ (sym (cut_bit w c.args.source c.args.sink source sink))
