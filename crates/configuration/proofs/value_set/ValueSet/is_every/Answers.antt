-- All the numbers of a field of one bit, and of one of two.
use Rattle.std.proofs.Common.{◌≡◌, ◌∙◌, ◌==◌, ◌<◌, ℕ, zero, suc, true, IsTrue, refl, sym, ap, arith}
use Rattle.std.proofs.lemmas.Grind.{common_steps}
use Rattle.configuration.specs.Bits.{has}
use Rattle.configuration.specs.Fields.{field_of}
use Rattle.configuration.specs.Regions.{is_in, word_at}
use Rattle.configuration.proofs.WordLemmas.{small}
use Rattle.configuration.proofs.value_set.ValueSet.is_every.Goals as goal

same : (n m : ℕ) → IsTrue (n == m) → n ≡ m
same n m h = grind (arith, common_steps)

of_three : (n : ℕ) → n < 2 → has 3 n ≡ true
unfolding has field_of
of_three zero h = refl
of_three (suc zero) h = refl
of_three (suc (suc n)) h = absurd (omega arith)

of_fifteen : (n : ℕ) → n < 4 → has 15 n ≡ true
unfolding has field_of
of_fifteen zero h = refl
of_fifteen (suc zero) h = refl
of_fifteen (suc (suc zero)) h = refl
of_fifteen (suc (suc (suc zero))) h = refl
of_fifteen (suc (suc (suc (suc n)))) h = absurd (omega arith)

pub returns-in-1 : goal.returns-in-1
unfolding is_in
returns-in-1 c holds w =
    let set = c.args.self.now in
    let bits : set.bits ≡ 1 = sym c.size.ensures.value ∙ c.in-1.is in
    let allowed : set.allowed ≡ 3 = sym c.allowed.ensures ∙ same c.allowed.result 3 holds in
    let number = field_of (word_at w set.word) set.at set.bits in
    let below : number < 2 = rw bits (small (word_at w set.word) set.at 1) in
    ap (λ a. has a number) allowed ∙ of_three number below

pub returns-in-2 : goal.returns-in-2
unfolding is_in
returns-in-2 c holds w =
    let set = c.args.self.now in
    let bits : set.bits ≡ 2 = sym c.size.ensures.value ∙ c.in-2.is in
    let allowed : set.allowed ≡ 15 = sym c.allowed-in-2.ensures ∙ same c.allowed-in-2.result 15 holds in
    let number = field_of (word_at w set.word) set.at set.bits in
    let below : number < 4 = rw bits (small (word_at w set.word) set.at 2) in
    ap (λ a. has a number) allowed ∙ of_fifteen number below
