-- The two words agree under the mask.
use Rattle.std.proofs.Common.{◌≡◌, ℕ, nat_eq, IsTrue, arith}
use Rattle.std.proofs.lemmas.Grind.{common_steps}
use Rattle.configuration.proofs.StandingLemmas.{contexts_right, contexts_masked}
use Rattle.configuration.proofs.well_formed.are_contexts_right.Goals as goal

is_zero : (n : ℕ) → IsTrue (nat_eq n 0) → n ≡ 0
is_zero n h = grind (arith, common_steps)

zero_is : (n : ℕ) → n ≡ 0 → IsTrue (nat_eq n 0)
zero_is n h = grind (arith, common_steps)

pub returns : goal.returns
returns c = rw c.lines_word.ensures.value (
  λ same. contexts_right c.args.config.now c.standing.result c.lines_word.ensures.packed.lines c.standing.ensures (is_zero _ same),
  λ right. zero_is _ (contexts_masked c.args.config.now c.standing.result c.lines_word.ensures.packed.lines c.standing.ensures right),
)
