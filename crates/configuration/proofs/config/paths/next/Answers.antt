-- The ephemerals stand after the lines.
use Rattle.std.proofs.Common.{◌≡◌, ◌+◌, ◌||◌, Bool, true, false, ap, ◌∙◌, refl, arith}
use Rattle.configuration.specs.Bits.{has}
use Rattle.configuration.specs.Search.{reaches}
use Rattle.configuration.proofs.BitLemmas.{has_or, has_below, has_shifted}
use Rattle.configuration.proofs.SearchLemmas.{more_or, same_crossings}
use Rattle.configuration.proofs.config.paths.next.Goals as goal

or_false : (b : Bool) → (b || false) ≡ b
or_false true = refl
or_false false = refl

pub returns-clause-lines : goal.returns-clause-lines
returns-clause-lines c t h =
    has_or c.args.mask _ t ∙ ap (λ b. has c.args.mask t || b) (has_below c.crossed.result 4 t h (omega arith)) ∙ or_false (has c.args.mask t)

pub returns-clause-ephemerals : goal.returns-clause-ephemerals
returns-clause-ephemerals c k h =
    has_or c.args.mask _ (4 + k)
    ∙ ap (λ b. has c.args.mask (4 + k) || b) (has_shifted c.crossed.result 4 k (omega arith) ∙ c.crossed.ensures.value k h
    ∙ same_crossings c.args.crossings k (λ e. has c.reached-reached.result (4 + e)) (λ e. reaches c.args.rows c.args.mask (4 + e))
    (c.reached-reached.ensures 4 (omega arith)) (c.reached-reached.ensures 5 (omega arith)) (c.reached-reached.ensures 6 (omega arith)) (c.reached-reached.ensures 7 (omega arith)))

pub returns-clause-more : goal.returns-clause-more
returns-clause-more c = more_or c.args.mask _
