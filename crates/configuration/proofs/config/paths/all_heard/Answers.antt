-- Each byte is that of its line.
use Rattle.std.proofs.Common.{◌≡◌, ◌∙◌, ℕ, slice_index_or, refl, subst, arith}
use Rattle.configuration.proofs.WayLemmas.{AreHeard, four_ways}
use Rattle.configuration.proofs.config.paths.all_heard.Goals as goal

pub returns : goal.returns
returns c config rows crossings small =
    let third = c.put-third.ensures in
    let first : slice_index_or c.all-slots.result 0 c.index-slots-0.result ≡ 0 = rw c.all-slots.ensures refl in
    let second : slice_index_or c.all-slots.result 1 c.index-slots-1.result ≡ 1 = rw c.all-slots.ensures refl in
    let other : slice_index_or c.all-slots.result 2 c.index-slots-2.result ≡ 2 = rw c.all-slots.ensures refl in
    let last : slice_index_or c.all-slots.result 3 c.index-slots-3.result ≡ 3 = rw c.all-slots.ensures refl in
    four_ways config c.put.result c.heard.result c.heard-2.result c.heard-3.result c.heard-4.result
    (c.put.ensures.below 0 8 (omega arith) ∙ third.below 0 8 (omega arith) ∙ c.put-second.ensures.below 0 8 (omega arith) ∙ c.put-first.ensures.here)
    (c.put.ensures.below 8 8 (omega arith) ∙ third.below 8 8 (omega arith) ∙ c.put-second.ensures.here)
    (c.put.ensures.below 16 8 (omega arith) ∙ third.here)
    c.put.ensures.here
    (subst (λ (i : ℕ). AreHeard config i c.heard.result) first (c.heard.ensures.lines config rows crossings small))
    (subst (λ (i : ℕ). AreHeard config i c.heard-2.result) second (c.heard-2.ensures.lines config rows crossings small))
    (subst (λ (i : ℕ). AreHeard config i c.heard-3.result) other (c.heard-3.ensures.lines config rows crossings small))
    (subst (λ (i : ℕ). AreHeard config i c.heard-4.result) last (c.heard-4.ensures.lines config rows crossings small))
