-- Four turns are the settling of every context name: a name past the fourth is free.
use Rattle.std.proofs.Common.{◌≡◌, ℕ, slice_index_or, refl, ap, ◌∙◌}
use Rattle.configuration.specs.Config.{configuration_of}
use Rattle.closure.specs.Elementwise.{settled_at}
use Rattle.closure.proofs.SettleLemmas.{settled_all}
use Rattle.closure.proofs.effects.settling.settle.Goals as goal

pub returns : goal.returns
returns c =
    let start = configuration_of c.args.config.now in
    let first : slice_index_or c.all-slots.result 0 c.index-slots-0.result ≡ 0 = rw c.all-slots.ensures refl in
    let second : slice_index_or c.all-slots.result 1 c.index-slots-1.result ≡ 1 = rw c.all-slots.ensures refl in
    let third : slice_index_or c.all-slots.result 2 c.index-slots-2.result ≡ 2 = rw c.all-slots.ensures refl in
    let fourth : slice_index_or c.all-slots.result 3 c.index-slots-3.result ≡ 3 = rw c.all-slots.ensures refl in
    let one : configuration_of c.settle_one.new.config ≡ settled_at start 0 =
    c.settle_one.ensures.settled ∙ ap (λ (j : ℕ). settled_at start j) first in
    let two : configuration_of c.settle_one-2.new.config ≡ settled_at (settled_at start 0) 1 =
    c.settle_one-2.ensures.settled ∙ rw (one, second) in
    let three : configuration_of c.settle_one-3.new.config ≡ settled_at (settled_at (settled_at start 0) 1) 2 =
    c.settle_one-3.ensures.settled ∙ rw (two, third) in
    let four : configuration_of c.settle_one-4.new.config ≡ settled_at (settled_at (settled_at (settled_at start 0) 1) 2) 3 =
    c.settle_one-4.ensures.settled ∙ rw (three, fourth) in
    four ∙ settled_all start c.settle_one.ensures.slots
