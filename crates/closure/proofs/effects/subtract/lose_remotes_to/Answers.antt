-- Four turns are the loss of every Remote: an ephemeral past the fourth has none.
use Rattle.std.proofs.Common.{◌≡◌, ℕ, slice_index_or, refl, ap, ◌∙◌}
use Rattle.configuration.specs.Config.{configuration_of}
use Rattle.closure.specs.Elementwise.{lost_at}
use Rattle.closure.proofs.SubtractLemmas.{lost_all}
use Rattle.closure.proofs.effects.subtract.lose_remotes_to.Goals as goal

pub returns : goal.returns
returns c =
    let start = configuration_of c.args.config.now in
    let k = c.args.ephemeral in
    let first : slice_index_or c.all-slots.result 0 c.index-slots-0.result ≡ 0 = rw c.all-slots.ensures refl in
    let second : slice_index_or c.all-slots.result 1 c.index-slots-1.result ≡ 1 = rw c.all-slots.ensures refl in
    let third : slice_index_or c.all-slots.result 2 c.index-slots-2.result ≡ 2 = rw c.all-slots.ensures refl in
    let fourth : slice_index_or c.all-slots.result 3 c.index-slots-3.result ≡ 3 = rw c.all-slots.ensures refl in
    let one : configuration_of c.lose_remote.new.config ≡ lost_at k start 0 =
    c.lose_remote.ensures.lost ∙ ap (λ (j : ℕ). lost_at k start j) first in
    let two : configuration_of c.lose_remote-2.new.config ≡ lost_at k (lost_at k start 0) 1 =
    c.lose_remote-2.ensures.lost ∙ rw (one, second) in
    let three : configuration_of c.lose_remote-3.new.config ≡ lost_at k (lost_at k (lost_at k start 0) 1) 2 =
    c.lose_remote-3.ensures.lost ∙ rw (two, third) in
    let four : configuration_of c.lose_remote-4.new.config ≡ lost_at k (lost_at k (lost_at k (lost_at k start 0) 1) 2) 3 =
    c.lose_remote-4.ensures.lost ∙ rw (three, fourth) in
    four ∙ lost_all k start c.lose_remote.ensures.slots
