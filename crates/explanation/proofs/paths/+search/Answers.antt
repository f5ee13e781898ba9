-- The ephemeral leads nowhere; at the end none of the four does.
use Rattle.std.proofs.Common.{◌≡◌, ◌∙◌, ◌<◌, ◌≤◌, ◌-◌, ℕ, List, sym, ap, arith}
use Rattle.std.specs.List.{slice_index_or}
use Rattle.configuration.specs.Config.{configuration_of}
use Rattle.configuration.proofs.PathLemmas.{slot_at}
use Rattle.configuration.proofs.SlotLemmas.{absent_past_eight}
use Rattle.explanation.proofs.Ways.{nowhere, over_more}
use Rattle.explanation.proofs.paths.+search.Goals as goal

pub path_within-loop-ephemeral-preserved : goal.path_within-loop-ephemeral-preserved
path_within-loop-ephemeral-preserved t c =
    let place : ℕ = c.loop-ephemeral.ephemeral-index in
    let item : ℕ = c.ephemeral-item.result in
    let k : ℕ = slice_index_or c.all-slots.result place item in
    let below : place < 4 = c.loop-ephemeral-test.true in
    let here : k ≡ place = ap (λ (xs : List ℕ). slice_index_or xs place item) c.all-slots.ensures ∙ slot_at place item below in
    over_more (configuration_of c.args.config.now) c.args.from.now c.args.to place k (c.args.left - 1) here c.loop-ephemeral.invariant
    (rw c.in_default.is at c.in_ok-path.ensures.none)

pub path_within-returns-clause-none : goal.path_within-returns-clause-none
path_within-returns-clause-none t c =
    let past : 4 ≤ c.loop-ephemeral.ephemeral-index = c.loop-ephemeral-test.false in
    nowhere (configuration_of c.args.config.now) c.args.from.now c.args.to c.args.left (absent_past_eight c.args.config.now)
    (sym c.hops.ensures ∙ c.if-hops.false) (λ n below. c.loop-ephemeral.invariant n (omega (arith, below, past)))
