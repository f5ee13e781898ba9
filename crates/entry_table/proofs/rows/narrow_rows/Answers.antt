-- One row more is narrowed.
use Rattle.std.proofs.Common.{◌∙◌, ◌&&◌, ◌||◌, not, nat_eq, slice_index, ap, arith}
use Rattle.std.proofs.lemmas.Nat.{one_shl}
use Rattle.configuration.specs.Bits.{has}
use Rattle.entry_table.proofs.RowLemmas.{below_32, one_more}
use Rattle.entry_table.proofs.rows.narrow_rows.Goals as goal

pub field-is_allowed-requires-clause-place : goal.field-is_allowed-requires-clause-place
field-is_allowed-requires-clause-place c =
    omega (arith, below_32 c.args.bits c.loop-number.number c.requires.bits c.loop-number-test.true)

pub bounds-rows-number : goal.bounds-rows-number
bounds-rows-number c = below_32 c.args.bits c.loop-number.number c.requires.bits c.loop-number-test.true

pub bounds-rows-number-in-loop-number : goal.bounds-rows-number-in-loop-number
bounds-rows-number-in-loop-number c = below_32 c.args.bits c.loop-number.number c.requires.bits c.loop-number-test.true

pub loop-number-preserved : goal.loop-number-preserved
unfolding has
loop-number-preserved c =
    let rows = c.loop-number.rows in
    let i = c.loop-number.number in
    one_more rows c.args.rows.now c.args.members c.args.allowed i c.narrowed.result (below_32 c.args.bits i c.requires.bits c.loop-number-test.true)
    (λ b below. c.narrowed.ensures b below
    ∙ ap (λ n. has (slice_index rows i) b && (not (has c.args.members b) || not (nat_eq n 0))) c.field-is_allowed.ensures.value)
    c.loop-number.invariant

pub returns : goal.returns
returns c n b below small =
    c.loop-number.invariant.done n b (omega (arith, one_shl c.args.bits 64 (omega (arith, c.requires.bits)), c.loop-number-test.false, below)) small
