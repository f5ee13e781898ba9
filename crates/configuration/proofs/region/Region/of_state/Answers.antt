-- The two parts of the state's number.
use Rattle.std.proofs.Common.{ap, ◌∙◌, arith}
use Rattle.configuration.specs.Fields.{field_of}
use Rattle.configuration.specs.Packed.{Words}
use Rattle.configuration.proofs.RegionLemmas.{all_within, state_within}
use Rattle.configuration.proofs.region.Region.of_state.Goals as goal
use Rattle.configuration.proofs.UnusedLemmas.{zero_field}

pub fix-requires-clause-free : goal.fix-requires-clause-free
fix-requires-clause-free c = ap (λ (w : Words). field_of w.lines 0 6) c.none-2.ensures ∙ zero_field 0 6

pub fix-requires-2-clause-free : goal.fix-requires-2-clause-free
fix-requires-2-clause-free c =
    c.fix.ensures.mask 60 2 (omega arith) ∙ ap (λ (w : Words). field_of w.lines 60 2) c.none-2.ensures ∙ zero_field 60 2

pub returns : goal.returns
returns c w p =
    state_within w c.args.state c.from.result c.from-2.result _ _ _
    (all_within w c.none.result c.none-2.result c.new.result.items c.none.ensures c.none-2.ensures c.new.ensures.items)
    c.from.ensures c.from-2.ensures (c.fix.ensures.within w) (c.fix-2.ensures.within w)
