-- The two tables of four have what is bound, which is nothing past the fourth.
use Rattle.std.proofs.Common.{◌≡◌, ◌∙◌, None, is_some, false, length, slice_index_or, ap, arith, rules}
use Rattle.mg_model.proofs.Built.{same_names}
use Rattle.agent.specs.Parts.{agent_in}
use Rattle.agent.proofs.Fours.{four_of, past_four}
use Rattle.agent.proofs.bindings.Bindings.names.Goals as goal

pub returns : goal.returns
unfolding agent_in
returns c =
    let b = c.args.self.now in
    let contexts : length b.contexts ≡ 4 = search rules in
    let ephemerals : length b.ephemerals ≡ 4 = search rules in
    same_names _ _
    (c.new.ensures.contexts ∙ four_of (λ j. is_some (slice_index_or b.contexts j None)) false _ _ _ _
    c.is_some.ensures c.is_some-2.ensures c.is_some-3.ensures c.is_some-4.ensures
    (λ j past. ap is_some (past_four b.contexts j None (omega arith) past)))
    (c.new.ensures.ephemerals ∙ four_of (λ k. is_some (slice_index_or b.ephemerals k None)) false _ _ _ _
    c.is_some-5.ensures c.is_some-6.ensures c.is_some-7.ensures c.is_some-8.ensures
    (λ k past. ap is_some (past_four b.ephemerals k None (omega arith) past)))
