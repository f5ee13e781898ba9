-- A configuration more is asked; at the end, all were.
use Rattle.std.proofs.Common.{◌∙◌, ◌&&◌, ◌+◌, List, drop, ap, sym}
use Rattle.std.specs.List.{list_all}
use Rattle.std.proofs.lemmas.List.{drop_all}
use Rattle.configuration.specs.Bits.{has}
use Rattle.configuration.specs.Packed.{Words}
use Rattle.configuration.proofs.BitLemmas.{has_none}
use Rattle.entry_table.specs.Sieves.{passes_all}
use Rattle.entry_table.proofs.SieveLemmas.{all_of_it, nothing, one_more_asked}
use Rattle.entry_table.proofs.group.Group.left_of_each.Goals as goal

pub loop-config-preserved : goal.loop-config-preserved
loop-config-preserved c member below =
    one_more_asked (passes_all c.args.self.now member) c.args.configs.now c.loop-config.config-index c.config-item.result (has c.loop-config.left member)
    (has c.left_of-left.result member) c.loop-config-test.true c.config-item.is (c.left_of-left.ensures member below)
    ∙ c.loop-config.invariant member below

pub returns-then-left-eq0 : goal.returns-then-left-eq0
returns-then-left-eq0 c member below =
    let rest = list_all (passes_all c.args.self.now member) (drop (c.loop-config.config-index + 1) c.args.configs.now) in
    nothing (has 0 member) rest (has_none member) ∙ ap (λ row. has row member && rest) (sym c.if-left-eq0.true)
    ∙ one_more_asked (passes_all c.args.self.now member) c.args.configs.now c.loop-config.config-index c.config-item.result (has c.loop-config.left member)
    (has c.left_of-left.result member) c.loop-config-test.true c.config-item.is (c.left_of-left.ensures member below)
    ∙ c.loop-config.invariant member below

pub returns : goal.returns
returns c member below =
    let configs = c.args.configs.now in
    let test = passes_all c.args.self.now member in
    all_of_it (has c.loop-config.left member) (list_all test (drop c.loop-config.config-index configs))
    (ap (λ (ws : List Words). list_all test ws) (drop_all c.loop-config.config-index configs c.loop-config-test.false))
    ∙ c.loop-config.invariant member below
