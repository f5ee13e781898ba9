-- What is left of the state's entries for each allows each, and only that.
use Rattle.entry_table.proofs.LeftForEach.{each_left_within, each_left_allows, first_allows, none_allows, none_of_other_state}
use Rattle.entry_table.proofs.cert.Cert.place_with_all.Goals as goal

pub returns-then-not-are_of_state-clause-none : goal.returns-then-not-are_of_state-clause-none
returns-then-not-are_of_state-clause-none c =
    none_of_other_state c.args.self.now c.args.state c.args.configs.now (c.are_of_state.ensures.others c.if-not-are_of_state.true)

pub place_at-requires : goal.place_at-requires
place_at-requires c =
    each_left_within c.args.self.now c.sieves_of.result.now c.args.state c.args.configs.now (c.are_of_state.ensures.packed c.if-not-are_of_state.false)
    c.sieves_of.ensures c.in-Some.number c.in-Some.ensures.first.left

pub returns-in-Some-clause-has : goal.returns-in-Some-clause-has
returns-in-Some-clause-has c =
    each_left_allows c.args.self.now c.sieves_of.result.now c.args.state c.args.configs.now (c.are_of_state.ensures.packed c.if-not-are_of_state.false)
    c.sieves_of.ensures (c.are_of_state.ensures.state c.if-not-are_of_state.false) c.in-Some.number c.place_at.result c.in-Some.ensures.first.left
    c.place_at.ensures

pub returns-in-Some-clause-first : goal.returns-in-Some-clause-first
returns-in-Some-clause-first c =
    first_allows c.args.self.now c.sieves_of.result.now c.args.state c.args.configs.now (c.are_of_state.ensures.packed c.if-not-are_of_state.false)
    c.sieves_of.ensures c.in-Some.number c.place_at.result c.in-Some.ensures.first c.place_at.ensures

pub returns-in-None-clause-none : goal.returns-in-None-clause-none
returns-in-None-clause-none c =
    none_allows c.args.self.now c.sieves_of.result.now c.args.state c.args.configs.now (c.are_of_state.ensures.packed c.if-not-are_of_state.false)
    c.sieves_of.ensures c.in-None.ensures.none
