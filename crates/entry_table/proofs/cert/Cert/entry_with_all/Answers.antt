-- The entry at the place that is found.
use Rattle.std.proofs.lemmas.Option.{slice_get_within}
use Rattle.entry_table.proofs.WithAllLemmas.{allows_here, contained_at, first_here, none_anywhere}
use Rattle.entry_table.proofs.cert.Cert.entry_with_all.Goals as goal

pub entry_at-requires : goal.entry_at-requires
entry_at-requires c =
    let has = c.in-Some.ensures.has in
    slice_get_within c.args.self.now c.in-Some.place has.0 has.1.0

pub returns-in-Some-clause-has : goal.returns-in-Some-clause-has
returns-in-Some-clause-has c = contained_at c.args.self.now c.in-Some.place c.entry_at.result.now c.entry_at.ensures

pub returns-in-Some-clause-allows : goal.returns-in-Some-clause-allows
returns-in-Some-clause-allows c =
    allows_here c.args.self.now c.args.state c.args.configs.now c.in-Some.place c.entry_at.result.now c.entry_at.ensures c.in-Some.ensures.has

pub returns-in-Some-clause-first : goal.returns-in-Some-clause-first
returns-in-Some-clause-first c =
    first_here c.args.self.now c.args.state c.args.configs.now c.in-Some.place c.entry_at.result.now c.entry_at.ensures c.in-Some.ensures.has
    c.in-Some.ensures.first

pub returns-in-None-clause-none : goal.returns-in-None-clause-none
returns-in-None-clause-none c = none_anywhere c.args.self.now c.args.state c.args.configs.now c.in-None.ensures.none
