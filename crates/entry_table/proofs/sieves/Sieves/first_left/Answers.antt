-- One configuration is asked of all.
use Rattle.entry_table.proofs.LeftLemmas.{first_for_one, none_for_one}
use Rattle.entry_table.proofs.sieves.Sieves.first_left.Goals as goal

pub returns-clause-first : goal.returns-clause-first
returns-clause-first c =
    first_for_one c.args.self.now c.args.config.now c.from_ref.result.now c.first_left_of_all.result c.from_ref.ensures.value c.first_left_of_all.ensures.first

pub returns-clause-none : goal.returns-clause-none
returns-clause-none c =
    none_for_one c.args.self.now c.args.config.now c.from_ref.result.now c.first_left_of_all.result c.from_ref.ensures.value c.first_left_of_all.ensures.none
