-- The entry at the place that is found has it; where none is found none has it.
use Rattle.std.proofs.Common.{List, refl, subst, sym}
use Rattle.mg_model.specs.Entries.{Entry, IsCovered}
use Rattle.configuration.specs.Config.{configuration_of}
use Rattle.closure.proofs.CoverLemmas.{place_covers}
use Rattle.closure.proofs.lookup.Lookup.finds.Goals as goal

pub returns-in-Some-clause-covered : goal.returns-in-Some-clause-covered
returns-in-Some-clause-covered c =
    let config = configuration_of c.args.config.now in (
      λ yes. subst (λ (entries : List Entry). IsCovered entries config) c.self.view_is
          (place_covers c.self.inside.cert.now config c.in-Some.place c.in-Some.ensures.has),
      λ covered. refl,
    )

pub returns-in-None-clause-covered : goal.returns-in-None-clause-covered
returns-in-None-clause-covered c =
    let config = configuration_of c.args.config.now in (
      λ bad. absurd (cc),
      λ covered. absurd (c.in-None.ensures.none (subst (λ (entries : List Entry). IsCovered entries config) (sym c.self.view_is) covered)),
    )
