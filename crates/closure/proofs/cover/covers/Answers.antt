-- What isn't well formed is in no entry; of the rest it is told where a place is found.
use Rattle.std.proofs.Common.{◌∙◌, ◌↔◌, Bool, IsTrue, sym, subst}
use Rattle.mg_model.specs.Entries.{IsCovered}
use Rattle.configuration.specs.Config.{configuration_of}
use Rattle.closure.proofs.CoverLemmas.{found_covers}
use Rattle.closure.proofs.cover.covers.Goals as goal

pub returns-then-not-is_well_formed : goal.returns-then-not-is_well_formed
returns-then-not-is_well_formed c = (
  λ bad. absurd (cc),
  λ covered. sym c.if-not-is_well_formed.true ∙ c.is_well_formed.ensures.1 covered.1.1.1,
)

pub place_of-requires : goal.place_of-requires
place_of-requires c = record { formed = c.is_well_formed.ensures.0 c.if-not-is_well_formed.false }

pub returns : goal.returns
returns c =
    let entries = c.args.cert.now in
    let config = configuration_of c.args.config.now in
    subst (λ (b : Bool). IsTrue b ↔ IsCovered entries config) (sym c.is_some.ensures)
    (found_covers entries config c.place_of.result c.place_of.ensures.has c.place_of.ensures.none)
