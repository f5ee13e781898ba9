-- The three words agree in one field more.
use Rattle.std.proofs.Common.{◌≡◌, ◌-◌, ◌&&◌, ◌==◌, subst, sym, ap, ◌∙◌}
use Rattle.std.proofs.lemmas.Nat.{one_shl}
use Rattle.configuration.specs.Fields.{field_of, IsPut}
use Rattle.configuration.specs.Regions.{Region, word_at, is_within}
use Rattle.configuration.proofs.RegionLemmas.{narrowed, fixed}
use Rattle.configuration.proofs.region.Region.fix.Goals as goal

pub returns-clause-within : goal.returns-clause-within
returns-clause-within c w =
    let ones = subst
    (λ v. IsPut (word_at c.put-2.new.self c.args.word) (word_at c.self.inside.mask c.args.word) c.args.at c.args.bits (v - 1))
    (one_shl c.args.bits 64 c.requires.size) c.put-2.ensures.here in
    let free = subst (λ (r : Region). field_of (word_at r.mask c.args.word) c.args.at c.args.bits ≡ 0)
    (sym c.self.view_is) c.requires.free in
    fixed w c.self.inside.base c.self.inside.mask c.put.new.self c.put-2.new.self _ _
    (narrowed w c.self.inside.base c.self.inside.mask c.put.new.self c.put-2.new.self c.args.word c.args.at c.args.bits c.args.number
    c.put.ensures.here c.put.ensures.others ones c.put-2.ensures.others free)
    ∙ ap (λ (r : Region). is_within r w && field_of (word_at w c.args.word) c.args.at c.args.bits == c.args.number) c.self.view_is
