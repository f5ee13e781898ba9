-- The next name is bound alike in each, or in some not.
use Rattle.std.proofs.Common.{◌≡◌, false, map, subst, arith, rules}
use Rattle.mg_model.specs.Configuration.{Configuration}
use Rattle.configuration.specs.Config.{configuration_of}
use Rattle.configuration.specs.Packed.{Words}
use Rattle.closure.specs.Naming.{is_number_bound}
use Rattle.closure.proofs.HullLemmas.{each_passed}
use Rattle.closure.proofs.NamedHulls.{either_way, one_way}
use Rattle.closure.proofs.kept_block.+are_named_kept.Goals as goal

pub returns-in_default : goal.returns-in_default
returns-in_default t c holds =
    one_way c.args.script.now c.args.cert.now (map configuration_of c.args.hull.now) c.args.number (configuration_of c.args.one.now)
    (omega (arith, c.if-number-ge8.false))
    (each_passed _ _ false (λ (d : Configuration). is_number_bound d c.args.number ≡ is_number_bound (configuration_of c.args.one.now) c.args.number)
    c.args.hull.now c.in_default.ensures.none (λ x e. search rules)) (c.are_named_kept.ensures c.if-not-are_named_kept.false)

pub returns : goal.returns
returns t c holds =
    let unlike = c.in-Some.ensures.some.1 in
    either_way c.args.script.now c.args.cert.now (map configuration_of c.args.hull.now) c.args.number (configuration_of c.args.one.now)
    (omega (arith, c.if-number-ge8.false)) (configuration_of c.in-Some.unlike) (configuration_of c.with_name_of-other.result)
    (subst (λ (w : Words). is_number_bound (configuration_of w) c.args.number ≡ is_number_bound (configuration_of c.args.one.now) c.args.number → ⊥) unlike.shows
    (let e = unlike.says.met in λ same. search rules))
    c.with_name_of-other.ensures (c.are_named_kept.ensures c.if-not-are_named_kept.false) (c.are_named_kept-2.ensures holds)
