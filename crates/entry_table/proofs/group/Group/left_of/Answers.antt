-- None has what each wants of single bits, or the sieves tell.
use Rattle.std.proofs.Common.{◌≡◌, ◌∙◌, ◌&&◌, Bool, true, false, ap, refl, sym}
use Rattle.configuration.specs.Bits.{has}
use Rattle.configuration.proofs.BitLemmas.{has_none}
use Rattle.entry_table.specs.Sieves.{Group, is_like, passes_sieves}
use Rattle.entry_table.proofs.group.Group.left_of.Goals as goal

none_of : (a p : Bool) → false ≡ (a && (false && p))
none_of true p = refl
none_of false p = refl

pub returns-then-not-has : goal.returns-then-not-has
returns-then-not-has c member below =
    let w = c.args.config.now in
    let group = c.args.self.now in
    let a = has c.args.members member in
    let p = passes_sieves group.sieves member w in
    let unlike = ap (λ (g : Group). is_like g.alike w) (sym c.self.view_is) ∙ sym c.has.ensures ∙ c.if-not-has.true in
    has_none member ∙ none_of a p ∙ ap (λ b. a && (b && p)) (sym unlike)

pub returns : goal.returns
returns c member below =
    let w = c.args.config.now in
    let group = c.args.self.now in
    let a = has c.args.members member in
    let p = passes_sieves group.sieves member w in
    let like = ap (λ (g : Group). is_like g.alike w) (sym c.self.view_is) ∙ sym c.has.ensures ∙ c.if-not-has.false in
    c.left_by_sieves.ensures member below ∙ ap (λ b. a && (b && p)) (sym like)
