-- The word agrees in one field more.
use Rattle.std.proofs.Common.{◌-◌, ◌∙◌, subst, sym}
use Rattle.std.proofs.lemmas.Nat.{one_shl}
use Rattle.configuration.specs.Fields.{IsPut}
use Rattle.configuration.proofs.AgreementLemmas.{narrowed_word}
use Rattle.entry_table.proofs.fixed_bits.FixedBits.fix.Goals as goal

pub returns-clause-fixed : goal.returns-clause-fixed
returns-clause-fixed c word =
    let base = c.args.self.now.base in
    let mask = c.args.self.now.mask in
    let at = c.args.at in
    let bits = c.args.bits in
    let ones = subst (λ v. IsPut c.put-self-2.result mask at bits (v - 1)) (one_shl bits 64 c.requires.size) c.put-self-2.ensures in
    narrowed_word word base mask c.put-self.result c.put-self-2.result at bits c.args.number c.put-self.ensures ones
    (sym c.field.ensures.value ∙ c.if-field-ne0.false)
