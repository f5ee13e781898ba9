-- One bit.
use Rattle.std.proofs.Common.{◌≡◌, ℕ, ◌+◌, ◌*◌, ◌==◌, not, ap, sym, ◌∙◌}
use Rattle.configuration.specs.Bits.{has}
use Rattle.configuration.specs.Fields.{field_of}
use Rattle.configuration.proofs.config.paths.Ways.lead.Goals as goal

bit_read : (n r p : ℕ) → n ≡ field_of r p 1 → not (n == 0) ≡ has r p
unfolding has
bit_read n r p e = ap (λ m. not (m == 0)) e

pub returns : goal.returns
returns c config ways =
    let value : c.field.result ≡ field_of c.args.self.now (8 * c.args.from + c.args.to) 1 = rw (c.lines.ensures, c.index.ensures.value, c.index-2.ensures.value) at c.field.ensures.value in
    let bit = bit_read c.field.result c.args.self.now (8 * c.args.from + c.args.to) value in
    let both = ways c.args.from c.args.to c.index.ensures.in_range c.index-2.ensures.in_range in
    (λ holds. both.0 (sym bit ∙ holds), λ way. bit ∙ both.1 way)
