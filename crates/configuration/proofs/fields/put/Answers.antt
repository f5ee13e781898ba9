-- What is turned are the bits of the field that differ.
use Rattle.std.proofs.Common.{◌∙◌, ◌^◌, ap}
use Rattle.std.proofs.lemmas.Nat.{mod_below, pow_pos}
use Rattle.std.specs.Int.RustNames.{bit_xor}
use Rattle.configuration.specs.Fields.{field_of}
use Rattle.configuration.proofs.FieldLemmas.{turned, unturned, put_here, field_above, field_below}
use Rattle.configuration.proofs.fields.put.Goals as goal

pub returns : goal.returns
returns c = record {
  here =
      ap (λ d. field_of (bit_xor c.args.word d) c.args.at c.args.bits) (turned _ c.args.at c.args.bits c.requires.size c.requires.within)
      ∙ put_here c.args.word c.args.at c.args.bits c.args.value c.requires.size c.requires.within c.requires.small;
  below = λ i n w.
      ap (λ d. field_of (bit_xor c.args.word d) i n) (turned _ c.args.at c.args.bits c.requires.size c.requires.within)
      ∙ unturned c.args.word _ i n (field_below _ c.args.at i n w);
  above = λ i n w.
      ap (λ d. field_of (bit_xor c.args.word d) i n) (turned _ c.args.at c.args.bits c.requires.size c.requires.within)
      ∙ unturned c.args.word _ i n (field_above _ c.args.at c.args.bits i n (mod_below _ (2 ^ c.args.bits) (pow_pos c.args.bits)) w);
}
