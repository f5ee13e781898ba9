-- By the answer of reading.
use Rattle.digits.proofs.Refusals.{parsed, refused}
use Rattle.digits.proofs.map.DigitMap.parse.Goals as goal

pub returns : goal.returns
returns c = record {
  first_fault = c.parsed.ensures;
  in_grammar = parsed c.args.text.now c.parsed.result c.parsed.ensures;
  refused = refused c.args.text.now c.parsed.result c.parsed.ensures;
}
