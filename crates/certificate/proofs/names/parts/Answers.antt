-- The first `>` divides the text.
use Rattle.std.proofs.Common.{lit<}
use Rattle.certificate.proofs.Parts.{parts_found}
use Rattle.certificate.proofs.names.parts.Goals as goal

pub returns : goal.returns
returns c = parts_found c.args.text.now c.split_once.result (c.split_once.ensures.byte (lit< tt) (λ w o h. h))
