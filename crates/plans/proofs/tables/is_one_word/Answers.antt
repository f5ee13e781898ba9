-- What has no space is one word.
use Rattle.std.proofs.Common.{◌≡◌, ◌∙◌, sym}
use Rattle.plans.proofs.OneWord.{one_word}
use Rattle.plans.proofs.tables.is_one_word.Goals as goal

pub returns : goal.returns
returns c e = one_word c.args.text.now (sym c.has_no_space.ensures ∙ e)
