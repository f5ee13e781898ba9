-- `get_one` reads the number of workers.
use Rattle.std.proofs.Common.{◌∙◌, ap, codes}
use Rattle.std.specs.Option.{option_map_or}
use Rattle.std.specs.Str.Parse.{ParsesUnsigned, ExplainsUnsignedError, HasUnsignedDigitsIfOk}
use Rattle.clap.specs.Words.{found_of, one_text}
use Rattle.clap.proofs.WalkLemmas.{one_text-rows}
use Rattle.program_rim.specs.Words.{word_or_zero}
use Rattle.program_rim.proofs.Command.{workers_read}
use Rattle.program_rim.proofs.words.workers_in.Goals as goal

pub returns : goal.returns
returns c =
    let found = found_of c.args.matches.now in
    c.unwrap_or.ensures
    ∙ workers_read (λ bs r. ParsesUnsigned 16 10 bs r × ExplainsUnsignedError 10 bs r × HasUnsignedDigitsIfOk bs r) (λ t r h. h.0) (one_text found (codes "workers")) c.get_one.result c.get_one.ensures.none c.get_one.ensures.value
    ∙ ap (λ o. option_map_or word_or_zero o 0) (one_text-rows found (codes "workers"))
