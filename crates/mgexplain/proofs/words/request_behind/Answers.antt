-- The words behind those that name files are the same, whether their bytes are taken before or after these are dropped.
use Rattle.std.proofs.Common.{arith, string_bytes}
use Rattle.std.proofs.lemmas.List.{drop-map}
use Rattle.mgexplain.proofs.words.request_behind.Goals as goal

pub returns : goal.returns
returns c =
    grind (
      arith,
      c.request_with.ensures,
      c.file_count-files.ensures.count,
      c.read_behind.ensures,
      drop-map string_bytes c.file_count-files.result c.args.words.now,
    )
