-- The words that are left have as many names of files as all have behind those that were passed.
use Rattle.std.proofs.Common.{◌≡◌, ◌+◌, map, drop, string_bytes}
use Rattle.mgexplain.specs.Files.{file_count}
use Rattle.mgexplain.proofs.words.file_count.Given as goal

abbrev pub invariant-loop-count : goal.invariant-loop-count
invariant-loop-count l =
    file_count (map string_bytes l.words) ≡ l.count + file_count (map string_bytes (drop l.count l.words))
