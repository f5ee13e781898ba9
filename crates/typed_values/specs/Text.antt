-- The tree of a TOML text. A reader should check that the bytes are UTF-8.
use Rattle.std.specs.Prelude.{◌≡◌, ℕ, List, Some}
use Rattle.std.specs.Str.{IsUtf8}
use Rattle.toml.specs.Data.{Members}
use Rattle.toml.specs.Parse.{parse_document}

-- the bytes are a TOML text of this tree
abbrev pub IsText : List ℕ → Members → Type 0
IsText bytes tree = IsUtf8 bytes × (parse_document bytes ≡ Some tree)
