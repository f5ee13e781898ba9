-- A fault that is passed on: a bad key of a part is a bad key of the whole.
use Rattle.std.proofs.Common.{◌≡◌, Option, None}
use Rattle.typed_values.specs.Shape.{Misses}
use Rattle.typed_values.specs.declared.missing.Missing.{Missing}
use Rattle.typed_values.specs.declared.missing.Missing.TheVariants.{Nothing, Memory}

pub bad_key_passes : {Y Y' : Type 0} (unread : Missing) (part : Option Y) (whole : Option Y')
    → (part ≡ None → whole ≡ None) → Misses unread part → Misses unread whole
bad_key_passes Nothing part whole passes h = passes h
bad_key_passes Memory part whole passes h = h
