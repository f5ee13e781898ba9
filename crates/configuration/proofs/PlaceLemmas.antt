-- What a write at the place of one termination does to what is read at the places of all.
use Rattle.std.proofs.Common.{◌≡◌, ◌<◌, ◌≢◌, Bool, true, false, List, length, slice_index_or, slice_set, arith, refl}
use Rattle.std.proofs.lemmas.Grind.{common_steps}
use Rattle.std.specs.Prelude.{if◌then◌else◌}
use Rattle.mg_model.specs.declared.commands.Termination.{Termination}
use Rattle.mg_model.specs.declared.commands.Termination.TheVariants.{Line, Ephemeral}
use Rattle.mg_model.specs.Configuration.{is_same}
use Rattle.configuration.specs.Places.{index_of}

-- two terminations with places have one place exactly where they are one
pub index_of-same : (s t : Termination) → index_of s < 8 → is_same t s ≡ true → index_of t ≡ index_of s
index_of-same (Line i) (Line j) h e = grind (arith, common_steps)
index_of-same (Line i) (Ephemeral j) h e = grind (arith, common_steps)
index_of-same (Ephemeral i) (Line j) h e = grind (arith, common_steps)
index_of-same (Ephemeral i) (Ephemeral j) h e = grind (arith, common_steps)

pub index_of-other : (s t : Termination) → index_of s < 8 → is_same t s ≡ false → index_of t ≢ index_of s
index_of-other (Line i) (Line j) h e = grind (arith, common_steps)
index_of-other (Line i) (Ephemeral j) h e = grind (arith, common_steps)
index_of-other (Ephemeral i) (Line j) h e = grind (arith, common_steps)
index_of-other (Ephemeral i) (Ephemeral j) h e = grind (arith, common_steps)

-- a write at the place of s is seen at s, and nowhere else
pub lookup-set : {A : Type 0} (xs : List A) (d v : A) (s t : Termination) → length xs ≡ 8 → index_of s < 8 →
    slice_index_or (slice_set xs (index_of s) v) (index_of t) d ≡ (if is_same t s then v else slice_index_or xs (index_of t) d)
lookup-set xs d v s t n h = by_test (is_same t s) refl
  where
    by_test : (b : Bool) → is_same t s ≡ b → slice_index_or (slice_set xs (index_of s) v) (index_of t) d ≡ (if b then v else slice_index_or xs (index_of t) d)
    by_test true e = let p = index_of-same s t h e in grind (arith, common_steps)
    by_test false e = let p = index_of-other s t h e in grind (arith, common_steps)
