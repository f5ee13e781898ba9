-- What is read past the slots of a script.
use Rattle.std.proofs.Common.{◌≡◌, ℕ, ◌≤◌, ◌<◌, nat_lt, Bool, true, false, refl, arith}
use Rattle.std.specs.Prelude.{if◌then◌else◌}
use Rattle.std.proofs.lemmas.Grind.{common_steps}
use Rattle.mg_names.specs.declared.modes.Mode.TheVariants.{Inactive}
use Rattle.mg_names.specs.declared.context_values.ContextValue.TheVariants.{Free}
use Rattle.mg_model.specs.declared.commands.Termination.TheVariants.{Line, Ephemeral}
use Rattle.mg_model.specs.declared.components.Remote.TheVariants.{Unset}
use Rattle.configuration.specs.Packed.{Words}
use Rattle.configuration.specs.Places.{index_of, AbsentPastEight, NoCutsPastEight}
use Rattle.configuration.specs.Config.{configuration_of}

-- past the fourth, what stands for nothing
pub past_four : {A : Type 0} (i : ℕ) (v d : A) → 4 ≤ i → (if nat_lt i 4 then v else d) ≡ d
past_four i v d h = let past : nat_lt i 4 ≡ false = grind (arith, common_steps) in rw past refl

pub free_past_four : (words : Words) (j : ℕ) → 4 ≤ j → (configuration_of words).context j ≡ Free
unfolding configuration_of
free_past_four words j h = past_four j _ Free h

pub inactive_past_four : (words : Words) (k : ℕ) → 4 ≤ k → (configuration_of words).mode (Ephemeral k) ≡ Inactive
unfolding configuration_of
inactive_past_four words k h = past_four k _ Inactive h

pub unset_past_four : (words : Words) (k : ℕ) → 4 ≤ k → (configuration_of words).remote k ≡ Unset
unfolding configuration_of
unset_past_four words k h = past_four k _ Unset h

-- a termination that has no place is absent
pub absent_past_eight : (words : Words) → AbsentPastEight (configuration_of words)
unfolding configuration_of
absent_past_eight words (Line i) h = past_four i _ _ (four_lines (nat_lt i 4) refl h)
  where
    four_lines : (b : Bool) → nat_lt i 4 ≡ b → 8 ≤ (if b then i else 8) → 4 ≤ i
    four_lines true e h = omega arith
    four_lines false e h = grind (arith, common_steps)
absent_past_eight words (Ephemeral k) h = past_four k _ _ (omega arith)

-- nothing is cut of a termination that has no place
pub no_cuts : (words : Words) → NoCutsPastEight (configuration_of words)
unfolding configuration_of
no_cuts words t u h = (by_first (nat_lt (index_of t) 8) refl, by_second (nat_lt (index_of u) 8) refl)
  where
    by_first : (b : Bool) → nat_lt (index_of t) 8 ≡ b → index_of t < 8
    by_first true e = grind (arith, common_steps)
    by_first false e = grind (arith, common_steps)

    by_second : (b : Bool) → nat_lt (index_of u) 8 ≡ b → index_of u < 8
    by_second true e = grind (arith, common_steps)
    by_second false e = grind (arith, common_steps)
