-- What a configuration has to share with one that is well formed.
use Rattle.std.proofs.Common.{◌≡◌, ◌∙◌, ℕ, zero, suc, ◌+◌, ◌-◌, ◌*◌, ◌^◌, ◌<◌, nat_lt, Bool, true, false, ◌&&◌, refl, sym, ap, subst, arith, IsTrue, bit_and}
use Rattle.std.specs.Prelude.{if◌then◌else◌}
use Rattle.std.specs.Int.RustNames.{bit_xor}
use Rattle.std.proofs.Math.Path.{fun_ext}
use Rattle.std.proofs.lemmas.Grind.{common_steps}
use Rattle.mg_names.specs.declared.modes.Mode.TheVariants.{Inactive}
use Rattle.mg_names.specs.declared.phases.LinkPhase.TheVariants.{Sent}
use Rattle.mg_names.specs.declared.context_values.ContextValue.TheVariants.{Free}
use Rattle.mg_model.specs.declared.commands.EventsName.TheVariants.{Empty}
use Rattle.mg_model.specs.declared.commands.Termination.{Termination}
use Rattle.mg_model.specs.declared.commands.Termination.TheVariants.{Line, Ephemeral}
use Rattle.mg_model.specs.declared.components.Spot.{Spot}
use Rattle.mg_model.specs.declared.components.Spot.TheVariants.{Absent}
use Rattle.mg_model.specs.declared.components.Remote.TheVariants.{Unset, To}
use Rattle.mg_model.specs.Configuration.{IsWellFormed, is_live, is_in, is_present, stands_in}
use Rattle.mg_model.specs.Steps.{unused}
use Rattle.configuration.specs.Places.{index_of}
use Rattle.configuration.specs.Fields.{field_of}
use Rattle.configuration.specs.Codes.{mode_at, context_at, flag_at, line_spot_at, ephemeral_spot_at, remote_at}
use Rattle.configuration.specs.Packed.{Words, pair_place}
use Rattle.configuration.specs.Config.{configuration_of}
use Rattle.configuration.specs.Tests.{ArePlacedAlike}
use Rattle.configuration.proofs.AgreementLemmas.{agrees_by, same_whole}

-- where nothing is, all is right
pub unused_formed : IsWellFormed (unused 0 0 Sent Empty)
unused_formed = record {
  live = λ j. refl;
  absent_mode = λ k gone. refl;
  absent_remote = λ k gone. refl;
  named = λ k i e. let bad : Unset ≡ To i = e in cc;
  cut_within = λ t u e. let bad : false ≡ true = e in cc;
}

if_same : {A : Type 0} (t : Bool) (x y d : A) → (t ≡ true → x ≡ y) → (if t then x else d) ≡ (if t then y else d)
if_same true x y d h = h refl
if_same false x y d h = refl

below_four : (i : ℕ) → nat_lt i 4 ≡ true → i < 4
below_four i e = grind (arith, common_steps)

-- the mask has the whole field of each line's place
spot_whole : (i : ℕ) → i < 4 → field_of 1148433305662129920 (8 + 11 * i) 3 ≡ 2 ^ 3 - 1
unfolding field_of
spot_whole zero h = refl
spot_whole (suc zero) h = refl
spot_whole (suc (suc zero)) h = refl
spot_whole (suc (suc (suc zero))) h = refl
spot_whole (suc (suc (suc (suc i)))) h = absurd (omega arith)

-- and of each context name
context_whole : (j : ℕ) → j < 4 → field_of 1148433305662129920 (52 + 2 * j) 2 ≡ 2 ^ 2 - 1
unfolding field_of
context_whole zero h = refl
context_whole (suc zero) h = refl
context_whole (suc (suc zero)) h = refl
context_whole (suc (suc (suc zero))) h = refl
context_whole (suc (suc (suc (suc j)))) h = absurd (omega arith)

pub placed_alike : (one other : ℕ) → bit_and (bit_xor one other) 1148433305662129920 ≡ 0 → ArePlacedAlike one other
placed_alike one other none =
    let alike = agrees_by one other 1148433305662129920 none in record {
      spots = λ i h. same_whole one other 1148433305662129920 (8 + 11 * i) 3 alike (spot_whole i h);
      contexts = λ j h. same_whole one other 1148433305662129920 (52 + 2 * j) 2 alike (context_whole j h);
    }

module _ (a b : Words) where
  like_spot : ArePlacedAlike a.lines b.lines → a.ephemerals ≡ b.ephemerals → (t : Termination) → (configuration_of a).spot t ≡ (configuration_of b).spot t
  unfolding configuration_of
  like_spot placed ephemerals (Line i) =
      if_same (nat_lt i 4) (line_spot_at (field_of a.lines (8 + 11 * i) 3)) (line_spot_at (field_of b.lines (8 + 11 * i) 3)) Absent
      (λ e. ap line_spot_at (placed.spots i (below_four i e)))
  like_spot placed ephemerals (Ephemeral k) =
      ap (λ (n : ℕ). if nat_lt k 4 then ephemeral_spot_at (field_of n (8 * k) 3) else Absent) ephemerals

  like_context : ArePlacedAlike a.lines b.lines → (j : ℕ) → (configuration_of a).context j ≡ (configuration_of b).context j
  unfolding configuration_of
  like_context placed j =
      if_same (nat_lt j 4) (context_at (field_of a.lines (52 + 2 * j) 2)) (context_at (field_of b.lines (52 + 2 * j) 2)) Free
      (λ e. ap context_at (placed.contexts j (below_four j e)))

  like_mode : a.ephemerals ≡ b.ephemerals → (k : ℕ) → (configuration_of a).mode (Ephemeral k) ≡ (configuration_of b).mode (Ephemeral k)
  unfolding configuration_of
  like_mode ephemerals k = ap (λ (n : ℕ). if nat_lt k 4 then mode_at (field_of n (8 * k + 3) 2) else Inactive) ephemerals

  like_remote : a.ephemerals ≡ b.ephemerals → (k : ℕ) → (configuration_of a).remote k ≡ (configuration_of b).remote k
  unfolding configuration_of
  like_remote ephemerals k = ap (λ (n : ℕ). if nat_lt k 4 then remote_at (field_of n (8 * k + 5) 3) else Unset) ephemerals

  like_cut : a.cuts ≡ b.cuts → (t u : Termination) → (configuration_of a).cut t u ≡ (configuration_of b).cut t u
  unfolding configuration_of
  like_cut cuts t u =
      ap (λ (n : ℕ). nat_lt (index_of t) 8 && nat_lt (index_of u) 8 && flag_at (field_of n (pair_place (index_of t) (index_of u)) 1)) cuts

  -- whether a configuration is well formed is a matter of places, contexts, ephemerals and cuts
  pub like_formed : ArePlacedAlike a.lines b.lines → a.ephemerals ≡ b.ephemerals → a.cuts ≡ b.cuts
      → IsWellFormed (configuration_of a) → IsWellFormed (configuration_of b)
  like_formed placed ephemerals cuts formed =
      let spot = like_spot placed ephemerals in
      let context = like_context placed in record {
        live = λ j. ap is_live (sym (context j)) ∙ formed.live j ∙ ap (λ (s : Termination → Spot). stands_in s j) (fun_ext spot);
        absent_mode = λ k gone. sym (like_mode ephemerals k) ∙ formed.absent_mode k (spot (Ephemeral k) ∙ gone);
        absent_remote = λ k gone. sym (like_remote ephemerals k) ∙ formed.absent_remote k (spot (Ephemeral k) ∙ gone);
        named = λ k i e. subst (λ (s : Spot). IsTrue (is_present s)) (spot (Ephemeral i)) (formed.named k i (like_remote ephemerals k ∙ e));
        cut_within = λ t u e.
            let within = formed.cut_within t u (like_cut cuts t u ∙ e) in (
              within.0,
              (
                subst (λ (s : Spot). IsTrue (is_in s within.0)) (spot t) within.1.0,
                subst (λ (s : Spot). IsTrue (is_in s within.0)) (spot u) within.1.1,
              ),
            );
      }
