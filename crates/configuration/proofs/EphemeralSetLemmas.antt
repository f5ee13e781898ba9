-- What a write of one field of the ephemerals' word makes of the configuration that is shown.
use Rattle.std.proofs.Common.{◌≡◌, ℕ, ◌+◌, ◌*◌, ◌<◌, refl, arith}
use Rattle.mg_names.specs.declared.modes.Mode.{Mode}
use Rattle.mg_names.specs.declared.modes.Mode.TheVariants.{Inactive}
use Rattle.mg_model.specs.declared.commands.Termination.{Termination}
use Rattle.mg_model.specs.declared.commands.Termination.TheVariants.{Line, Ephemeral}
use Rattle.mg_model.specs.declared.components.Spot.{Spot}
use Rattle.mg_model.specs.declared.components.Spot.TheVariants.{Absent}
use Rattle.mg_model.specs.declared.components.Remote.{Remote}
use Rattle.mg_model.specs.declared.components.Remote.TheVariants.{Unset}
use Rattle.mg_model.specs.Configuration.{with_of}
use Rattle.mg_model.specs.Updates.{with_at}
use Rattle.mg_model.proofs.ConfigurationLemmas.{same_configurations}
use Rattle.configuration.specs.Fields.{IsPut}
use Rattle.configuration.specs.Codes.{mode_at, ephemeral_spot_at, remote_at}
use Rattle.configuration.specs.Packed.{Words}
use Rattle.configuration.specs.Config.{configuration_of, spot_in, mode_in}
use Rattle.configuration.proofs.PutLemmas.{AreApart, component_at, component_kept}

pub spots_kept : (w : Words) (new at bits value : ℕ) → IsPut new w.ephemerals at bits value →
    ((k : ℕ) → k < 4 → AreApart (8 * k) 3 at bits) → (t : Termination) → spot_in (record w { ephemerals = new }) t ≡ spot_in w t
spots_kept w new at bits value p apart (Line i) = refl
spots_kept w new at bits value p apart (Ephemeral k) = component_kept ephemeral_spot_at Absent p k (8 * k) 3 (apart k)

pub modes_kept : (w : Words) (new at bits value : ℕ) → IsPut new w.ephemerals at bits value →
    ((k : ℕ) → k < 4 → AreApart (8 * k + 3) 2 at bits) → (t : Termination) → mode_in (record w { ephemerals = new }) t ≡ mode_in w t
modes_kept w new at bits value p apart (Line i) = refl
modes_kept w new at bits value p apart (Ephemeral k) = component_kept mode_at Inactive p k (8 * k + 3) 2 (apart k)

pub ephemeral_spot-set : (w : Words) (new i value : ℕ) (spot : Spot) → i < 4 → IsPut new w.ephemerals (8 * i) 3 value →
    ephemeral_spot_at value ≡ spot →
    configuration_of (record w { ephemerals = new })
    ≡ record (configuration_of w) { spot = with_of (configuration_of w).spot (Ephemeral i) spot }
unfolding configuration_of
ephemeral_spot-set w new i value spot h p e = same_configurations _ _ record {
  state = refl;
  link = refl;
  spot = spots;
  mode = modes_kept w new _ _ value p (λ j l a b. omega arith);
  events = λ j. refl;
  plays = λ j. refl;
  context = λ j. refl;
  remote = λ k. component_kept remote_at Unset p k (8 * k + 5) 3 (λ l a b. omega arith);
  cut = λ t u. refl;
}
  where
    spots : (t : Termination) → spot_in (record w { ephemerals = new }) t ≡ with_of (spot_in w) (Ephemeral i) spot t
    spots (Line j) = refl
    spots (Ephemeral k) = component_at ephemeral_spot_at Absent spot (λ n. 8 * n) i h p e k (λ l other a b. omega arith)

pub ephemeral_mode-set : (w : Words) (new i value : ℕ) (mode : Mode) → i < 4 → IsPut new w.ephemerals (8 * i + 3) 2 value →
    mode_at value ≡ mode →
    configuration_of (record w { ephemerals = new })
    ≡ record (configuration_of w) { mode = with_of (configuration_of w).mode (Ephemeral i) mode }
unfolding configuration_of
ephemeral_mode-set w new i value mode h p e = same_configurations _ _ record {
  state = refl;
  link = refl;
  spot = spots_kept w new _ _ value p (λ j l a b. omega arith);
  mode = modes;
  events = λ j. refl;
  plays = λ j. refl;
  context = λ j. refl;
  remote = λ k. component_kept remote_at Unset p k (8 * k + 5) 3 (λ l a b. omega arith);
  cut = λ t u. refl;
}
  where
    modes : (t : Termination) → mode_in (record w { ephemerals = new }) t ≡ with_of (mode_in w) (Ephemeral i) mode t
    modes (Line j) = refl
    modes (Ephemeral k) = component_at mode_at Inactive mode (λ n. 8 * n + 3) i h p e k (λ l other a b. omega arith)

pub remote-set : (w : Words) (new i value : ℕ) (remote : Remote) → i < 4 → IsPut new w.ephemerals (8 * i + 5) 3 value →
    remote_at value ≡ remote →
    configuration_of (record w { ephemerals = new })
    ≡ record (configuration_of w) { remote = with_at (configuration_of w).remote i remote }
unfolding configuration_of
remote-set w new i value remote h p e = same_configurations _ _ record {
  state = refl;
  link = refl;
  spot = spots_kept w new _ _ value p (λ j l a b. omega arith);
  mode = modes_kept w new _ _ value p (λ j l a b. omega arith);
  events = λ j. refl;
  plays = λ j. refl;
  context = λ j. refl;
  remote = λ k. component_at remote_at Unset remote (λ n. 8 * n + 5) i h p e k (λ l other a b. omega arith);
  cut = λ t u. refl;
}
