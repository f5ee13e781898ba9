-- What a write of one field of the lines' word makes of the configuration that is shown.
use Rattle.std.proofs.Common.{◌≡◌, ℕ, ◌+◌, ◌*◌, ◌<◌, Bool, false, refl, ap, ap₂, arith}
use Rattle.mg_names.specs.declared.modes.Mode.{Mode}
use Rattle.mg_names.specs.declared.modes.Mode.TheVariants.{Inactive}
use Rattle.mg_names.specs.declared.context_values.ContextValue.{ContextValue}
use Rattle.mg_names.specs.declared.context_values.ContextValue.TheVariants.{Free}
use Rattle.mg_model.specs.declared.commands.EventsName.{EventsName}
use Rattle.mg_model.specs.declared.commands.EventsName.TheVariants.{Empty}
use Rattle.mg_model.specs.declared.commands.Termination.{Termination}
use Rattle.mg_model.specs.declared.commands.Termination.TheVariants.{Line, Ephemeral}
use Rattle.mg_model.specs.declared.components.Spot.{Spot}
use Rattle.mg_model.specs.declared.components.Spot.TheVariants.{Absent}
use Rattle.mg_model.specs.Configuration.{with_of}
use Rattle.mg_model.specs.Updates.{with_at}
use Rattle.mg_model.proofs.ConfigurationLemmas.{same_configurations}
use Rattle.configuration.specs.Fields.{field_of, IsPut}
use Rattle.configuration.specs.Codes.{link_at, mode_at, context_at, flag_at, events_at, line_spot_at}
use Rattle.configuration.specs.Packed.{Words}
use Rattle.configuration.specs.Config.{configuration_of, spot_in, mode_in}
use Rattle.configuration.proofs.PutLemmas.{AreApart, kept, component_at, component_kept}

pub state_kept : {new old at bits value : ℕ} → IsPut new old at bits value → AreApart 0 6 at bits → AreApart 60 2 at bits →
    (field_of new 0 6 + 64 * field_of new 60 2) ≡ (field_of old 0 6 + 64 * field_of old 60 2)
state_kept p low high = ap₂ (λ a b. a + 64 * b) (kept p 0 6 low) (kept p 60 2 high)

pub spots_kept : (w : Words) (new at bits value : ℕ) → IsPut new w.lines at bits value →
    ((i : ℕ) → i < 4 → AreApart (8 + 11 * i) 3 at bits) → (t : Termination) → spot_in (record w { lines = new }) t ≡ spot_in w t
spots_kept w new at bits value p apart (Line i) = component_kept line_spot_at Absent p i (8 + 11 * i) 3 (apart i)
spots_kept w new at bits value p apart (Ephemeral k) = refl

pub modes_kept : (w : Words) (new at bits value : ℕ) → IsPut new w.lines at bits value →
    ((i : ℕ) → i < 4 → AreApart (8 + 11 * i + 3) 2 at bits) → (t : Termination) → mode_in (record w { lines = new }) t ≡ mode_in w t
modes_kept w new at bits value p apart (Line i) = component_kept mode_at Inactive p i (8 + 11 * i + 3) 2 (apart i)
modes_kept w new at bits value p apart (Ephemeral k) = refl

pub line_spot-set : (w : Words) (new i value : ℕ) (spot : Spot) → i < 4 → IsPut new w.lines (8 + 11 * i) 3 value →
    line_spot_at value ≡ spot →
    configuration_of (record w { lines = new })
    ≡ record (configuration_of w) { spot = with_of (configuration_of w).spot (Line i) spot }
unfolding configuration_of
line_spot-set w new i value spot h p e = same_configurations _ _ record {
  state = state_kept p (λ a b. omega arith) (λ a b. omega arith);
  link = ap link_at (kept p 6 2 (λ a b. omega arith));
  spot = spots;
  mode = modes_kept w new _ _ value p (λ j l a b. omega arith);
  events = λ j. component_kept events_at Empty p j (8 + 11 * j + 5) 5 (λ l a b. omega arith);
  plays = λ j. component_kept flag_at false p j (8 + 11 * j + 10) 1 (λ l a b. omega arith);
  context = λ j. component_kept context_at Free p j (52 + 2 * j) 2 (λ l a b. omega arith);
  remote = λ k. refl;
  cut = λ t u. refl;
}
  where
    spots : (t : Termination) → spot_in (record w { lines = new }) t ≡ with_of (spot_in w) (Line i) spot t
    spots (Line j) = component_at line_spot_at Absent spot (λ k. 8 + 11 * k) i h p e j (λ l other a b. omega arith)
    spots (Ephemeral k) = refl

pub line_mode-set : (w : Words) (new i value : ℕ) (mode : Mode) → i < 4 → IsPut new w.lines (8 + 11 * i + 3) 2 value →
    mode_at value ≡ mode →
    configuration_of (record w { lines = new })
    ≡ record (configuration_of w) { mode = with_of (configuration_of w).mode (Line i) mode }
unfolding configuration_of
line_mode-set w new i value mode h p e = same_configurations _ _ record {
  state = state_kept p (λ a b. omega arith) (λ a b. omega arith);
  link = ap link_at (kept p 6 2 (λ a b. omega arith));
  spot = spots_kept w new _ _ value p (λ j l a b. omega arith);
  mode = modes;
  events = λ j. component_kept events_at Empty p j (8 + 11 * j + 5) 5 (λ l a b. omega arith);
  plays = λ j. component_kept flag_at false p j (8 + 11 * j + 10) 1 (λ l a b. omega arith);
  context = λ j. component_kept context_at Free p j (52 + 2 * j) 2 (λ l a b. omega arith);
  remote = λ k. refl;
  cut = λ t u. refl;
}
  where
    modes : (t : Termination) → mode_in (record w { lines = new }) t ≡ with_of (mode_in w) (Line i) mode t
    modes (Line j) = component_at mode_at Inactive mode (λ k. 8 + 11 * k + 3) i h p e j (λ l other a b. omega arith)
    modes (Ephemeral k) = refl

pub events-set : (w : Words) (new i value : ℕ) (events : EventsName) → i < 4 → IsPut new w.lines (8 + 11 * i + 5) 5 value →
    events_at value ≡ events →
    configuration_of (record w { lines = new })
    ≡ record (configuration_of w) { events = with_at (configuration_of w).events i events }
unfolding configuration_of
events-set w new i value events h p e = same_configurations _ _ record {
  state = state_kept p (λ a b. omega arith) (λ a b. omega arith);
  link = ap link_at (kept p 6 2 (λ a b. omega arith));
  spot = spots_kept w new _ _ value p (λ j l a b. omega arith);
  mode = modes_kept w new _ _ value p (λ j l a b. omega arith);
  events = λ j. component_at events_at Empty events (λ k. 8 + 11 * k + 5) i h p e j (λ l other a b. omega arith);
  plays = λ j. component_kept flag_at false p j (8 + 11 * j + 10) 1 (λ l a b. omega arith);
  context = λ j. component_kept context_at Free p j (52 + 2 * j) 2 (λ l a b. omega arith);
  remote = λ k. refl;
  cut = λ t u. refl;
}

pub plays-set : (w : Words) (new i value : ℕ) (plays : Bool) → i < 4 → IsPut new w.lines (8 + 11 * i + 10) 1 value →
    flag_at value ≡ plays →
    configuration_of (record w { lines = new })
    ≡ record (configuration_of w) { plays = with_at (configuration_of w).plays i plays }
unfolding configuration_of
plays-set w new i value plays h p e = same_configurations _ _ record {
  state = state_kept p (λ a b. omega arith) (λ a b. omega arith);
  link = ap link_at (kept p 6 2 (λ a b. omega arith));
  spot = spots_kept w new _ _ value p (λ j l a b. omega arith);
  mode = modes_kept w new _ _ value p (λ j l a b. omega arith);
  events = λ j. component_kept events_at Empty p j (8 + 11 * j + 5) 5 (λ l a b. omega arith);
  plays = λ j. component_at flag_at false plays (λ k. 8 + 11 * k + 10) i h p e j (λ l other a b. omega arith);
  context = λ j. component_kept context_at Free p j (52 + 2 * j) 2 (λ l a b. omega arith);
  remote = λ k. refl;
  cut = λ t u. refl;
}

pub context-set : (w : Words) (new i value : ℕ) (context : ContextValue) → i < 4 → IsPut new w.lines (52 + 2 * i) 2 value →
    context_at value ≡ context →
    configuration_of (record w { lines = new })
    ≡ record (configuration_of w) { context = with_at (configuration_of w).context i context }
unfolding configuration_of
context-set w new i value context h p e = same_configurations _ _ record {
  state = state_kept p (λ a b. omega arith) (λ a b. omega arith);
  link = ap link_at (kept p 6 2 (λ a b. omega arith));
  spot = spots_kept w new _ _ value p (λ j l a b. omega arith);
  mode = modes_kept w new _ _ value p (λ j l a b. omega arith);
  events = λ j. component_kept events_at Empty p j (8 + 11 * j + 5) 5 (λ l a b. omega arith);
  plays = λ j. component_kept flag_at false p j (8 + 11 * j + 10) 1 (λ l a b. omega arith);
  context = λ j. component_at context_at Free context (λ k. 52 + 2 * k) i h p e j (λ l other a b. omega arith);
  remote = λ k. refl;
  cut = λ t u. refl;
}
