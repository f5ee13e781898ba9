-- Which names are bound in the hull of some configurations. No public clause speaks of these words.
use Rattle.std.specs.Prelude.{◌≡◌, ℕ, ◌<◌, ◌-◌, nat_lt, Bool, true, false, not, if◌then◌else◌, List}
use Rattle.mg_model.specs.declared.commands.Termination.{Termination}
use Rattle.mg_model.specs.declared.commands.Termination.TheVariants.{Line, Ephemeral}
use Rattle.mg_model.specs.declared.components.Spot.{Spot}
use Rattle.mg_model.specs.Configuration.{Configuration, IsWellFormed, is_free, is_present, with_of}
use Rattle.mg_model.specs.Entries.{Entry}
use Rattle.mg_model.specs.Script.{Script}
use Rattle.mg_model.specs.Updates.{with_at}
use Rattle.closure.specs.Hulls.{AreOthersKept, IsInHull}

-- a value for which something holds or not, as for another one, or else that
abbrev pub as_other : {A : Type 0} → Bool → Bool → A → A → A
as_other true true own other = own
as_other true false own other = other
as_other false true own other = other
as_other false false own other = own

abbrev pub is_context_bound : Configuration → ℕ → Bool
is_context_bound c j = not (is_free (c.context j))

abbrev pub is_ephemeral_bound : Configuration → ℕ → Bool
is_ephemeral_bound c k = is_present (c.spot (Ephemeral k))

-- a configuration in which the same names are bound as in another one: what stands for the others it has from there
abbrev pub named_as : Configuration → Configuration → Configuration
named_as one d = record d {
  context = λ j. as_other (is_context_bound d j) (is_context_bound one j) (d.context j) (one.context j);
  spot = named_spot;
}
  where
    named_spot : Termination → Spot
    named_spot (Line i) = d.spot (Line i)
    named_spot (Ephemeral k) = as_other (is_ephemeral_bound d k) (is_ephemeral_bound one k) (d.spot (Ephemeral k)) (one.spot (Ephemeral k))

-- the same at one slot alone, of another one
abbrev pub named_at : Configuration → Configuration → ℕ → Configuration → Configuration
named_at one d n c = record c {
  context = with_at c.context n ((named_as one d).context n);
  spot = with_of c.spot (Ephemeral n) ((named_as one d).spot (Ephemeral n));
}

-- of eight names whether one is bound: first the contexts', then the ephemerals'
abbrev pub is_number_bound : Configuration → ℕ → Bool
is_number_bound c n = if nat_lt n 4 then is_context_bound c n else is_ephemeral_bound c (n - 4)

-- the first few names are bound in both, or in neither
abbrev pub AreNamedBelow : ℕ → Configuration → Configuration → Type 0
AreNamedBelow n one c = (m : ℕ) → m < n → is_number_bound c m ≡ is_number_bound one m

-- the obligations but that of joined lines hold of all in the hull of some, well formed, and have the first few names bound as one has
abbrev pub AreNamedKept : Script → List Entry → List Configuration → ℕ → Configuration → Type 0
AreNamedKept script entries some n one =
    (c : Configuration) → IsInHull some c → AreNamedBelow n one c → IsWellFormed c → AreOthersKept script entries c
