-- The point that a fault names: a number of an entry of the certificate, whose configuration is well formed.
use Rattle.std.specs.Prelude.{◌≡◌, ℕ, List, Some, slice_get}
use Rattle.mg_model.specs.declared.faults.Fault.{Fault}
use Rattle.mg_model.specs.Configuration.{Configuration}
use Rattle.mg_model.specs.Entries.{Entry, IsPointOf}

pub record IsLocated (entries : List Entry) (fault : Fault) (place number : ℕ) (c : Configuration) : Type 0 where
  pub entry : Entry
  pub entry_named : fault.entry ≡ Some place
  pub point_named : fault.point ≡ Some number
  pub at_place : slice_get entries place ≡ Some entry
  pub is_point : IsPointOf entry number c
