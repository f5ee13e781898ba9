-- What some configurations that were entered have. No public clause speaks of these words.
use Rattle.std.specs.Prelude.{◌≡◌, ◌↔◌, ℕ, ⊤, IsTrue, List, Some, slice_get}
use Rattle.mg_names.specs.declared.phases.LinkPhase.TheVariants.{Answered}
use Rattle.mg_model.specs.Script.{Script}
use Rattle.mg_model.specs.Configuration.{Configuration}
use Rattle.call_ways.specs.Crossed.{is_among}
use Rattle.call_ways.specs.Fates.{has, set_at}
use Rattle.call_ways.specs.declared.arrows.Arrow.{Arrow}
use Rattle.call_ways.specs.declared.crossings.Crossing.{Crossing}
use Rattle.call_ways.specs.declared.fates.Fate.{Fate}

-- the one at a place is so; one of them is
abbrev pub IsSoIn : (Configuration → Type 0) → List Configuration → ℕ → Type 0
IsSoIn P configs n = (c : Configuration) × ((slice_get configs n ≡ Some c) × P c)

abbrev pub SomeIsSo : (Configuration → Type 0) → List Configuration → Type 0
SomeIsSo P configs = (n : ℕ) × IsSoIn P configs n

abbrev pub IsAny : Configuration → Type 0
IsAny c = ⊤

-- its request counts as answered as it is entered; it is sent
abbrev pub IsEmpty : Configuration → Type 0
IsEmpty c = c.link ≡ Answered

abbrev pub IsSending : Configuration → Type 0
IsSending c = c.link ≡ Answered → ⊥

-- this is told of an arrow by some configurations
pub record IsTold (script : Script) (arrow : Arrow) (configs : List Configuration) (told : Crossing) : Type 0 where
  pub arrow_is : told.arrow ≡ arrow
  pub any : IsTrue told.entered ↔ SomeIsSo IsAny configs
  pub empty : IsTrue told.empty ↔ SomeIsSo IsEmpty configs
  pub sending : IsTrue told.sending ↔ SomeIsSo IsSending configs
  pub fates : (place : ℕ) (it : Fate) → has (set_at told.fates.items place) it ≡ is_among script configs place it
