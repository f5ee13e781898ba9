-- Two configurations are equal where their components are.
use Rattle.std.proofs.Common.{◌≡◌, ℕ}
use Rattle.mg_model.specs.declared.commands.Termination.{Termination}
use Rattle.mg_model.specs.Configuration.{Configuration}

-- the components of two configurations are equal, each at each place
pub record SameComponents (c d : Configuration) : Type 0 where
  pub state : c.state ≡ d.state
  pub link : c.link ≡ d.link
  pub spot : (t : Termination) → c.spot t ≡ d.spot t
  pub mode : (t : Termination) → c.mode t ≡ d.mode t
  pub events : (i : ℕ) → c.events i ≡ d.events i
  pub plays : (i : ℕ) → c.plays i ≡ d.plays i
  pub context : (j : ℕ) → c.context j ≡ d.context j
  pub remote : (k : ℕ) → c.remote k ≡ d.remote k
  pub cut : (t u : Termination) → c.cut t u ≡ d.cut t u

pub same_configurations : (c d : Configuration) → SameComponents c d → c ≡ d
same_configurations c d h = λ i. record {
  state = h.state i;
  link = h.link i;
  spot = λ t. h.spot t i;
  mode = λ t. h.mode t i;
  events = λ n. h.events n i;
  plays = λ n. h.plays n i;
  context = λ j. h.context j i;
  remote = λ k. h.remote k i;
  cut = λ t u. h.cut t u i;
}
