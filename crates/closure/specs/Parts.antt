-- Parts of a hull: what is in it has a value of a component that the component allows, or one that it doesn't. No public clause speaks of these words.
use Rattle.std.specs.Prelude.{◌≡◌, ◌⊎◌, ◌↔◌, IsTrue, Bool, true, false, not, List, Contains}
use Rattle.mg_model.specs.Configuration.{Configuration}
use Rattle.configuration.specs.Config.{configuration_of}
use Rattle.configuration.specs.Packed.{Words, IsPacked}
use Rattle.configuration.specs.Regions.{ValueSet, is_in}
use Rattle.mg_model.specs.Entries.{Component, Allows, links, spots, modes, events, plays, contexts, remotes, cuts, link_choice, spot_choice, mode_choice, events_choice, plays_choice, context_choice, remote_choice, cut_choice}

-- a configuration with another one's value of a component
abbrev pub with_component_of : Component → Configuration → Configuration → Configuration
with_component_of (links values) like d = link_choice like.link d
with_component_of (spots t values) like d = spot_choice t (like.spot t) d
with_component_of (modes t values) like d = mode_choice t (like.mode t) d
with_component_of (events i values) like d = events_choice i (like.events i) d
with_component_of (plays i values) like d = plays_choice i (like.plays i) d
with_component_of (contexts j values) like d = context_choice j (like.context j) d
with_component_of (remotes k values) like d = remote_choice k (like.remote k) d
with_component_of (cuts t u values) like d = cut_choice t u (like.cut t u) d

-- a component allows a configuration, or doesn't
abbrev pub IsAllowed : Component → Bool → Configuration → Type 0
IsAllowed component true d = Allows d component
IsAllowed component false d = Allows d component → ⊥

-- a set has the component's values
abbrev pub IsSetOf : ValueSet → Component → Type 0
IsSetOf set component = (w : Words) → IsPacked w → IsTrue (is_in set w) ↔ Allows (configuration_of w) component

-- what a part has for a configuration: it itself, if the component allows it as it is to, or else it with another one's value of the component
abbrev pub IsPart : Component → Bool → Configuration → Configuration → Configuration → Type 0
IsPart component allowed like d e =
    (IsAllowed component allowed d × (e ≡ d)) ⊎ (IsAllowed component (not allowed) d × (e ≡ with_component_of component like d))

-- these others have that for each of these
abbrev pub HasPart : Component → Bool → Configuration → List Configuration → List Configuration → Type 0
HasPart component allowed like some made =
    (d : Configuration) → Contains some d → (e : Configuration) × (Contains made e × IsPart component allowed like d e)
