-- Entries that have a configuration: of one point, or another entry's configurations with it. A reader should compare the order of a script's
-- components, and the limit of an entry's points, with the page on formats.
use Rattle.std.specs.Prelude.{◌≡◌, ◌⊎◌, ◌+◌, ◌*◌, ◌<◌, ◌++◌, ℕ, not, List, [], ◌∷◌, length, map, filter, take, Option, Some, None, slice_get}
use Rattle.std.specs.List.{All, flat_map}
use Rattle.mg_model.specs.declared.commands.Termination.{Termination}
use Rattle.mg_model.specs.declared.commands.Termination.TheVariants.{Line, Ephemeral}
use Rattle.mg_model.specs.Script.{Script}
use Rattle.mg_model.specs.Configuration.{Configuration, is_same}
use Rattle.mg_model.specs.Entries.{Component, links, spots, modes, events, plays, contexts, remotes, cuts}
use Rattle.mg_model.specs.Entries.{Entry, Allows, Includes, choices_of, size_of}
use Rattle.entry_table.specs.declared.component.Component as declared
use Rattle.entry_table.specs.Shown.{shown_all}
use Rattle.explanation.specs.Nearest.{IsNearest}

-- the one has all configurations of the other
abbrev pub HasAllOf : Entry → Entry → Type 0
HasAllOf wide entry = (c : Configuration) → Includes entry c → Includes wide c

-- the entry has the configuration, and no other point; or it has what the entry at a place has, too
abbrev pub IsMended : List Entry → Configuration → Option ℕ → Entry → Type 0
IsMended entries c None mended = Includes mended c × (size_of mended.components ≡ 1)
IsMended entries c (Some place) mended =
    Includes mended c × ((entry : Entry) × ((slice_get entries place ≡ Some entry) × HasAllOf mended entry))

-- ---- the components that a script has

-- a component without its values
abbrev pub bare : Component → Component
bare (links values) = links []
bare (spots t values) = spots t []
bare (modes t values) = modes t []
bare (events i values) = events i []
bare (plays i values) = plays i []
bare (contexts j values) = contexts j []
bare (remotes k values) = remotes k []
bare (cuts t u values) = cuts t u []

-- the places of so many names: of each kind a script has four at most
abbrev pub places : ℕ → List ℕ
places count = take count (0 ∷ 1 ∷ 2 ∷ 3 ∷ [])

abbrev pub line_components : ℕ → List Component
line_components i = spots (Line i) [] ∷ modes (Line i) [] ∷ events i [] ∷ plays i [] ∷ []

abbrev pub context_component : ℕ → Component
context_component j = contexts j []

abbrev pub ephemeral_components : ℕ → List Component
ephemeral_components k = spots (Ephemeral k) [] ∷ modes (Ephemeral k) [] ∷ remotes k [] ∷ []

-- lines before ephemerals
abbrev pub terminations_of : Script → List Termination
terminations_of script =
    map (λ i. Line i) (places (length script.lines)) ++ map (λ k. Ephemeral k) (places (length script.ephemerals))

-- the pairs of a termination with each other one
abbrev pub cut_components : List Termination → Termination → List Component
cut_components all source = map (λ sink. cuts source sink []) (filter (λ sink. not (is_same source sink)) all)

-- link; for each line at, mode, events, plays; each context; for each ephemeral at, mode, remote; each ordered pair of different terminations
abbrev pub bare_components : Script → List Component
bare_components script = links [] ∷ flat_map line_components (places (length script.lines))
    ++ map context_component (places (length script.contexts))
    ++ flat_map ephemeral_components (places (length script.ephemerals))
    ++ flat_map (cut_components (terminations_of script)) (terminations_of script)

-- ---- how many points components have with a configuration's values added

-- an entry may have so many points
abbrev pub most_points : ℕ
most_points = 65536

abbrev pub count_of : Component → ℕ
count_of component = length (choices_of component)

-- with the configuration's value among its own the component has so many: as many as it has where that is one of them, else one more
abbrev pub IsWidened : Configuration → Component → ℕ → Type 0
IsWidened c component count =
    (Allows c component × (count ≡ count_of component))
    ⊎ ((Allows c component → ⊥) × (count ≡ count_of component + 1))

-- with the configuration's value among those of each the components have so many points
abbrev pub AreWidened : Configuration → List Component → ℕ → Type 0
AreWidened c [] size = size ≡ 1
AreWidened c (component ∷ more) size =
    (count : ℕ) × ((rest : ℕ) × (IsWidened c component count × (AreWidened c more rest × (size ≡ count * rest))))

-- these are more points than an entry may have
abbrev pub AreTooWide : Configuration → List Component → Type 0
AreTooWide c components = (size : ℕ) × (AreWidened c components size × (most_points < size))

-- where the nearest entry lacks one component's value alone, it would have too many with that one added
abbrev pub NoneWidens : List Entry → Configuration → Type 0
NoneWidens entries c =
    (place : ℕ) (entry : Entry) → slice_get entries place ≡ Some entry → IsNearest entries c place 1 → AreTooWide c entry.components

-- ---- no public clause speaks of the words below

-- the component's one value is the configuration's
abbrev pub IsOnly : Configuration → Component → Type 0
IsOnly c component = Allows c component × (length (choices_of component) ≡ 1)

abbrev pub AreOnly : Configuration → List Component → Type 0
AreOnly c components = All (IsOnly c) components

-- what the one component allows, the other does
abbrev pub Keeps : Component → Component → Type 0
Keeps component wide = (c : Configuration) → Allows c component → Allows c wide

abbrev pub KeepAll : List Component → List Component → Type 0
KeepAll components wide = (c : Configuration) → All (Allows c) components → All (Allows c) wide

-- the code's components without their values
abbrev pub bare_all : List declared.Component → List Component
bare_all components = map bare (shown_all components)
