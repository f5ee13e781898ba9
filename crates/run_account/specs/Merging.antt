-- The parts of histories that are cut at their restarts, and what is left of each from a place on, as they are merged association by association. A
-- reader should check that a history that is used up has empty parts only. This profile's own.
use Rattle.std.specs.Prelude.{◌≡◌, ℕ, suc, List, [], ◌∷◌, ◌++◌, drop, map, slice_index_or}
use Rattle.mg_model.specs.declared.events.Event.{Event}
use Rattle.mg_model.specs.Shards.{cut_at_restarts, merged, together}

-- ---- the whole

-- one history of several: association by association, in each one history after the other, and one restart between two
abbrev pub one_history : (histories : List (List Event)) → (restarts : ℕ) → List Event
one_history histories restarts = merged (map cut_at_restarts histories) restarts

-- ---- parts

-- the events of a history in the association with this place: none, where it wasn't restarted so often
abbrev pub part_at : List Event → ℕ → List Event
part_at history association = slice_index_or (cut_at_restarts history) association []

-- the events of all histories in the association with this place, one history after the other
abbrev pub parts_at : List (List Event) → ℕ → List Event
parts_at histories association = together (map cut_at_restarts histories) association

-- what is left of each history from its own place on
abbrev pub left_from : (places : List ℕ) → List (List Event) → List (List Event)
left_from places [] = []
left_from [] (history ∷ more) = []
left_from (place ∷ places) (history ∷ more) = drop place history ∷ left_from places more

-- ---- what is pushed

-- the first part of a history is pushed behind what was there before, and `rest` of it has the later ones
pub record IsPartPushed (before history events rest : List Event) : Type 0 where
  pub first : events ≡ before ++ part_at history 0
  pub later : (association : ℕ) → part_at rest association ≡ part_at history (suc association)

-- the same of the first parts of all
pub record ArePartsPushed (before : List Event) (histories : List (List Event)) (events : List Event) (rests : List (List Event)) : Type 0 where
  pub first : events ≡ before ++ parts_at histories 0
  pub later : (association : ℕ) → parts_at rests association ≡ parts_at histories (suc association)
