-- The search for a path of media on a board: at which ephemerals media has arrived, and where it can arrive next. A reader should
-- check that what the search may go over is a list of crossings that arrives at none of the ephemerals where media has been.
use Rattle.std.specs.Prelude.{◌≡◌, ℕ, Bool, true, not, ◌&&◌, if◌then◌else◌, IsTrue, List, [], ◌∷◌, Option, Some, None, ◌⊎◌}
use Rattle.mg_names.specs.declared.identifiers.TermId.{TermId}
use Rattle.mg_names.specs.declared.identifiers.TermId.TheVariants.{Line, Eph}
use Rattle.mg_model.specs.Board.{Board, exists, remote_of}
use Rattle.mg_model.specs.Members.{is_among}
use Rattle.mg_model.specs.Media.{hops, crosses, goes_over}
use Rattle.contexts.specs.declared.trail.Trail.{Trail, Start, After'}

-- the ephemerals of a trail, the last one first
abbrev pub arrived : Trail → List ℕ
arrived Start = []
arrived (After' i p before) = i ∷ arrived before

-- different ephemerals that exist
abbrev pub is_trail : Board → List ℕ → Bool
is_trail b [] = true
is_trail b (i ∷ before) = not (is_among before i) && exists b (Eph i) && is_trail b before

-- whether no crossing arrives at an ephemeral of the trail
abbrev pub avoids : List ℕ → List (ℕ × ℕ) → Bool
avoids trail [] = true
avoids trail (crossing ∷ more) = not (is_among trail crossing.1) && avoids trail more

-- media goes from the one to the other without arriving at an ephemeral of the trail
abbrev pub Leads : Board → List ℕ → TermId → TermId → Type 0
Leads b trail from to = (crossings : List (ℕ × ℕ)) × IsTrue (avoids trail crossings) × IsTrue (goes_over b from crossings to)

-- where media crosses from an ephemeral, if it has not arrived there before
abbrev pub crossed : Board → List ℕ → ℕ → Option ℕ → Option ℕ
crossed b trail e None = None
crossed b trail e (Some i) = if crosses b e i && not (is_among trail i) then Some i else None

-- where media arrives next by way of a termination
abbrev pub arrival : Board → List ℕ → TermId → TermId → Option ℕ
arrival b trail from (Line l) = None
arrival b trail from (Eph e) = if hops b from (Eph e) then crossed b trail e (remote_of b (Eph e)) else None

-- media goes on by way of a termination
abbrev pub LeadsBy : Board → List ℕ → TermId → TermId → TermId → Type 0
LeadsBy b trail from to t = (i : ℕ) × (arrival b trail from t ≡ Some i) × Leads b (i ∷ trail) (Eph i) to

-- media goes on by way of one of these
abbrev pub LeadsByOne : Board → List ℕ → TermId → TermId → List TermId → Type 0
LeadsByOne b trail from to [] = ⊥
LeadsByOne b trail from to (t ∷ group) = LeadsBy b trail from to t ⊎ LeadsByOne b trail from to group
