-- What a board keeps beside the rows, by context: its members, and the pairs of terminations between which media is cut. A reader
-- should check that a context without members is not kept, and that a pair is cut the way in which it is listed.
use Rattle.std.specs.Prelude.{ℕ, nat_eq, Bool, not, ◌&&◌, ◌||◌, if◌then◌else◌, List, [], ◌∷◌, ◌++◌, map, Option, Some, None, option_map, filter, Vec}
use Rattle.std.specs.List.{list_any}
use Rattle.std.specs.Map.{lookup}
use Rattle.mg_names.specs.declared.identifiers.TermId.{TermId}
use Rattle.mg_model.specs.Board.{same_term}
use Rattle.identifiers.specs.Stock.{Stock, at}
use Rattle.contexts.specs.declared.cuts.Cut.{Cut}

module _ {X Z : Type 0} where
  abbrev pub items_in : Option (Vec X Z) → Option (List X)
  items_in None = None
  items_in (Some listed) = Some listed.items

  -- the list under the number of a context
  abbrev pub members_at : Stock (Vec X Z) → ℕ → Option (List X)
  members_at members c = items_in (at members c)

  -- the lists as a board shows them
  abbrev pub items_of : Stock (Vec X Z) → Stock (List X)
  items_of members = record { slots = map (option_map (option_map (λ (v : Vec X Z). v.items))) members.slots; vacant = members.vacant; class = members.class }

  -- the list at a context
  abbrev pub group_at : List (ℕ × Vec X Z) → ℕ → Option (List X)
  group_at groups c = items_in (lookup (nat_eq c) groups)

-- a context that isn't kept has nothing
abbrev pub listed : {X : Type 0} → Option (List X) → List X
listed None = []
listed (Some xs) = xs

-- a context is kept only with something in it
abbrev pub kept : {X : Type 0} → List X → Option (List X)
kept [] = None
kept (x ∷ xs) = Some (x ∷ xs)

-- ---- members

abbrev pub has_member : Option (List TermId) → TermId → Bool
has_member members t = list_any (same_term t) (listed members)

abbrev pub with_member : TermId → Option (List TermId) → Option (List TermId)
with_member t members = Some (listed members ++ t ∷ [])

abbrev pub without_member : TermId → Option (List TermId) → Option (List TermId)
without_member t None = None
without_member t (Some members) = kept (filter (λ u. not (same_term u t)) members)

-- ---- cuts

abbrev pub is_of : TermId → TermId → Cut → Bool
is_of t u cut = same_term cut.source t && same_term cut.sink u

abbrev pub has_cut : Option (List Cut) → TermId → TermId → Bool
has_cut cuts t u = list_any (is_of t u) (listed cuts)

abbrev pub is_between : TermId → TermId → Cut → Bool
is_between t u cut = is_of t u cut || is_of u t cut

-- whether a cut is one of a termination's pairs
abbrev pub touches : TermId → Cut → Bool
touches t cut = same_term cut.source t || same_term cut.sink t

abbrev pub cut_if : Bool → TermId → TermId → List Cut → List Cut
cut_if wanted t u cuts = if wanted then cuts ++ record { source = t; sink = u } ∷ [] else cuts

-- what is cut between two terminations is set anew, both ways
abbrev pub set_between : TermId → TermId → Bool → Bool → List Cut → List Cut
set_between t u forward backward cuts =
    cut_if backward u t (cut_if forward t u (filter (λ cut. not (is_between t u cut)) cuts))

abbrev pub without_cuts_of : TermId → Option (List Cut) → Option (List Cut)
without_cuts_of t None = None
without_cuts_of t (Some cuts) = kept (filter (λ cut. not (touches t cut)) cuts)
