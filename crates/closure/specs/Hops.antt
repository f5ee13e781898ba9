-- Which ways media may take in the hull of some configurations: each part of a hop and of a crossing is what one of these has, whichever that is.
-- No public clause speaks of these words.
use Rattle.std.specs.Prelude.{◌≡◌, ℕ, ◌==◌, Bool, false, not, ◌&&◌, ◌||◌, List, [], ◌∷◌}
use Rattle.std.specs.List.{list_all, list_any, slice_index_or}
use Rattle.mg_model.specs.declared.commands.Termination.{Termination}
use Rattle.mg_model.specs.declared.commands.Termination.TheVariants.{Line, Ephemeral}
use Rattle.mg_model.specs.Configuration.{is_in, is_same, is_to}
use Rattle.mg_model.specs.Paths.{passes_in, passes_out}
use Rattle.configuration.specs.Config.{configuration_of}
use Rattle.configuration.specs.Packed.{Words}
use Rattle.closure.specs.declared.hull_seen.Seen.{Seen}

-- ---- what is seen of them

unfoldable pub may_stand : List Words → Termination → ℕ → Bool
may_stand words t j = list_any (λ w. is_in ((configuration_of w).spot t) j) words

unfoldable pub may_come_in : List Words → Termination → Bool
may_come_in words t = list_any (λ w. passes_in ((configuration_of w).mode t)) words

unfoldable pub may_go_out : List Words → Termination → Bool
may_go_out words t = list_any (λ w. passes_out ((configuration_of w).mode t)) words

unfoldable pub may_name : List Words → ℕ → ℕ → Bool
may_name words k i = list_any (λ w. is_to ((configuration_of w).remote k) i) words

unfoldable pub may_pass : List Words → Termination → Termination → Bool
may_pass words t u = list_any (λ w. not ((configuration_of w).cut t u)) words

unfoldable pub contexts_of : List Words → Termination → List Bool
contexts_of words t = may_stand words t 0 ∷ may_stand words t 1 ∷ may_stand words t 2 ∷ may_stand words t 3 ∷ []

unfoldable pub seen_of : List Words → Termination → Seen
seen_of words t = record {
  contexts = contexts_of words t;
  comes_in = may_come_in words t;
  goes_out = may_go_out words t;
}

unfoldable pub names_of : List Words → ℕ → List Bool
names_of words k = may_name words k 0 ∷ may_name words k 1 ∷ may_name words k 2 ∷ may_name words k 3 ∷ []

-- this was seen of the lines and of the ephemerals, and these are the Remotes that those may have
pub record AreSeen (words : List Words) (lines ephemerals : List Seen) (names : List (List Bool)) : Type 0 where
  pub of_lines : lines ≡ seen_of words (Line 0) ∷ seen_of words (Line 1) ∷ seen_of words (Line 2) ∷ seen_of words (Line 3) ∷ []
  pub of_ephemerals : ephemerals
      ≡ seen_of words (Ephemeral 0) ∷ seen_of words (Ephemeral 1) ∷ seen_of words (Ephemeral 2) ∷ seen_of words (Ephemeral 3) ∷ []
  pub remotes : names ≡ names_of words 0 ∷ names_of words 1 ∷ names_of words 2 ∷ names_of words 3 ∷ []

-- ---- hops and crossings

unfoldable pub may_share : List Words → Termination → Termination → Bool
may_share words t u = list_any (λ j. may_stand words t j && may_stand words u j) (0 ∷ 1 ∷ 2 ∷ 3 ∷ [])

unfoldable pub may_hop : List Words → Termination → Termination → Bool
may_hop words t u = not (is_same t u) && (may_come_in words t && (may_go_out words u && (may_share words t u && may_pass words t u)))

-- that both exist isn't asked: who hops, and who is hopped to, stands in a context
unfoldable pub may_cross : List Words → ℕ → ℕ → Bool
may_cross words k i = not (k == i) && (may_name words k i && may_name words i k)

-- ---- where media from a line may go over ephemerals that it may have crossed to

abbrev pub among : List Bool → ℕ → Bool
among arrived k = slice_index_or arrived k false

unfoldable pub may_hop_on : List Words → List Bool → Termination → Bool
may_hop_on words arrived sink = list_any (λ k. among arrived k && may_hop words (Ephemeral k) sink) (0 ∷ 1 ∷ 2 ∷ 3 ∷ [])

unfoldable pub may_reach : List Words → ℕ → List Bool → Termination → Bool
may_reach words line arrived sink = may_hop words (Line line) sink || may_hop_on words arrived sink

unfoldable pub may_arrive : List Words → ℕ → List Bool → ℕ → Bool
may_arrive words line arrived k =
    list_any (λ source. may_cross words source k && may_reach words line arrived (Ephemeral source)) (0 ∷ 1 ∷ 2 ∷ 3 ∷ [])

-- it may arrive nowhere else
unfoldable pub is_closed : List Words → ℕ → List Bool → Bool
is_closed words line arrived = list_all (λ k. among arrived k || not (may_arrive words line arrived k)) (0 ∷ 1 ∷ 2 ∷ 3 ∷ [])
