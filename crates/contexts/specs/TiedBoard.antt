-- What a board shows: the table of terminations, and of each context its members and its cuts; from them the pointwise board. A reader should check that media is cut between two terminations where the context of the first
-- one lists the pair.
use Rattle.std.specs.Prelude.{◌≡◌, ℕ, nat_eq, ◌==◌, Bool, true, not, ◌&&◌, List, [], Option, Some, ◌⊎◌}
use Rattle.std.specs.List.{IsDistinct}
use Rattle.std.specs.Map.{lookup}
use Rattle.mg_names.specs.declared.identifiers.TermId.{TermId}
use Rattle.mg_model.specs.Numbers.{null, last_context}
use Rattle.mg_model.specs.declared.rows.Row.{Row}
use Rattle.mg_model.specs.Board.{Board, ContextExists, place_in, same_term}
use Rattle.identifiers.specs.declared.class.Class.{Class}
use Rattle.identifiers.specs.Stock.{Stock, is_used, IsGiven}
use Rattle.terminations.specs.Table.{Table, row_of, used_of, class_of}
use Rattle.contexts.specs.declared.cuts.Cut.{Cut}
use Rattle.contexts.specs.Groups.{listed, has_member, has_cut}

pub record BoardValue : Type 0 where
  pub table : Table
  pub cuts : List (ℕ × List Cut)
  pub members : Stock (List TermId)

abbrev pub cuts_at : List (ℕ × List Cut) → ℕ → Option (List Cut)
cuts_at cuts c = lookup (nat_eq c) cuts

abbrev pub cut_of : (TermId → Option Row) → (ℕ → Option (List Cut)) → TermId → TermId → Bool
cut_of rows cuts t u = has_cut (cuts (place_in (rows t))) t u

unfoldable pub board_of : BoardValue → Board
board_of board_value = record {
  row = row_of board_value.table;
  cut = cut_of (row_of board_value.table) (cuts_at board_value.cuts);
  used_context = is_used board_value.members;
  used_ephemeral = used_of board_value.table;
  class = class_of board_value.table;
}

-- a termination stands in a context other than the null context
abbrev pub stands_in : (TermId → Option Row) → ℕ → TermId → Bool
stands_in rows c t = not (c == null) && place_in (rows t) == c

-- the members and the cuts of each context are those that the rows tell, each member once
pub record IsTied (rows : TermId → Option Row) (members : ℕ → Option (List TermId)) (cuts : ℕ → Option (List Cut)) : Type 0 where
  pub stands : (c : ℕ) (t : TermId) → has_member (members c) t ≡ stands_in rows c t
  pub not_empty : (c : ℕ) → members c ≡ Some [] → ⊥
  pub once : (c : ℕ) → IsDistinct same_term (listed (members c))
  pub inside : (c : ℕ) (t u : TermId) → has_cut (cuts c) t u ≡ true → (stands_in rows c t ≡ true) × (stands_in rows c u ≡ true)

-- contexts are given numbers of the class of which ephemerals are
pub record IsOneClass (ephemerals contexts : Class) : Type 0 where
  pub first : contexts.first ≡ ephemerals.first
  pub stride : contexts.stride ≡ ephemerals.stride
  pub last : contexts.last ≡ last_context

-- a context in which a termination can come to stand: it is there, or has the number that is given next
abbrev pub CanEnter : BoardValue → ℕ → Type 0
CanEnter board_value c = ContextExists (board_of board_value) c ⊎ IsGiven board_value.members c
