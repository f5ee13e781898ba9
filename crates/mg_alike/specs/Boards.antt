-- Two connection models that are the same but for a renaming of identifiers, at what is one call's. A reader should check that nothing is said of what is
-- another call's, and that each part of a row is compared.
use Rattle.std.specs.Prelude.{◌≡◌, ℕ, Bool, IsTrue, Option, Some, None, ◌⊎◌}
use Rattle.mg_names.specs.declared.identifiers.TermId.{TermId}
use Rattle.mg_names.specs.declared.identifiers.TermId.TheVariants.{Line, Eph}
use Rattle.mg_model.specs.declared.rows.Row.{Row}
use Rattle.mg_model.specs.Board.{Board}
use Rattle.mg_model.specs.Numbers.{null}
use Rattle.mg_alike.specs.Renaming.{Renaming, OptionsAlike}

-- a line that the call holds stands for itself, and an ephemeral for that which the renaming says
abbrev pub TermsAlike : Renaming → (held : ℕ → Bool) → TermId → TermId → Type 0
TermsAlike r held (Line l) (Line m) = (l ≡ m) × IsTrue (held l.0)
TermsAlike r held (Eph x) (Eph y) = IsTrue (r.ephemerals x y)
TermsAlike r held (Line l) (Eph y) = ⊥
TermsAlike r held (Eph x) (Line m) = ⊥

-- where a termination stands: in the null context, or in a context that is renamed
abbrev pub PlacesAlike : Renaming → ℕ → ℕ → Type 0
PlacesAlike r c d = ((c ≡ null) × (d ≡ null)) ⊎ IsTrue (r.contexts c d)

-- the Remote of an ephemeral: one that is renamed, or none. A line has no Remote, since any is refused there
abbrev pub RemotesAlike : Renaming → TermId → Option ℕ → Option ℕ → Type 0
RemotesAlike r (Line l) one other = Unit {0}
RemotesAlike r (Eph x) one other = OptionsAlike r.ephemerals one other

pub record RowsAlike (r : Renaming) (t : TermId) (one other : Row) : Type 0 where
  pub place : PlacesAlike r one.place.0 other.place.0
  pub mode : other.mode ≡ one.mode
  pub remote : RemotesAlike r t one.remote other.remote

-- it exists in both, or in neither
abbrev pub OptionalRowsAlike : Renaming → TermId → Option Row → Option Row → Type 0
OptionalRowsAlike r t None None = Unit {0}
OptionalRowsAlike r t (Some one) (Some other) = RowsAlike r t one other
OptionalRowsAlike r t None (Some other) = ⊥
OptionalRowsAlike r t (Some one) None = ⊥

-- the rows of what is the call's, and the cuts between two of it
pub record BoardsAlike (r : Renaming) (held : ℕ → Bool) (b m : Board) : Type 0 where
  pub rows : (t u : TermId) → TermsAlike r held t u → OptionalRowsAlike r t (b.row t) (m.row u)
  pub cuts : (t u v x : TermId) → TermsAlike r held t u → TermsAlike r held v x → m.cut u x ≡ b.cut t v
