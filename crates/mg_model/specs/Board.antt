-- The gateway's connection model: which terminations exist, where each stands, its mode and its Remote, what is cut, and
-- which identifiers can't be given by the present request (H.248.1 section 6). Functions over all identifiers, so what a
-- command leaves alone is plain to see. A reader should check that a context has no existence of its own: it exists
-- exactly where a termination stands in it.
use Rattle.std.specs.Prelude.{◌≡◌, ℕ, ◌==◌, Bool, false, if◌then◌else◌, IsTrue, Option, Some, None, is_some, ◌↔◌}
use Rattle.mg_names.specs.declared.identifiers.TermId.{TermId}
use Rattle.mg_names.specs.declared.identifiers.TermId.TheVariants.{Line, Eph}
use Rattle.mg_names.specs.declared.modes.Mode.{Mode}
use Rattle.mg_names.specs.declared.modes.Mode.TheVariants.{Inactive}
use Rattle.mg_model.specs.declared.rows.Row.{Row}
use Rattle.mg_model.specs.Numbers.{null, the_context}

pub record Board : Type 0 where
  -- the row of a termination; nothing where it doesn't exist
  pub row : TermId → Option Row
  -- whether media from the one to the other is cut
  pub cut : TermId → TermId → Bool
  -- whether a number can't be given to a context, or to an ephemeral, by the present request: what has it stood when the request began, or
  -- it was given since. So what a request frees isn't given again before it has ended
  pub used_context : ℕ → Bool
  pub used_ephemeral : ℕ → Bool
  -- the numbers that this gateway gives at all: gateways that share them have a class each (this profile's own)
  pub class : ℕ → Bool

-- whether two terminations are one
abbrev pub same_term : TermId → TermId → Bool
same_term (Line i) (Line j) = i.0 == j.0
same_term (Line i) (Eph j) = false
same_term (Eph i) (Line j) = false
same_term (Eph i) (Eph j) = i == j

-- the rows with one of them changed
abbrev pub row_with : (TermId → Option Row) → TermId → Option Row → TermId → Option Row
row_with rows t row u = if same_term u t then row else rows u

-- the row of a termination in the null context on which nothing is set
abbrev pub null_row : Row
null_row = record { place = the_context null; mode = Inactive; remote = None }

-- whether a termination exists
abbrev pub exists : Board → TermId → Bool
exists b t = is_some (b.row t)

-- the number of the context in which a row stands; what doesn't exist stands in none, and is read as in the null one
abbrev pub place_in : Option Row → ℕ
place_in None = null
place_in (Some row) = row.place.0

abbrev pub mode_in : Option Row → Mode
mode_in None = Inactive
mode_in (Some row) = row.mode

abbrev pub remote_in : Option Row → Option ℕ
remote_in None = None
remote_in (Some row) = row.remote

abbrev pub place_of : Board → TermId → ℕ
place_of b t = place_in (b.row t)

abbrev pub mode_of : Board → TermId → Mode
mode_of b t = mode_in (b.row t)

abbrev pub remote_of : Board → TermId → Option ℕ
remote_of b t = remote_in (b.row t)

-- a context other than the null context, in which a termination stands
abbrev pub ContextExists : Board → ℕ → Type 0
ContextExists b c = (c ≡ null → ⊥) × ((t : TermId) × (place_of b t ≡ c))

-- where a request ends, at an opening and at a restart: the numbers of what no longer stands may be given again (this profile's own)
pub record IsSettled (b after : Board) : Type 0 where
  pub row : after.row ≡ b.row
  pub cut : after.cut ≡ b.cut
  pub class : after.class ≡ b.class
  pub contexts : (c : ℕ) → IsTrue (after.used_context c) ↔ ContextExists b c
  pub ephemerals : (k : ℕ) → after.used_ephemeral k ≡ exists b (Eph k)
