-- Rows by number: each of them made null_row.
use Rattle.std.proofs.Common.{◌≡◌, ℕ, Bool, true, false, cond, List, [], ◌∷◌, map, Option, Some, refl}
use Rattle.mg_model.specs.declared.rows.Row.{Row}
use Rattle.std.specs.Map.{lookup}
use Rattle.mg_names.specs.declared.identifiers.TermId.{TermId}
use Rattle.mg_names.specs.declared.identifiers.TermId.TheVariants.{Eph}
use Rattle.terminations.specs.Table.{overwritten, with_remote}
use Rattle.mg_model.specs.Board.{null_row}

-- what a look-up finds in rows that were all made null_row
pub lookup-idle : (test : ℕ → Bool) (rows : List (ℕ × Row)) → lookup test (map (λ (e : ℕ × Row). (e.0, null_row)) rows) ≡ overwritten null_row (lookup test rows)
lookup-idle test [] = refl
lookup-idle test (e ∷ rows) = by_test (test e.0) (lookup-idle test rows)
  where
    by_test : (b : Bool) → lookup test (map (λ (e : ℕ × Row). (e.0, null_row)) rows) ≡ overwritten null_row (lookup test rows) →
        cond b (Some null_row) (lookup test (map (λ (e : ℕ × Row). (e.0, null_row)) rows)) ≡ overwritten null_row (cond b (Some e.1) (lookup test rows))
    by_test true more = refl
    by_test false more = more

-- the row of an ephemeral with another Remote
pub remote_overwritten : (t : TermId) (k : ℕ) → t ≡ Eph k → (old : Option Row) (row : Row) (remote : Option ℕ) → old ≡ Some row →
    overwritten (record row { remote = remote }) old ≡ with_remote t remote old
remote_overwritten t k is old row remote there = rw is (rw there refl)
