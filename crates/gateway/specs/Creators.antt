-- Which call created an ephemeral, by its number. A reader should check that a number at which no ephemeral exists has no creator,
-- whatever was noted.
use Rattle.std.specs.Prelude.{◌≡◌, ◌⊎◌, ℕ, nat_eq, ◌==◌, Bool, true, false, if◌then◌else◌, List, Option, Some, None}
use Rattle.std.specs.List.{list_any}
use Rattle.std.specs.Map.{lookup}
use Rattle.mg_names.specs.declared.identifiers.TermId.TheVariants.{Eph}
use Rattle.mg_model.specs.Board.{Board, exists}
use Rattle.mg_model.specs.Items.{Done}

-- what was noted under a number
unfoldable pub creator_at : List (ℕ × ℕ) → ℕ → Option ℕ
creator_at creators k = lookup (nat_eq k) creators

-- the call that created the ephemeral of a number, where there is one
abbrev pub creator_on : Board → List (ℕ × ℕ) → ℕ → Option ℕ
creator_on b creators k = if exists b (Eph k) then creator_at creators k else None

-- a command created the ephemeral of a number
abbrev pub is_that : Option ℕ → ℕ → Bool
is_that None k = false
is_that (Some number) k = k == number

abbrev pub is_created : Done → ℕ → Bool
is_created done k = is_that done.ephemeral k

-- one of the commands did
abbrev pub any_created : List Done → ℕ → Bool
any_created results k = list_any (λ (done : Done). is_created done k) results

-- what was noted under a number is what was, or the call whose commands created its ephemeral
abbrev pub IsKeptOrNoted : ℕ → List Done → (old new : List (ℕ × ℕ)) → ℕ → Type 0
IsKeptOrNoted call results old new k =
    (creator_at new k ≡ creator_at old k) ⊎ ((any_created results k ≡ true) × (creator_at new k ≡ Some call))
