-- The tables of a plan. A reader should check each key, whether it may be left out, and what it holds; and that no line is of two calls, or twice of one.
-- Every fault of them is a bad step.
use Rattle.std.specs.Prelude.{ℕ, List, [], ◌∷◌, length, Bool, false, not, ◌||◌, ◌==◌, nat_le, unwrap_or, codes, Option, Some, None, ℤ, pos, negsuc}
use Rattle.std.specs.List.{flat_map}
use Rattle.toml.specs.Data.{Data, Members, as_str, as_integer, as_table}
use Rattle.mg_model.specs.declared.plans.PlanStep.{PlanStep}
use Rattle.mg_model.specs.Plans.{PlanCall, Plan}
use Rattle.mg_model.specs.Script.{Script}
use Rattle.mg_model.specs.Members.{is_among}
use Rattle.typed_values.specs.Keys.{list_of, needed, optional, listed, has_only}
use Rattle.typed_values.specs.Shape.{◌>>=◌, only_if}
use Rattle.typed_values.specs.Texts.{words_of}
use Rattle.plans.specs.Texts.{step_of}

-- ---- whole numbers

-- a whole number within bounds
abbrev pub whole_in : (least most : ℕ) → ℤ → Option ℕ
whole_in least most (pos n) = only_if (nat_le least n) (only_if (nat_le n most) (Some n))
whole_in least most (negsuc n) = None

unfoldable pub whole_meant : (least most : ℕ) → Data → Option ℕ
whole_meant least most d = as_integer d >>= whole_in least most

abbrev pub line_meant : Data → Option ℕ
line_meant d = whole_meant 1 4294967295 d

abbrev pub shards_meant : Data → Option ℕ
shards_meant d = whole_meant 1 16 d

-- ---- lines

-- one of the numbers stands among those after it
abbrev pub has_twice : List ℕ → Bool
has_twice [] = false
has_twice (n ∷ more) = is_among more n || has_twice more

abbrev pub names_line_twice : List PlanCall → Bool
names_line_twice calls = has_twice (flat_map (λ (call : PlanCall). call.lines) calls)

-- ---- steps and calls

abbrev pub call_keys : List (List ℕ)
call_keys = codes "lines" ∷ codes "epochs" ∷ []

abbrev pub plan_keys : List (List ℕ)
plan_keys = codes "call" ∷ codes "shards" ∷ []

module _ (script : Script) where
  unfoldable pub step_meant : Data → Option PlanStep
  step_meant d = as_str d >>= λ text. step_of script.lines (words_of text)

  abbrev pub epoch_meant : Data → Option (List PlanStep)
  epoch_meant d = list_of step_meant d

  -- as many lines as the script has
  unfoldable pub call_in : Members → Option PlanCall
  call_in t = only_if (has_only call_keys t) (do
    lines ← needed (list_of line_meant) (codes "lines") t
    epochs ← needed (list_of epoch_meant) (codes "epochs") t
    only_if (length lines == length script.lines) (Some (record { lines = lines; epochs = epochs })))

  unfoldable pub call_meant : Data → Option PlanCall
  call_meant d = as_table d >>= call_in

  -- ---- a plan

  unfoldable pub plan_in : Members → Option Plan
  plan_in t = only_if (has_only plan_keys t) (do
    calls ← listed call_meant (codes "call") t
    shards ← optional shards_meant (codes "shards") t
    only_if (not (names_line_twice calls)) (Some (record { calls = calls; shards = unwrap_or shards 1 })))
