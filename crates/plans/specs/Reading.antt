-- What the bytes of a plan are read as. A reader should check that what is no plan has a bad step, that a plan which is too large is told only then, and that
-- the plan is given only where there is no fault. Want of memory, which may stand in place of any answer, is none of these answers.
use Rattle.std.specs.Prelude.{◌≡◌, ℕ, List, Option, Some, None, if◌then◌else◌, Result, Ok, Err}
use Rattle.toml.specs.Data.{Members}
use Rattle.mg_model.specs.Plans.{Plan}
use Rattle.mg_model.specs.Script.{Script}
use Rattle.typed_values.specs.Text.{IsText}
use Rattle.plans.specs.declared.fault.PlanFault.{PlanFault}
use Rattle.plans.specs.declared.fault.PlanFault.TheVariants.{NotToml, BadStep, TooMany}
use Rattle.plans.specs.PlanValue.{is_too_large}
use Rattle.plans.specs.Tables.{plan_in}

abbrev pub plan_read : Option Plan → Result Plan PlanFault
plan_read None = Err BadStep
plan_read (Some plan) = if is_too_large plan then Err TooMany else Ok plan

unfoldable pub tree_read : Script → Members → Result Plan PlanFault
tree_read script tree = plan_read (plan_in script tree)

-- the answer is that of the tree
abbrev pub Answers : (read answer : Result Plan PlanFault) → Type 0
Answers read (Err NotToml) = ⊥
Answers read answer = read ≡ answer

-- the answer is that of the tree, or says that there is no tree
abbrev pub ReadsPlan : Script → List ℕ → Result Plan PlanFault → Type 0
ReadsPlan script bytes (Err NotToml) = (tree : Members) → IsText bytes tree → ⊥
ReadsPlan script bytes answer = (tree : Members) × IsText bytes tree × (tree_read script tree ≡ answer)
