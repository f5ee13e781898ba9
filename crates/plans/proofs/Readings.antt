-- The answer on a tree is the answer on the bytes that are a text of it.
use Rattle.std.proofs.Common.{ℕ, List, Result, Ok, Err}
use Rattle.std.specs.Prelude.{IfOk}
use Rattle.toml.specs.Data.{Members}
use Rattle.mg_model.specs.Plans.{Plan}
use Rattle.mg_model.specs.Script.{Script}
use Rattle.typed_values.specs.Text.{IsText}
use Rattle.typed_values.specs.Unread.{OrNoMemory}
use Rattle.typed_values.specs.declared.unread.Unread.{Unread}
use Rattle.typed_values.specs.declared.unread.Unread.TheVariants.{Fault, NoMemory}
use Rattle.plans.specs.declared.fault.PlanFault.{PlanFault}
use Rattle.plans.specs.declared.fault.PlanFault.TheVariants.{NotToml, BadStep, TooMany}
use Rattle.plans.specs.Accepted.{IsPlanFor}
use Rattle.plans.specs.Reading.{Answers, ReadsPlan, tree_read}
use Rattle.plans.proofs.AcceptedPlans.{read_is_accepted}

-- what is said of a tree is said of the bytes that are a text of it
of_text : (script : Script) (bytes : List ℕ) (tree : Members) (answer : Result Plan PlanFault) → IsText bytes tree
    → Answers (tree_read script tree) answer → ReadsPlan script bytes answer
of_text script bytes tree (Ok plan) text is = (tree, text, is)
of_text script bytes tree (Err NotToml) text is = absurd is
of_text script bytes tree (Err BadStep) text is = (tree, text, is)
of_text script bytes tree (Err TooMany) text is = (tree, text, is)

pub plan_is_read : (script : Script) (bytes : List ℕ) (tree : Members) (answer : Result Plan (Unread PlanFault)) → IsText bytes tree
    → OrNoMemory (Answers (tree_read script tree)) answer → OrNoMemory (ReadsPlan script bytes) answer
plan_is_read script bytes tree (Ok plan) text is = of_text script bytes tree (Ok plan) text is
plan_is_read script bytes tree (Err (Fault fault)) text is = of_text script bytes tree (Err fault) text is
plan_is_read script bytes tree (Err NoMemory) text is = tt

pub plan_is_accepted : (script : Script) (tree : Members) (answer : Result Plan (Unread PlanFault)) → OrNoMemory (Answers (tree_read script tree)) answer
    → IfOk answer (λ plan. IsPlanFor script plan)
plan_is_accepted script tree (Ok plan) is = read_is_accepted script tree plan is
plan_is_accepted script tree (Err unread) is = tt
