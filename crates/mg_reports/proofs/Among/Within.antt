-- The numbers of the calls that begin within a call of a plan.
use Rattle.std.proofs.Common.{◌≡◌, ◌∙◌, ◌<◌, ℕ, Bool, sym, ◌==◌, ◌%◌, IsTrue}
use Rattle.std.proofs.Math.Nat.{mod-eq_of_lt, mul-add-mod_self_left}
use Rattle.mg_merge.proofs.Words.{eq-eqb, number_begun, plan_calls}
use Rattle.mg_reports.specs.Among.{IsWithin}

abbrev pub is_within : (first number : ℕ) → Bool
is_within first number = number % plan_calls == first

pub within_itself : (first : ℕ) → first < plan_calls → IsTrue (is_within first first)
within_itself first small = eq-eqb (first % plan_calls) first (mod-eq_of_lt small)

pub begun_within : (first begun : ℕ) → first < plan_calls → IsWithin first (number_begun first begun)
begun_within first begun small = mul-add-mod_self_left plan_calls begun first ∙ mod-eq_of_lt small

pub within_begun : (first begun : ℕ) → first < plan_calls → IsTrue (is_within first (number_begun first begun))
within_begun first begun small = eq-eqb (number_begun first begun % plan_calls) first (begun_within first begun small)

-- those within another call of the plan are none of these
pub never_within : (first other begun : ℕ) → other < plan_calls → (other ≡ first → ⊥) → IsWithin first (number_begun other begun) → ⊥
never_within first other begun small differ within = differ (sym (begun_within other begun small) ∙ within)
