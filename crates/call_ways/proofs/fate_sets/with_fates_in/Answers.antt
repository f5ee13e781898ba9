-- The fates are those of the configuration.
use Rattle.std.proofs.Common.{◌≡◌, ◌∙◌, ◌||◌, ℕ, IfOk, List, subst}
use Rattle.call_ways.specs.declared.fates.Fate.{Fate}
use Rattle.call_ways.specs.Crossed.{is_at}
use Rattle.call_ways.specs.Fates.{has, set_at}
use Rattle.call_ways.proofs.fate_sets.with_fates_in.Goals as goal

pub returns : goal.returns
returns c =
    subst (λ (fates : List Fate). IfOk c.joined.result (λ more. (place : ℕ) (it : Fate) → has (set_at more.items place) it
    ≡ (has (set_at c.args.sets.now place) it || is_at fates place it)))
    (c.as_slice.ensures.value ∙ c.in_ok-fates.ensures) c.joined.ensures
