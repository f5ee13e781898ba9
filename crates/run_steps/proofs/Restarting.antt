-- A restart comes to what it is told as, and no other step does.
use Rattle.std.proofs.Common.{◌≡◌, ℕ, List, [], ◌∷◌, refl}
use Rattle.mg_model.specs.declared.events.Event.TheVariants.{Restart}
use Rattle.mg_model.specs.declared.plans.PlanStep.{PlanStep}
use Rattle.mg_model.specs.declared.plans.PlanStep.TheVariants.{Restarts}
use Rattle.agent.specs.declared.call.Next.{Next}
use Rattle.taken_steps.specs.Shards.{HasHappened, ShardValue}
use Rattle.taken_steps.specs.Taking.{Comes}
use Rattle.run_steps.specs.Telling.{IsOfRestart, own_step}
use Rattle.taken_steps.specs.declared.came.Came.{Came}
use Rattle.taken_steps.specs.declared.came.Came.TheVariants as came

pub restarted : (v w : ShardValue) (a : Next) (number : ℕ) (c : Came) → IsOfRestart c → HasHappened v w Restart → Comes v a number Restarts c w a number
restarted v w a number (came.Happened event) is happened = absurd is
restarted v w a number (came.Idle why) is happened = absurd is
restarted v w a number came.Restarted is happened = record { is = refl; happened = happened; call = refl; same_number = refl }
restarted v w a number came.EpochEnded is happened = record { is = refl; happened = happened; call = refl; same_number = refl }
restarted v w a number came.OtherRestarted is happened = record { is = refl; happened = happened; call = refl; same_number = refl }

pub own_alone : (v w : ShardValue) (a b : Next) (number now : ℕ) (step : PlanStep) (c : Came) → (step ≡ Restarts → ⊥) → Comes v a number step c w b now
    → own_step step c ≡ step ∷ []
own_alone v w a b number now step (came.Happened event) other comes = refl
own_alone v w a b number now step (came.Idle why) other comes = refl
own_alone v w a b number now step came.Restarted other comes = refl
own_alone v w a b number now step came.EpochEnded other comes = refl
own_alone v w a b number now step came.OtherRestarted other comes = absurd (other comes.is)
