-- The calls of a plan as a run opens them. A reader should check that each stands at the place of its number, at rest in the start state on its lines, and that
-- nothing happened to it. This profile's own.
use Rattle.std.specs.Prelude.{◌≡◌, ℕ, ◌==◌, if◌then◌else◌, List, [], ◌∷◌, IfOk, Option, Result, Some, None, slice_get, slice_index_or}
use Rattle.std.specs.Option.{option_or}
use Rattle.std.specs.declared.alloc.Global.{Global}
use Rattle.std.specs.declared.vec.Vec.{Vec}
use Rattle.mg_model.specs.Agent.{opened}
use Rattle.mg_model.specs.Plans.{PlanCall, opened_as}
use Rattle.mg_model.specs.Script.{Script}
use Rattle.mg_model.specs.World.{Opened}
use Rattle.agent.specs.AgentValue.{agent_of}
use Rattle.agent.specs.Calls.{value_of}
use Rattle.agent.specs.declared.call.Next.{Next}
use Rattle.planned_calls.specs.Parts.{opened_in}
use Rattle.planned_calls.specs.Taking.{trail_of}
use Rattle.planned_calls.specs.declared.fault.RunFault.{RunFault}
use Rattle.planned_calls.specs.declared.planned_call.PlannedCall.{PlannedCall}

-- ---- the calls of a plan

-- it is on its way from here: the call that was opened stands, and no step of it is begun
pub record IsOpenedAs (script : Script) (one : Opened) (planned : PlannedCall) : Type 0 where
  pub agent : agent_of (value_of planned.next).agent ≡ opened script one.call one.lines
  pub standing : planned.standing.0 ≡ one.call
  pub trail : trail_of planned ≡ []
  pub begun : planned.log.begun ≡ 0
  pub place : planned.log.place ≡ 0

abbrev pub StandsOpened : Script → Opened → Option PlannedCall → Type 0
StandsOpened script one None = ⊥
StandsOpened script one (Some planned) = IsOpenedAs script one planned

-- each call of a plan stands at the place of its number
abbrev pub AreOpened : Script → List PlanCall → List (Option PlannedCall) → Type 0
AreOpened script calls places = (number : ℕ) (call : PlanCall) → slice_get calls number ≡ Some call
    → StandsOpened script (opened_as number call) (slice_index_or places number None)

-- ---- the calls that a shard hands out

-- a call as it is opened
pub record IsHandedOut (script : Script) (one : Opened) (next : Next) : Type 0 where
  pub agent : agent_of (value_of next).agent ≡ opened script one.call one.lines
  pub transcript : (value_of next).transcript ≡ []

-- these, in their order
abbrev pub AreHandedOut : Script → List Opened → List Next → Type 0
AreHandedOut script [] [] = Unit {0}
AreHandedOut script (one ∷ more) (next ∷ nexts) = IsHandedOut script one next × AreHandedOut script more nexts
AreHandedOut script ones nexts = ⊥

-- the calls of a plan that stand in a shard, one of so many, where it opens
abbrev pub HandsOutOwn : {X : Type 0} → Script → List PlanCall → (count shard : ℕ) → Result (X × Vec Next Global) RunFault → Type 0
HandsOutOwn script calls count shard opened = IfOk opened (λ all. AreHandedOut script (opened_in count shard 0 calls) all.1.items)

-- ---- how they come to their places

-- the number of a call
abbrev pub number_of : Next → ℕ
number_of next = (agent_of (value_of next).agent).call

-- the last of these with this number, where there is one
abbrev pub last_numbered : (number : ℕ) → List Next → Option Next
last_numbered number [] = None
last_numbered number (next ∷ more) = option_or (last_numbered number more) (if number_of next == number then Some next else None)

-- a call under its own number, of which nothing is written down
pub record Begins (call : Next) (planned : PlannedCall) : Type 0 where
  pub stands : planned.next ≡ call
  pub standing : planned.standing.0 ≡ number_of call
  pub trail : planned.log.trail.items ≡ []
  pub begun : planned.log.begun ≡ 0
  pub place : planned.log.place ≡ 0

-- what stands at a place to which this call comes, if one does
abbrev pub IsPutAt : Option Next → (old new : Option PlannedCall) → Type 0
IsPutAt None old new = new ≡ old
IsPutAt (Some call) old None = ⊥
IsPutAt (Some call) old (Some planned) = Begins call planned

-- to each place comes the last of these with its number
abbrev pub AreSeated : List Next → (old new : List (Option PlannedCall)) → Type 0
AreSeated nexts old new = (number : ℕ) → IsPutAt (last_numbered number nexts) (slice_index_or old number None) (slice_index_or new number None)
