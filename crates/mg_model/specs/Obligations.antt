-- The obligations of a certificate, and the first one that is broken. Where none is broken, every run of any number of
-- calls is safe; that is a theorem of its own. This profile's own. A reader should check each obligation, and that
-- their order is the one in which the answer `no` names the first.
use Rattle.std.specs.Prelude.{◌≡◌, ℕ, ◌<◌, false, IsTrue, List, [], ◌∷◌, length, slice_get, Option, Some, None, ◌⊎◌}
use Rattle.mg_names.specs.declared.obligations.Obligation.{Obligation}
use Rattle.mg_names.specs.declared.obligations.Obligation.TheVariants as obligation
use Rattle.mg_names.specs.declared.context_values.ContextValue.TheVariants.{Stale}
use Rattle.mg_names.specs.declared.phases.LinkPhase.TheVariants.{Sent, Resting}
use Rattle.mg_model.specs.declared.commands.Termination.TheVariants.{Line, Ephemeral}
use Rattle.mg_model.specs.declared.components.Remote.TheVariants.{Gone}
use Rattle.mg_model.specs.declared.components.Spot.TheVariants.{Absent, Null}
use Rattle.mg_model.specs.declared.faults.Fault.{Fault}
use Rattle.mg_model.specs.declared.steps.StepName.{StepName}
use Rattle.mg_model.specs.Script.{Script}
use Rattle.mg_model.specs.Tables.{state_of, items_of, is_armed_list, is_marked}
use Rattle.mg_model.specs.Configuration.{Configuration}
use Rattle.mg_model.specs.Paths.{AreJoined}
use Rattle.mg_model.specs.Steps.{Step, steps_of, names_unbound, opening, reset}
use Rattle.mg_model.specs.Entries.{Entry, IsPointOf, IsCovered}

-- joined lines are marked in the state
abbrev pub JoinedAreMarked : Script → Configuration → Type 0
JoinedAreMarked script c =
    (i j : ℕ) → i < length script.lines → j < length script.lines → AreJoined c i j →
    IsTrue (is_marked (state_of script c.state).talk i j)

-- at rest in an end state each line is in the null context, silent and armed for off-hook alone, and no ephemeral exists
pub record IsCleared (script : Script) (c : Configuration) : Type 0 where
  pub in_null : (i : ℕ) → i < length script.lines → c.spot (Line i) ≡ Null
  pub silent : (i : ℕ) → i < length script.lines → c.plays i ≡ false
  pub armed : (i : ℕ) → i < length script.lines → IsTrue (is_armed_list (items_of script (c.events i)))
  pub no_ephemeral : (k : ℕ) → c.spot (Ephemeral k) ≡ Absent

abbrev pub EndedIsCleared : Script → Configuration → Type 0
EndedIsCleared script c =
    c.link ≡ Resting → IsTrue (state_of script c.state).is_end → IsCleared script c

-- while its request is sent, each name that the state creates is free or absent
abbrev pub CreatedAreUnbound : Script → Configuration → Type 0
CreatedAreUnbound script c = c.link ≡ Sent → IsTrue (names_unbound script c)

-- no context that is bound has been deleted, and no Remote names an ephemeral that has been destroyed
pub record IsLive (c : Configuration) : Type 0 where
  pub contexts : (j : ℕ) → c.context j ≡ Stale → ⊥
  pub remotes : (k : ℕ) → c.remote k ≡ Gone → ⊥

-- so it is while the request is sent, when names are used, and at rest. While a reply is awaited what was just deleted may still be
-- bound; nothing is executed then
abbrev pub NamesAreLive : Configuration → Type 0
NamesAreLive c = (c.link ≡ Sent) ⊎ (c.link ≡ Resting) → IsLive c

-- what is asked of each point of an entry: four duties of its configuration, and one for each of its steps
pub data Duty : Type 0 where
  JoinedMarked : Duty
  EndedCleared : Duty
  CreatedUnbound : Duty
  NamesLive : Duty
  StepCovered : (step : ℕ) → Duty

-- what a certificate claims: that the opening is covered, and the reset, and each duty of each point
pub data Claim : Type 0 where
  OpeningCovered : Claim
  ResetCovered : Claim
  OfPoint : (entry point : ℕ) → Duty → Claim

-- what a duty asks of a configuration
abbrev pub Asks : Script → List Entry → Duty → Configuration → Type 0
Asks script entries JoinedMarked c = JoinedAreMarked script c
Asks script entries EndedCleared c = EndedIsCleared script c
Asks script entries CreatedUnbound c = CreatedAreUnbound script c
Asks script entries NamesLive c = NamesAreLive c
Asks script entries (StepCovered s) c = (step : Step) → slice_get (steps_of script c) s ≡ Some step → IsCovered entries step.1

-- a fact of the point with this number in the entry at this place, where there is such a point
abbrev pub AtPoint : List Entry → ℕ → ℕ → (Configuration → Type 0) → Type 0
AtPoint entries e p P =
    (entry : Entry) → slice_get entries e ≡ Some entry → (c : Configuration) → IsPointOf entry p c → P c

abbrev pub Holds : Script → List Entry → Claim → Type 0
Holds script entries OpeningCovered = IsCovered entries (opening script)
Holds script entries ResetCovered = IsCovered entries (reset script)
Holds script entries (OfPoint e p duty) = AtPoint entries e p (Asks script entries duty)

-- the order in which obligations are named: the opening, the reset, then by entry and point, and in a point joined
-- lines, ended calls, created names, names that are live, then the steps in their order
abbrev pub rank : Duty → ℕ
rank JoinedMarked = 0
rank EndedCleared = 1
rank CreatedUnbound = 2
rank NamesLive = 3
rank (StepCovered s) = 4

abbrev pub step_place : Duty → ℕ
step_place (StepCovered s) = s
step_place _ = 0

abbrev pub key_of : Claim → List ℕ
key_of OpeningCovered = 0 ∷ []
key_of ResetCovered = 1 ∷ []
key_of (OfPoint e p duty) = 2 ∷ e ∷ p ∷ rank duty ∷ step_place duty ∷ []

-- the first difference of two lists of numbers decides
abbrev pub KeyBefore : List ℕ → List ℕ → Type 0
KeyBefore [] ys = ⊥
KeyBefore (x ∷ xs) [] = ⊥
KeyBefore (x ∷ xs) (y ∷ ys) = (x < y) ⊎ ((x ≡ y) × KeyBefore xs ys)

abbrev pub ComesBefore : Claim → Claim → Type 0
ComesBefore a b = KeyBefore (key_of a) (key_of b)

-- what the answer `no` says of a claim: the obligation that it is of, and its entry and point where there are such
abbrev pub obligation_of_duty : Duty → Obligation
obligation_of_duty JoinedMarked = obligation.JoinedMarked
obligation_of_duty EndedCleared = obligation.EndedCleared
obligation_of_duty CreatedUnbound = obligation.CreatedUnbound
obligation_of_duty NamesLive = obligation.NamesLive
obligation_of_duty (StepCovered s) = obligation.StepsCovered

abbrev pub obligation_of : Claim → Obligation
obligation_of OpeningCovered = obligation.OpeningCovered
obligation_of ResetCovered = obligation.ResetCovered
obligation_of (OfPoint e p duty) = obligation_of_duty duty

abbrev pub entry_named : Claim → Option ℕ
entry_named (OfPoint e p duty) = Some e
entry_named _ = None

abbrev pub point_named : Claim → Option ℕ
point_named (OfPoint e p duty) = Some p
point_named _ = None

-- the fault names the step that breaks its obligation, and none for the other obligations
abbrev pub NamesStep : Script → List Entry → Claim → Option StepName → Type 0
NamesStep script entries (OfPoint e p (StepCovered s)) named =
    (entry : Entry) × (slice_get entries e ≡ Some entry) × ((c : Configuration) × IsPointOf entry p c
    × ((step : Step) × (slice_get (steps_of script c) s ≡ Some step) × (named ≡ Some step.0)))
NamesStep script entries _ named = named ≡ None

-- no obligation is broken
abbrev pub NoneBroken : Script → List Entry → Type 0
NoneBroken script entries = (o : Claim) → Holds script entries o

-- the fault is that of the first obligation that is broken
pub record IsFirstFault (script : Script) (entries : List Entry) (fault : Fault) : Type 0 where
  pub claim : Claim
  pub broken : Holds script entries claim → ⊥
  pub before : (earlier : Claim) → ComesBefore earlier claim → Holds script entries earlier
  pub obligation : fault.obligation ≡ obligation_of claim
  pub entry : fault.entry ≡ entry_named claim
  pub point : fault.point ≡ point_named claim
  pub step : NamesStep script entries claim fault.step
