-- What a command makes of all configurations in the hull of some, also where it adds, moves or subtracts. Each component goes its way by itself then, but
-- where all of a context leave, and but for context names: whether a context still exists hangs on where all terminations stand. No public clause speaks of these words.
use Rattle.std.specs.Prelude.{◌≡◌, ⊤, ℕ, ◌==◌, Bool, false, IsTrue, List, [], ◌∷◌, ◌++◌, Contains}
use Rattle.mg_names.specs.declared.context_values.ContextValue.{ContextValue}
use Rattle.mg_names.specs.declared.context_values.ContextValue.TheVariants.{Free, Live}
use Rattle.mg_model.specs.declared.commands.Command.{Command}
use Rattle.mg_model.specs.declared.commands.Command.TheVariants.{AddLine, AddEphemeral, ModifyLine, ModifyEphemeral, MoveLine, MoveEphemeral, Subtract, SubtractAll, SetTopology}
use Rattle.mg_model.specs.declared.commands.Termination.{Termination}
use Rattle.mg_model.specs.declared.commands.Termination.TheVariants.{Line, Ephemeral}
use Rattle.mg_model.specs.declared.components.Spot.TheVariants.{Absent}
use Rattle.mg_model.specs.Script.{Script}
use Rattle.mg_model.specs.Configuration.{Configuration, IsWellFormed, is_in, value_of}
use Rattle.mg_model.specs.Effects.{effect, is_legal}
use Rattle.mg_model.specs.Entries.{Entry}
use Rattle.mg_model.specs.Steps.{executed, execution, refusals}
use Rattle.mg_model.specs.Updates.{with_at}
use Rattle.closure.specs.Findings.{AreCovered}
use Rattle.closure.specs.Elementwise.{settled_at}
use Rattle.closure.specs.Hulls.{IsInHull}
use Rattle.closure.specs.Surviving.{DoSurvive}

-- an ephemeral that a command adds is absent before
abbrev pub AddsAbsent : Configuration → Command → Type 0
AddsAbsent c (AddLine create j i options) = ⊤
AddsAbsent c (AddEphemeral create j k options) = c.spot (Ephemeral k) ≡ Absent
AddsAbsent c (ModifyLine place i options) = ⊤
AddsAbsent c (ModifyEphemeral place k options) = ⊤
AddsAbsent c (MoveLine j i options) = ⊤
AddsAbsent c (MoveEphemeral j k options) = ⊤
AddsAbsent c (Subtract j t) = ⊤
AddsAbsent c (SubtractAll j) = ⊤
AddsAbsent c (SetTopology j t u topology) = ⊤

-- the context names after a command, before it is asked which contexts still exist: that which something is put into is live, and that which all leave is free
abbrev pub contexts_after : Command → (ℕ → ContextValue) → ℕ → ContextValue
contexts_after (AddLine create j i options) was = with_at was j Live
contexts_after (AddEphemeral create j k options) was = with_at was j Live
contexts_after (ModifyLine place i options) was = was
contexts_after (ModifyEphemeral place k options) was = was
contexts_after (MoveLine j i options) was = with_at was j Live
contexts_after (MoveEphemeral j k options) was = with_at was j Live
contexts_after (Subtract j t) was = was
contexts_after (SubtractAll j) was = with_at was j Free
contexts_after (SetTopology j t u topology) was = was

-- the configuration after a command, but for that question
abbrev pub unsettled : Script → Command → Configuration → Configuration
unsettled script command d = record (effect script d command) { context = contexts_after command d.context }

-- an ephemeral that a command adds is absent in each of these
abbrev pub IsUniform : List Configuration → Command → Type 0
IsUniform some (AddLine create j i options) = ⊤
IsUniform some (AddEphemeral create j k options) = (d : Configuration) → Contains some d → d.spot (Ephemeral k) ≡ Absent
IsUniform some (ModifyLine place i options) = ⊤
IsUniform some (ModifyEphemeral place k options) = ⊤
IsUniform some (MoveLine j i options) = ⊤
IsUniform some (MoveEphemeral j k options) = ⊤
IsUniform some (Subtract j t) = ⊤
IsUniform some (SubtractAll j) = ⊤
IsUniform some (SetTopology j t u topology) = ⊤

-- in none of these a termination stands in a context
abbrev pub IsNowhere : List Configuration → Termination → ℕ → Type 0
IsNowhere some t n = (d : Configuration) → Contains some d → is_in (d.spot t) n ≡ false

-- a command puts nothing into a context, and takes nothing out of it but with all others
abbrev pub LeavesAlone : List Configuration → Command → ℕ → Type 0
LeavesAlone some (AddLine create j i options) n = (n == j) ≡ false
LeavesAlone some (AddEphemeral create j k options) n = (n == j) ≡ false
LeavesAlone some (ModifyLine place i options) n = ⊤
LeavesAlone some (ModifyEphemeral place k options) n = ⊤
LeavesAlone some (MoveLine j i options) n = ((n == j) ≡ false) × IsNowhere some (Line i) n
LeavesAlone some (MoveEphemeral j k options) n = ((n == j) ≡ false) × IsNowhere some (Ephemeral k) n
LeavesAlone some (Subtract j t) n = (n == j) ≡ false
LeavesAlone some (SubtractAll j) n = ⊤
LeavesAlone some (SetTopology j t u topology) n = ⊤

-- a context name, if it is bound, stands for what exists or not
abbrev pub valued_at : ℕ → Bool → Configuration → Configuration
valued_at n exists d = record d { context = with_at d.context n (value_of (d.context n) exists) }

-- what a command makes, where it is legal, of the hull of some is in the hull of others
abbrev pub AreLed : Script → List Configuration → Command → List Bool → List Configuration → Type 0
AreLed script some command surviving made =
    (c : Configuration) → IsInHull some c → IsWellFormed c → IsTrue (is_legal c command) → DoSurvive c (command ∷ []) surviving
    → AddsAbsent c command × IsInHull made (effect script c command)

-- of what a command leaves, one context name says whether its context exists
abbrev pub IsSettledAt : Script → List Configuration → Command → List Bool → ℕ → List Configuration → List Configuration → Type 0
IsSettledAt script some command surviving n before after =
    (c x : Configuration) → IsInHull some c → IsWellFormed c → IsTrue (is_legal c command) → DoSurvive c (command ∷ []) surviving → AddsAbsent c command → x.spot ≡ (unsettled script command c).spot
    → x.context n ≡ (unsettled script command c).context n → IsInHull before x → IsInHull after (settled_at x n)

-- entries have what the rest of a request makes of all in the hull of some, where somebody stays in each surviving context
abbrev pub AreHullRequestsCovered : Script → List Entry → List Configuration → List Bool → List Command → Type 0
AreHullRequestsCovered script entries some surviving request =
    (c : Configuration) → IsInHull some c → IsWellFormed c → DoSurvive c request surviving → (place : ℕ)
    → AreCovered entries (refusals script c place request ++ execution (executed script c request))
