-- The place of each value in the format's table, and sets that are kept in that order. A reader should compare the
-- places with the table of the page on formats: points are numbered by them.
use Rattle.std.specs.Prelude.{ℕ, suc, ◌==◌, Bool, true, false, List, [], ◌∷◌, Option, Some, option_and_then, if◌then◌else◌, nat_lt}
use Rattle.mg_names.specs.declared.modes.Mode.{Mode}
use Rattle.mg_names.specs.declared.modes.Mode.TheVariants.{Inactive, SendOnly, ReceiveOnly, SendReceive}
use Rattle.mg_names.specs.declared.phases.LinkPhase.{LinkPhase}
use Rattle.mg_names.specs.declared.phases.LinkPhase.TheVariants.{Sent, Answered, Failed, Resting}
use Rattle.mg_names.specs.declared.context_values.ContextValue.{ContextValue}
use Rattle.mg_names.specs.declared.context_values.ContextValue.TheVariants.{Free, Live, Stale}
use Rattle.mg_model.specs.declared.commands.EventsName.{EventsName}
use Rattle.mg_model.specs.declared.commands.EventsName.TheVariants.{Empty, Armed, Own}
use Rattle.mg_model.specs.declared.components.Spot.{Spot}
use Rattle.mg_model.specs.declared.components.Spot.TheVariants.{Absent, Null, In}
use Rattle.mg_model.specs.declared.components.Remote.{Remote}
use Rattle.mg_model.specs.declared.components.Remote.TheVariants.{Unset, Gone, To}

abbrev pub link_rank : LinkPhase → ℕ
link_rank Sent = 0
link_rank Answered = 1
link_rank Failed = 2
link_rank Resting = 3

-- a line's spots begin with the null context, an ephemeral's with its absence; the contexts follow
abbrev pub spot_rank : Spot → ℕ
spot_rank Absent = 0
spot_rank Null = 1
spot_rank (In context) = suc (suc context)

abbrev pub mode_rank : Mode → ℕ
mode_rank Inactive = 0
mode_rank SendOnly = 1
mode_rank ReceiveOnly = 2
mode_rank SendReceive = 3

abbrev pub events_rank : EventsName → ℕ
events_rank Empty = 0
events_rank Armed = 1
events_rank (Own list) = suc (suc list)

abbrev pub switch_rank : Bool → ℕ
switch_rank false = 0
switch_rank true = 1

abbrev pub context_rank : ContextValue → ℕ
context_rank Free = 0
context_rank Live = 1
context_rank Stale = 2

abbrev pub remote_rank : Remote → ℕ
remote_rank Unset = 0
remote_rank Gone = 1
remote_rank (To ephemeral) = suc (suc ephemeral)

module _ {A : Type 0} (rank : A → ℕ) where
  -- the values with one more, in rising order, each once
  abbrev pub inserted : A → List A → List A
  inserted v [] = v ∷ []
  inserted v (x ∷ xs) =
      if nat_lt (rank x) (rank v) then x ∷ inserted v xs
      else if rank x == rank v then x ∷ xs else v ∷ x ∷ xs

  -- a set with the values that some words name; nothing where a word names nothing
  abbrev pub set_with : (List ℕ → Option A) → List A → List (List ℕ) → Option (List A)
  set_with named set [] = Some set
  set_with named set (word ∷ words) = option_and_then (λ v. set_with named (inserted v set) words) (named word)
