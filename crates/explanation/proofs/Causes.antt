-- The move and the command within it are the cause; and where no command is the last before which it isn't so, none is.
use Rattle.std.proofs.Common.{◌≡◌, ◌∙◌, ◌<◌, ◌≤◌, ℕ, length, List, Option, Some, None, Result, Ok, Err, inl, inr, refl, sym, ap, subst, arith}
use Rattle.std.specs.Prelude.{IfNone, IfOk, IfSome, option_map}
use Rattle.std.specs.List.{slice_get, slice_index_or}
use Rattle.std.proofs.lemmas.Bool.{cases_lt}
use Rattle.std.proofs.lemmas.Option.{same_Some, slice_get-map, slice_get_read, slice_get_within}
use Rattle.mg_model.specs.Configuration.{Configuration}
use Rattle.mg_model.specs.Script.{Script}
use Rattle.mg_model.specs.declared.commands.Command.{Command}
use Rattle.configuration.specs.Packed.{Words}
use Rattle.configuration.specs.Config.{configuration_of}
use Rattle.explanation.specs.declared.breach.Breach.{Breach}
use Rattle.call_ways.specs.Ways.{shown}
use Rattle.call_ways.specs.declared.way.Move.{Move}
use Rattle.call_ways.specs.declared.way.WayStep.{WayStep}
use Rattle.explanation.specs.declared.cause.Cause.{Cause}
use Rattle.explanation.specs.Causes.{HasNoCause, IsCause, IsLastWithout, NoneWithin, ShowEach, along, executes, through}
use Rattle.explanation.specs.Shown.{values_of}

-- the configuration at a place of some
pub stands_at : (configs : List Words) (place : ℕ) (config : Words) (shows : List Configuration) → values_of configs ≡ shows → place < length configs
    → config ≡ slice_index_or configs place config → slice_get shows place ≡ Some (configuration_of config)
stands_at configs place config shows are within is =
    ap (λ (all : List Configuration). slice_get all place) (sym are) ∙ slice_get-map configuration_of configs place
    ∙ ap (option_map configuration_of) (slice_get_read configs (length configs) place config refl within is)

-- the move at a place of a way
pub moved_at : (way : List WayStep) (place : ℕ) (step : WayStep) → place < length way → step ≡ slice_index_or way place step
    → slice_get (shown way) place ≡ Some (step.by, configuration_of step.to)
moved_at way place step within is =
    let show : WayStep → Move × Configuration = λ s. (s.by, configuration_of s.to) in
    slice_get-map show way place ∙ ap (option_map show) (slice_get_read way (length way) place step refl within is)

module _ (script : Script) (breach : Breach) (configurations : List Configuration) where
  -- what doesn't show it isn't behind the last that doesn't
  none_behind : (one other : ℕ) → one < other → IsLastWithout script configurations breach one → IsLastWithout script configurations breach other → ⊥
  none_behind one other before first second = second.without (first.behind other second.last before second.at)

  -- the last is at one place
  pub last_once : (one other : ℕ) → IsLastWithout script configurations breach one → IsLastWithout script configurations breach other → one ≡ other
  last_once one other first second = elim (cases_lt one other) [
    | inl before ↦ absurd (none_behind one other before first second)
    | inr past ↦ elim (cases_lt other one) [
      | inl before ↦ absurd (none_behind other one before second first)
      | inr past_too ↦ omega (arith, past, past_too)
    ]
  ]

  -- where each shows it none is the last that doesn't
  pub no_last : ShowEach script configurations breach → (place : ℕ) → IsLastWithout script configurations breach place → ⊥
  no_last each place is = is.without (each place is.last is.at)

module _ (script : Script) (breach : Breach) (before : Configuration) (by : Move) where
  -- each configuration that the commands lead through shows it
  pub none_within : (configurations : List Configuration) → configurations ≡ through script before (executes script before by)
      → ShowEach script configurations breach → NoneWithin script before by breach
  none_within configurations are each place lt is =
      no_last script breach configurations each place
      (subst (λ (all : List Configuration). IsLastWithout script all breach place) (sym are) is)

  -- the last that doesn't is the one behind all of them
  pub none_below : (configurations : List Configuration) (place : ℕ) → configurations ≡ through script before (executes script before by)
      → IsLastWithout script configurations breach place → length (executes script before by) ≤ place → NoneWithin script before by breach
  none_below configurations place are last past other lt is =
      let same : place ≡ other = last_once script breach configurations place other last
      (subst (λ (all : List Configuration). IsLastWithout script all breach other) (sym are) is) in
      absurd (omega (arith, same, lt, past))

module _ (script : Script) (from : Configuration) (way : List (Move × Configuration)) (breach : Breach) where
  -- each configuration of the way shows it
  pub none_along : (configurations : List Configuration) → configurations ≡ along from way → ShowEach script configurations breach
      → HasNoCause script from way breach
  none_along configurations are each cause is =
      no_last script breach configurations each cause.move_place
      (subst (λ (all : List Configuration). IsLastWithout script all breach cause.move_place) (sym are) is.move)

  -- the last that doesn't show it is at the way's end
  pub none_at_end : (place : ℕ) → IsLastWithout script (along from way) breach place → length way ≤ place → HasNoCause script from way breach
  none_at_end place last past cause is =
      let same : place ≡ cause.move_place = last_once script breach (along from way) place cause.move_place last is.move in
      let within : cause.move_place < length way = slice_get_within way cause.move_place (is.by, is.behind) is.moved in
      absurd (omega (arith, same, within, past))

module _ (script : Script) (from : Configuration) (way : List (Move × Configuration)) (breach : Breach) (place : ℕ) (before behind : Configuration) (by : Move)
    (from_there : slice_get (along from way) place ≡ Some before)
    (moved : slice_get way place ≡ Some (by, behind))
    (move : IsLastWithout script (along from way) breach place)
  where
    pub caused : (found : Option Cause)
        → IfSome found (λ cause. cause.move_place ≡ place)
        → IfSome found (λ cause. cause.state ≡ before.state)
        → IfSome found (λ cause. cause.commands.items ≡ executes script before by)
        → IfSome found (λ cause. cause.command_place < length cause.commands.items)
        → IfSome found (λ cause. IsLastWithout script (through script before (executes script before by)) breach cause.command_place)
        → IfSome found (IsCause script from way breach)
    caused None _ _ _ _ nothing = nothing
    caused (Some cause) at_move of_state executed within command = record {
      before = before;
      by = by;
      behind = behind;
      from_there = subst (λ (n : ℕ). slice_get (along from way) n ≡ Some before) (sym at_move) from_there;
      moved = subst (λ (n : ℕ). slice_get way n ≡ Some (by, behind)) (sym at_move) moved;
      move = subst (λ (n : ℕ). IsLastWithout script (along from way) breach n) (sym at_move) move;
      of_state = of_state;
      executed = executed;
      within = within;
      command = command;
    }

    -- where memory doesn't run out
    pub within : {E : Type 0} (result : Result (Option Cause) E)
        → IfOk result (λ found. IfSome found (λ cause. cause.move_place ≡ place))
        → IfOk result (λ found. IfSome found (λ cause. cause.state ≡ before.state))
        → IfOk result (λ found. IfSome found (λ cause. cause.commands.items ≡ executes script before by))
        → IfOk result (λ found. IfSome found (λ cause. cause.command_place < length cause.commands.items))
        → IfOk result (λ found. IfSome found (λ cause. IsLastWithout script (through script before (executes script before by)) breach cause.command_place))
        → IfOk result (λ found. IfSome found (IsCause script from way breach))
    within (Ok found) at_move of_state executed lies_within command = caused found at_move of_state executed lies_within command
    within (Err _) _ _ _ _ nothing = nothing

    -- no command of the move is, so none of any
    pub uncaused : NoneWithin script before by breach → HasNoCause script from way breach
    uncaused none cause is =
        let here : cause.move_place ≡ place = last_once script breach (along from way) cause.move_place place is.move move in
        let same : is.before ≡ before =
        same_Some is.before before (sym is.from_there ∙ ap (slice_get (along from way)) here ∙ from_there) in
        let same_move : (is.by, is.behind) ≡ (by, behind) =
        same_Some (is.by, is.behind) (by, behind) (sym is.moved ∙ ap (slice_get way) here ∙ moved) in
        let same_by : is.by ≡ by = ap (λ (step : Move × Configuration). step.0) same_move in
        let executed : executes script is.before is.by ≡ executes script before by =
        ap (λ (c : Configuration). executes script c is.by) same ∙ ap (executes script before) same_by in
        let within : cause.command_place < length (executes script before by) =
        subst (λ (commands : List Command). cause.command_place < length commands) (is.executed ∙ executed) is.within in
        let last : IsLastWithout script (through script before (executes script is.before is.by)) breach cause.command_place =
        subst (λ (c : Configuration). IsLastWithout script (through script c (executes script is.before is.by)) breach cause.command_place) same is.command in
        none cause.command_place within
        (subst (λ (commands : List Command). IsLastWithout script (through script before commands) breach cause.command_place) executed last)

    pub none : {E : Type 0} (result : Result (Option Cause) E) → IfOk result (λ found. IfNone found (NoneWithin script before by breach))
        → IfOk result (λ found. IfNone found (HasNoCause script from way breach))
    none (Ok None) is = uncaused is
    none (Ok (Some _)) is = is
    none (Err _) is = is
