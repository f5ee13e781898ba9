-- A request that runs in two worlds that are alike, whatever identifiers either gateway chooses: it ends at the same place, with the same failure or none,
-- and what it leaves is alike. And it runs in the one where it runs in the other.
use Rattle.std.proofs.Common.{◌≡◌, ◌∙◌, ◌+◌, ◌<◌, ◌++◌, ℕ, Bool, true, List, [], ◌∷◌, length, Option, Some, sym, ap, subst, inl, inr, length-append, refl}
use Rattle.mg_merge.proofs.Words.{Agent, All, All-head, All-tail, Board, ChosenRefusal, Code, Command, Done, Fails, Failure, IsCommandOf, IsExecuted, IsLegal}
use Rattle.mg_merge.proofs.Words.{IsRefusedWith, IsUsedUp, Item, Made, Names, Running, RunsFrom, Script, Succeeds, after_command, chosen_at, command_of}
use Rattle.mg_merge.proofs.Words.{commands_of, descriptors_for, effect, is_line, item_at, made_after}
use Rattle.mg_alike.proofs.Words.{DoneAlike, Renaming}
use Rattle.mg_merge.proofs.Commands.IdentifiersLeft.{Remain, remain_after, not_used_up}
use Rattle.mg_safety.proofs.Invariant.Shown.{Naming, naming_at, known_by, built_after}
use Rattle.mg_safety.proofs.Requests.RunKnown.{AreKnown, binds, known_on}
use Rattle.mg_safety.proofs.Requests.RunNames.{IsMadeBelow, built_on, item_is, made_below_next}
use Rattle.mg_alike.proofs.Commands.Renamed.{renamed, renamed_wider}
use Rattle.mg_alike.proofs.Commands.Results.{done_after}
use Rattle.mg_alike.proofs.Commands.Twins.{Twin, one_of, other_of, IsTwin}
use Rattle.mg_alike.proofs.Requests.Names.{NamesAlike, names_more, twin_for, one_is, other_is, is_twin, built_alike}
use Rattle.mg_alike.proofs.Requests.OneCommand.{RunningAlike, descriptors_same, descriptors_held, after_alike, refused_alike, legal_back, legal_onward}
use Rattle.mg_alike.proofs.Requests.OneCommand.{refuses_onward, refuses_back}
use Rattle.mg_alike.proofs.Shared.Pairs.{IsWider, wider_itself, wider_on}
use Rattle.mg_alike.proofs.Requests.Exist.{told, result_there, choice}
use Rattle.mg_alike.proofs.Commands.Reading.{applies_back}

-- the request of an agent is at a place in both worlds: what was done is alike, and these commands are left
pub record IsUnderway (script : Script) (held : ℕ → Bool) (a b : Agent) (r : Renaming) (x y : Running) (place : ℕ) (left : List Command) (made : Made) : Type 0 where
  pub running : RunningAlike r held x y
  pub names : NamesAlike r (naming_at a made x.results) (naming_at b made y.results)
  pub count : length x.results ≡ place
  pub other_count : length y.results ≡ place
  pub below : IsMadeBelow made place
  pub known : AreKnown (known_by (naming_at a made x.results)) left
  pub declared : All (IsCommandOf script) left
  pub remain : Remain x.board (length left)
  pub other_remain : Remain y.board (length left)

-- it has ended in both
pub record HaveEnded (held : ℕ → Bool) (r : Renaming) (end last : Running) (failure also : Option Failure) : Type 0 where
  pub wide : Renaming
  pub wider : IsWider r wide
  pub running : RunningAlike wide held end last
  pub same : also ≡ failure

-- the next commands are left in both
pub record HaveNext (script : Script) (held : ℕ → Bool) (a b : Agent) (r : Renaming) (next later : Running) (place : ℕ) (more : List Command) (made : Made) : Type 0 where
  pub wide : Renaming
  pub wider : IsWider r wide
  pub underway : IsUnderway script held a b wide next later place more made

module _ (script : Script) (held : ℕ → Bool) (a b : Agent) (own : (i : ℕ) → i < length script.lines → held (a.lines i) ≡ true) (same : b.lines ≡ a.lines)
    (number : ℕ) (refusal : Option ChosenRefusal) where
  module _ (r : Renaming) (x y : Running) (place : ℕ) (command : Command) (more : List Command) (made : Made)
      (u : IsUnderway script held a b r x y place (command ∷ more) made) where
    abbrev n : Naming
    n = naming_at a made x.results

    abbrev m : Naming
    m = naming_at b made y.results

    abbrev twin : Twin
    twin = twin_for n m command

    paired : IsTwin r held twin
    paired = is_twin script r held n m u.names own command (All-head (IsCommandOf script) command more u.declared) u.known.0

    first_item : item_at x.results (command_of script a made command) ≡ one_of twin
    first_item = item_is script a made x.results command ∙ sym (one_is n m command)

    second_item : item_at y.results (command_of script b made command) ≡ other_of twin
    second_item = item_is script b made y.results command ∙ sym (other_is n m u.names.lines command)

    describing : (l : ℕ) → is_line (descriptors_for (command_of script a made command)) l ≡ true → held l ≡ true
    describing = descriptors_held script a made held own command (All-head (IsCommandOf script) command more u.declared)

    -- ---- both execute the command

    module _ (end last : Board) (done told : Done) (ran : IsExecuted x.board (one_of twin) end done)
        (also : IsExecuted y.board (other_of twin) last told) where
      abbrev wide : Renaming
      wide = renamed r (one_of twin) ran.chosen also.chosen

      told_alike : DoneAlike (renamed r (one_of twin) ran.chosen also.chosen) done told
      told_alike = done_after r held u.running.renaming x.board y.board u.running.boards u.running.ready twin paired ran.chosen also.chosen done told ran.result also.result

      running : RunningAlike (renamed r (one_of twin) ran.chosen also.chosen) held (after_command x (command_of script a made command) (one_of twin) end done number)
          (after_command y (command_of script b made command) (other_of twin) last told number)
      running =
          rw (ran.effect_is, also.effect_is)
          (after_alike r held x y u.running twin paired (command_of script a made command) (command_of script b made command) (descriptors_same script a b same made command)
          describing number ran.chosen also.chosen done told ran.fresh also.fresh ran.result also.result)

      names_on : naming_at a (made_after made command place) (x.results ++ done ∷ []) ≡ built_after (naming_at a made x.results) command done
      names_on = subst (λ (p : ℕ). naming_at a (made_after made command p) (x.results ++ done ∷ []) ≡ built_after (naming_at a made x.results) command done) u.count
          (built_on x.results done a made (subst (IsMadeBelow made) (sym u.count) u.below) command)

      other_names_on : naming_at b (made_after made command place) (y.results ++ told ∷ []) ≡ built_after (naming_at b made y.results) command told
      other_names_on = subst (λ (p : ℕ). naming_at b (made_after made command p) (y.results ++ told ∷ []) ≡ built_after (naming_at b made y.results) command told) u.other_count
          (built_on y.results told b made (subst (IsMadeBelow made) (sym u.other_count) u.below) command)

      next_underway : IsUnderway script held a b (renamed r (one_of twin) ran.chosen also.chosen)
          (after_command x (command_of script a made command) (one_of twin) end done number)
          (after_command y (command_of script b made command) (other_of twin) last told number)
          (place + 1) more (made_after made command place)
      next_underway = record {
        running = running;
        names = rw (names_on, other_names_on)
            (built_alike wide n m (names_more r wide (renamed_wider r (one_of twin) ran.chosen also.chosen) n m u.names) command done told told_alike);
        count = length-append x.results (done ∷ []) ∙ ap (λ (k : ℕ). k + 1) u.count;
        other_count = length-append y.results (told ∷ []) ∙ ap (λ (k : ℕ). k + 1) u.other_count;
        below = made_below_next made command place u.below;
        known = subst (λ (names : Names). AreKnown names more)
            (known_on n command done (binds n x.board end command done (subst (λ (item : Item). IsExecuted x.board item end done) (one_is n m command) ran)) ∙ ap known_by (sym names_on))
            u.known.1;
        declared = All-tail (IsCommandOf script) command more u.declared;
        remain = subst (λ (e : Board). Remain e (length more)) (sym ran.effect_is) (remain_after x.board (one_of twin) ran.chosen (length more) u.remain);
        other_remain = rw also.effect_is (remain_after y.board (other_of twin) also.chosen (length more) u.other_remain);
      }

    both_succeed : (next later : Running) → Succeeds x (command_of script a made command) place refusal number next
        → Succeeds y (command_of script b made command) place refusal number later → HaveNext script held a b r next later (place + 1) more (made_after made command place)
    both_succeed next later s t =
        let ran : IsExecuted x.board (one_of twin) s.board s.done = subst (λ (item : Item). IsExecuted x.board item s.board s.done) first_item s.executed in
        let also : IsExecuted y.board (other_of twin) t.board t.done = subst (λ (item : Item). IsExecuted y.board item t.board t.done) second_item t.executed in
        let wide : Renaming = renamed r (one_of twin) ran.chosen also.chosen in
        let is = s.next_is ∙ ap (λ (item : Item). after_command x (command_of script a made command) item s.board s.done number) first_item in
        let its = t.next_is ∙ ap (λ (item : Item). after_command y (command_of script b made command) item t.board t.done number) second_item in
        record {
          wide = wide;
          wider = renamed_wider r (one_of twin) ran.chosen also.chosen;
          underway = rw (is, its) (next_underway s.board t.board s.done t.done ran also);
        }

    -- ---- one refuses it, and the other too

    left : IsUsedUp x.board (one_of twin) → ⊥
    left = not_used_up x.board (length more) u.remain (one_of twin)

    other_left : IsUsedUp y.board (other_of twin) → ⊥
    other_left = not_used_up y.board (length more) u.other_remain (other_of twin)

    refused_one : (code : Code) → Fails x (command_of script a made command) place refusal code → IsRefusedWith x.board (one_of twin) (chosen_at refusal place) code
    refused_one code fails = subst (λ (item : Item). IsRefusedWith x.board item (chosen_at refusal place) code) first_item fails

    refused_other : (code : Code) → Fails y (command_of script b made command) place refusal code → IsRefusedWith y.board (other_of twin) (chosen_at refusal place) code
    refused_other code fails = subst (λ (item : Item). IsRefusedWith y.board item (chosen_at refusal place) code) second_item fails

    not_other : (next : Running) (code : Code) → Succeeds x (command_of script a made command) place refusal number next
        → Fails y (command_of script b made command) place refusal code → ⊥
    not_other next code s fails =
        legal_back r held x y u.running twin paired left other_left (subst (λ (item : Item). IsLegal x.board item) first_item s.executed.legal)
        (chosen_at refusal place) s.not_chosen code (refused_other code fails)

    not_one : (later : Running) (code : Code) → Succeeds y (command_of script b made command) place refusal number later
        → Fails x (command_of script a made command) place refusal code → ⊥
    not_one later code t fails =
        legal_onward r held x y u.running twin paired left other_left (subst (λ (item : Item). IsLegal y.board item) second_item t.executed.legal)
        (chosen_at refusal place) t.not_chosen code (refused_one code fails)

    same_code : (code its : Code) → Fails x (command_of script a made command) place refusal code → Fails y (command_of script b made command) place refusal its
        → code ≡ its
    same_code code its fails also =
        refused_alike r held x y u.running twin paired left other_left (chosen_at refusal place) code its (refused_one code fails) (refused_other its also)

    -- ---- what happens in the one can happen in the other

    succeeds_too : (next : Running) → Succeeds x (command_of script a made command) place refusal number next
        → (later : Running) × Succeeds y (command_of script b made command) place refusal number later
    succeeds_too next s =
        let ran : IsExecuted x.board (one_of twin) s.board s.done = subst (λ (item : Item). IsExecuted x.board item s.board s.done) first_item s.executed in
        let it = choice y.board (length more) u.other_remain (other_of twin) in
        let done = told r held x y u.running twin paired ran.chosen it.0 s.done ran.result in
        let board : Board = effect y.board (other_of twin) it.0 in
        let also : IsExecuted y.board (other_of twin) board done = record {
          chosen = it.0;
          fresh = it.1;
          legal = λ code applies. ran.legal code (applies_back r held u.running.renaming x.board y.board u.running.boards u.running.ready twin paired other_left
              code applies);
          effect_is = refl;
          result = result_there r held x y u.running twin paired ran.chosen it.0 s.done ran.result;
        } in (
          after_command y (command_of script b made command) (item_at y.results (command_of script b made command)) board done number,
          record {
            board = board;
            done = done;
            not_chosen = s.not_chosen;
            executed = subst (λ (item : Item). IsExecuted y.board item board done) (sym second_item) also;
            next_is = refl;
          },
        )

    fails_too : (code : Code) → Fails x (command_of script a made command) place refusal code → Fails y (command_of script b made command) place refusal code
    fails_too code fails =
        let was : IsRefusedWith x.board (one_of twin) (chosen_at refusal place) code = refused_one code fails in
        let it : IsRefusedWith y.board (other_of twin) (chosen_at refusal place) code = record {
          may = refuses_onward r held x y u.running twin paired left other_left (chosen_at refusal place) code was.may;
          first = λ earlier below applies. was.first earlier below
              (refuses_back r held x y u.running twin paired left other_left (chosen_at refusal place) earlier applies);
        } in
        subst (λ (item : Item). IsRefusedWith y.board item (chosen_at refusal place) code) (sym second_item) it

  -- ---- to the end

  ended_here : (r : Renaming) (x y end last : Running) (failure also : Option Failure) → RunningAlike r held x y → end ≡ x → last ≡ y → also ≡ failure
      → HaveEnded held r end last failure also
  ended_here r x y end last failure also running is its same = record {
    wide = r;
    wider = wider_itself r;
    running = subst (λ (v : Running). RunningAlike r held v last) (sym is) (subst (λ (v : Running). RunningAlike r held x v) (sym its) running);
    same = same;
  }

  pub runs_alike : (left : List Command) (r : Renaming) (x y : Running) (place : ℕ) (made : Made) → IsUnderway script held a b r x y place left made
      → (end last : Running) (failure also : Option Failure) → RunsFrom number refusal x place (commands_of script a made place left) end failure
      → RunsFrom number refusal y place (commands_of script b made place left) last also → HaveEnded held r end last failure also
  unfolding RunsFrom
  runs_alike [] r x y place made u end last failure also one other = ended_here r x y end last failure also u.running one.0 other.0 (other.1 ∙ sym one.1)
  runs_alike (command ∷ more) r x y place made u end last failure also (inl (next, s, one)) (inl (later, t, other)) =
      let step = both_succeed r x y place command more made u next later s t in
      let it = runs_alike more step.wide next later (place + 1) (made_after made command place) step.underway end last failure also one other in
      record { wide = it.wide; wider = wider_on r step.wide it.wide step.wider it.wider; running = it.running; same = it.same }
  runs_alike (command ∷ more) r x y place made u end last failure also (inl (next, s, one)) (inr (code, fails, at, tells)) =
      absurd (not_other r x y place command more made u next code s fails)
  runs_alike (command ∷ more) r x y place made u end last failure also (inr (code, fails, at, tells)) (inl (later, t, other)) =
      absurd (not_one r x y place command more made u later code t fails)
  runs_alike (command ∷ more) r x y place made u end last failure also (inr (code, fails, at, tells)) (inr (its, refused, is, told)) =
      ended_here r x y end last failure also u.running at is
      (told ∙ ap (λ (c : Code). Some (record { place = place; code = c })) (sym (same_code r x y place command more made u code its fails refused)) ∙ sym tells)

  pub runs_too : (left : List Command) (r : Renaming) (x y : Running) (place : ℕ) (made : Made) → IsUnderway script held a b r x y place left made
      → (end : Running) (failure : Option Failure) → RunsFrom number refusal x place (commands_of script a made place left) end failure
      → (last : Running) × RunsFrom number refusal y place (commands_of script b made place left) last failure
  unfolding RunsFrom
  runs_too [] r x y place made u end failure runs = (y, (refl, runs.1))
  runs_too (command ∷ more) r x y place made u end failure (inl (next, s, runs)) =
      let t = succeeds_too r x y place command more made u next s in
      let step = both_succeed r x y place command more made u next t.0 s t.1 in
      let rest = runs_too more step.wide next t.0 (place + 1) (made_after made command place) step.underway end failure runs in
      (rest.0, inl (t.0, t.1, rest.1))
  runs_too (command ∷ more) r x y place made u end failure (inr (code, fails, at, tells)) =
      (y, inr (code, fails_too r x y place command more made u code fails, refl, tells))
