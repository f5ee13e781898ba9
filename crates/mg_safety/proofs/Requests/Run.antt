-- A request runs: by induction over its commands the present configuration is shown and stands in the certificate with the link Failed, and
-- at the end with the link Answered. Where the gateway chooses no refusal it comes to the configuration that the request makes of its own accord.
use Rattle.mg_safety.proofs.Invariant.Sound.{Listed}
use Rattle.mg_safety.proofs.Words.{◌≡◌, ◌∙◌, ◌+◌, ℕ, suc, Some, None, arith, option_map, false_from_ne_true, none_is_some, Bool, true, false, List, [], ◌∷◌}
use Rattle.mg_safety.proofs.Words.{◌++◌, length, Option, is_some, refl, sym, ap, subst, true≢false, inl}
use Rattle.mg_safety.proofs.Words.{inr, length-append, append_assoc, Contains-append_right, All-head, All-tail, Contains, if◌then◌else◌, All, list_all}
use Rattle.mg_safety.proofs.Words.{ChosenRefusal, Failure, Line, Sent, Answered, Failed, Command, Refuse, Execute, Agent, Made, after_result, after_results}
use Rattle.mg_safety.proofs.Words.{bound_by, built_by, command_of, commands_of, made_after, none_made, Board, Configuration, is_legal, effect, Gateway}
use Rattle.mg_safety.proofs.Words.{start_of, Done, IsExecuted, Names, built, Running, Succeeds, after_command, line_after, descriptors_for, is_line, Script}
use Rattle.mg_safety.proofs.Words.{Step, creates_unbound, executed, execution, refusals, steps_by_link, with_link, names_unbound, bound_names, state_of}
use Rattle.mg_safety.proofs.Words.{IsScript, IsCommandOf, create_once, first_in, and_first, and_second, no_results}
use Rattle.mg_names.specs.declared.phases.LinkPhase as phases
use Rattle.std.proofs.lemmas.List.{append-nil}
use Rattle.mg_names.specs.declared.codes.Code.{Code}
use Rattle.mg_model.specs.Failures.{code_of}
use Rattle.mg_model.specs.Items.{Applies}
use Rattle.mg_model.specs.RequestRun.{Fails, MayRefuse, RunsFrom, chosen_at, item_at}
use Rattle.mg_model.proofs.Cases.{where_false, where_true}
use Rattle.mg_safety.specs.Ending.{undisturbed}
use Rattle.mg_safety.proofs.Commands.Allowed.{LegalIsAllowed}
use Rattle.mg_safety.proofs.GoingOn.Taking.{Remain, fewer_remain, left_after, not_used_up}
use Rattle.mg_safety.proofs.InvariantWords.{IsReady, IsCarried, IsCarriedOver, Naming, naming, naming_at, Shown, Seen, LinesShown, IsAccounted, owned_at}
use Rattle.mg_safety.proofs.InvariantWords.{AreBuilt, known_by, item_for, built_after, ChangesOwned, Stands, owner_of, owned_in, link_of, IsClosed, IsRunOf}
use Rattle.mg_safety.proofs.InvariantWords.{LineGoes, RequestsRun}
use Rattle.mg_safety.proofs.Requests.RunCarried.{lines_carried}
use Rattle.mg_safety.proofs.Requests.RunKnown.{AreKnown, binds, bound_agree, built_all, built_known, built_once, built_pass, known_on, state_is}
use Rattle.mg_safety.proofs.Requests.RunNames.{IsMadeBelow, built_on, item_is, made_below_next, named_on, none_below}
use Rattle.mg_safety.proofs.Requests.RunNotes.{AreNotes, described_held, goes_on, line_goes, no_notes, notes_carried, other_line}
use Rattle.mg_safety.proofs.Requests.RunSteps.{all_unbound, changes_on, effect_state, formed_with_link, lines_with_link, of_script_with_link, shown_still}
use Rattle.mg_safety.proofs.Requests.RunSteps.{unchanged}
use Rattle.mg_safety.proofs.Requests.Starting.{shown_at_start}

-- each command is carried over
abbrev pub CommandsCarry : Type 0
CommandsCarry = (command : Command) → IsCarriedOver command

-- a request was run on from a configuration. Where no refusal is chosen and identifiers are left for its commands and to spare, it came to what is made of
-- the configuration undisturbed, and those to spare are left
pub record IsRunFrom (script : Script) (Among : Listed) (g : Gateway) (a : Agent) (number : ℕ) (refusal : Option ChosenRefusal) (b : Board) (c : Configuration)
    (left : List Command) (end : Running) (failure : Option Failure) : Type 0 where
  pub run : IsRunOf script Among g a number end failure
  pub comes_to : LegalIsAllowed → refusal ≡ None → (spare : ℕ) → Remain b (length left + spare)
      → (run.c ≡ undisturbed script c left) × Remain end.board spare

-- the steps of the commands that are left
abbrev steps_left : Script → Configuration → ℕ → List Command → List Step
steps_left script c place left = refusals script c place left ++ execution (executed script c left)

-- a request of an agent is at a place: what was done, and the commands that are left
record IsUnderway (script : Script) (Among : Listed) (g : Gateway) (a : Agent) (number : ℕ) (r : Running)
    (place : ℕ) (left : List Command) (made : Made) (e : Agent) (c : Configuration) : Type 0 where
  -- the results so far, and the agent as it will be once it has taken them
  count : length r.results ≡ place
  follows : (more : List Done) → after_results a (built_by script a a.state) (r.results ++ more) number ≡ after_results e left more number
  made_below : IsMadeBelow made place
  -- what the gateway shows
  shown : Shown script (owned_at (owner_of g a.call) r.board) (naming e) r.board c
  lines_shown : LinesShown script e r.line c
  accounted : IsAccounted r.board
  built : AreBuilt (naming e) (naming_at a made r.results) r.board
  -- the commands that are left
  known : AreKnown (known_by (naming_at a made r.results)) left
  declared : All (IsCommandOf script) left
  once : create_once left ≡ true
  unbound : list_all (creates_unbound c) left ≡ true
  -- the certificate
  state : c.state ≡ a.state
  steps : (step : Step) → Contains (steps_left script c place left) step → Stands script Among step.1
  -- what changed since the start
  changes : ChangesOwned (owner_of g a.call) g.board r.board
  other_lines : (l : ℕ) → (owner_of g a.call).held l ≡ false → r.line l ≡ g.line l
  own_lines : (l : ℕ) → LineGoes number (g.line l) (r.line l)
  notes : AreNotes (owner_of g a.call).held number r.line r.notes

module _ (script : Script) (is_script : IsScript script) (Among : Listed) (g : Gateway) (a : Agent) (number : ℕ) where
  -- the request ends at this place
  ended : (r : Running) (place : ℕ) (left : List Command) (made : Made) (e : Agent) (c : Configuration) (link : phases.LinkPhase) (failure : Option Failure)
      → IsUnderway script Among g a number r place left made e c → Stands script Among (with_link c link) → link ≡ link_of failure
      → (run : IsRunOf script Among g a number r failure) × (run.c ≡ with_link c link)
  ended r place left made e c link failure u stands is =
      let taken : e ≡ after_results a (built_by script a a.state) r.results number =
      sym (ap (λ results. after_results a (built_by script a a.state) results number) (sym (append-nil r.results))
      ∙ u.follows [] ∙ no_results e left number) in (
        record {
          c = with_link c link;
          stands = stands;
          link = is;
          state = u.state;
          shown = subst (λ (x : Agent). Shown script (owned_at (owner_of g a.call) r.board) (naming x) r.board (with_link c link)) taken
              (shown_still script (owned_at (owner_of g a.call) r.board) (naming e) r.board c c.state link u.shown);
          lines_shown = subst (λ (x : Agent). LinesShown script x r.line (with_link c link)) taken (lines_with_link script e r.line c link u.lines_shown);
          accounted = u.accounted;
          changes = u.changes;
          other_lines = u.other_lines;
          own_lines = u.own_lines;
          notes = λ l note among. let is = u.notes l note among in (is.0, is.1.0, is.1.1);
        },
        refl,
      )

  -- what a command that is next asks
  ready : (r : Running) (place : ℕ) (command : Command) (more : List Command) (made : Made) (e : Agent) (c : Configuration)
      → IsUnderway script Among g a number r place (command ∷ more) made e c
      → IsReady script (owner_of g a.call) (naming e) (naming_at a made r.results) r.board c command
  ready r place command more made e c u = record {
    shown = u.shown;
    well_formed = formed_with_link c Failed (u.steps (Refuse place, with_link c Failed) (first_in _ _)).formed;
    accounted = u.accounted;
    earlier = u.changes.used_ephemeral;
    built = u.built;
    known = u.known.0;
    declared = All-head (IsCommandOf script) command more u.declared;
    unbound = and_first _ _ u.unbound;
  }

  -- the steps of a legal command and those after it
  steps_on : (c : Configuration) (place : ℕ) (command : Command) (more : List Command) → is_legal c command ≡ true
      → steps_left script c place (command ∷ more) ≡ (Refuse place, with_link c Failed) ∷ steps_left script (effect script c command) (place + 1) more
  steps_on c place command more legal = rw legal refl

  module _ (r : Running) (place : ℕ) (command : Command) (more : List Command) (made : Made) (e : Agent) (c : Configuration)
      (u : IsUnderway script Among g a number r place (command ∷ more) made e c) (board : Board) (done : Done)
      (ran : IsExecuted r.board (item_for (naming_at a made r.results) command) board done)
      (carried : IsCarried script (owner_of g a.call) (naming e) (naming_at a made r.results) r.board c command board done) where
    declared_next : IsCommandOf script command
    declared_next = All-head (IsCommandOf script) command more u.declared

    names_on : naming_at a (made_after made command place) (r.results ++ done ∷ []) ≡ built_after (naming_at a made r.results) command done
    names_on = subst (λ p. naming_at a (made_after made command p) (r.results ++ done ∷ []) ≡ built_after (naming_at a made r.results) command done) u.count
        (built_on r.results done a made (subst (IsMadeBelow made) (sym u.count) u.made_below) command)

    describing : (l : ℕ) → is_line (descriptors_for (command_of script a made command)) l ≡ true → (owner_of g a.call).held l ≡ true
    describing = described_held script (owner_of g a.call) e a made r.results r.board c u.shown u.built command declared_next

    taken_on : (later : List Done) → after_results a (built_by script a a.state) ((r.results ++ done ∷ []) ++ later) number
        ≡ after_results (after_result e command done number) more later number
    taken_on later = ap (λ results. after_results a (built_by script a a.state) results number) (append_assoc r.results (done ∷ []) later)
        ∙ u.follows (done ∷ later)

    -- the request after a command
    next_underway : IsUnderway script Among g a number
        (after_command r (command_of script a made command) (item_for (naming_at a made r.results) command) board done number)
        (place + 1) more (made_after made command place) (after_result e command done number) (effect script c command)
    next_underway = record {
      count = length-append r.results (done ∷ []) ∙ ap (λ n. n + 1) u.count;
      follows = taken_on;
      made_below = made_below_next made command place u.made_below;
      shown = subst (λ (n : Naming). Shown script (owned_at (owner_of g a.call) board) n board (effect script c command))
          (sym (named_on e command done number)) carried.shown;
      lines_shown = lines_carried script (owner_of g a.call) e a made r c number u.shown u.built u.lines_shown command board done
          declared_next carried.legal ran;
      accounted = carried.accounted;
      built = subst (λ (m : Naming). AreBuilt (naming (after_result e command done number)) m board) (sym names_on)
          (subst (λ (n : Naming). AreBuilt n (built_after (naming_at a made r.results) command done) board)
          (sym (named_on e command done number)) carried.built);
      known = subst (λ (names : Names). AreKnown names more)
          (known_on (naming_at a made r.results) command done (binds (naming_at a made r.results) r.board board command done ran)
          ∙ ap known_by (sym names_on)) u.known.1;
      declared = All-tail (IsCommandOf script) command more u.declared;
      once = and_second _ _ u.once;
      unbound = all_unbound script c command carried.legal more (and_first _ _ u.once) (and_second _ _ u.unbound);
      state = effect_state script c command ∙ u.state;
      steps = λ step among. u.steps step (subst (λ (steps : List Step). Contains steps step) (sym (steps_on c place command more carried.legal))
          (Contains-append_right ((Refuse place, with_link c Failed) ∷ []) (steps_left script (effect script c command) (place + 1) more) step among));
      changes = changes_on (owner_of g a.call) g.board r.board board u.changes carried.changes;
      other_lines = λ l other. other_line (owner_of g a.call).held r (command_of script a made command) (item_for (naming_at a made r.results) command) number
          (λ x leaves. carried.leaving (Line (record { 0 = x })) leaves) describing l other ∙ u.other_lines l other;
      own_lines = λ l. goes_on number (g.line l) (r.line l)
          (line_after r (command_of script a made command) (item_for (naming_at a made r.results) command) number l) (u.own_lines l)
          (line_goes r (command_of script a made command) (item_for (naming_at a made r.results) command) number l);
      notes = notes_carried (owner_of g a.call).held r (command_of script a made command) (item_for (naming_at a made r.results) command) number
          describing u.notes;
    }

  -- a command that was executed
  module _ (carry : CommandsCarry) (r next : Running) (place : ℕ) (refusal : Option ChosenRefusal) (command : Command) (more : List Command) (made : Made)
      (e : Agent) (c : Configuration) (u : IsUnderway script Among g a number r place (command ∷ more) made e c)
      (x : Succeeds r (command_of script a made command) place refusal number next) where
    same_item : item_at r.results (command_of script a made command) ≡ item_for (naming_at a made r.results) command
    same_item = item_is script a made r.results command

    ran : IsExecuted r.board (item_for (naming_at a made r.results) command) x.board x.done
    ran = subst (λ item. IsExecuted r.board item x.board x.done) same_item x.executed

    carried : IsCarried script (owner_of g a.call) (naming e) (naming_at a made r.results) r.board c command x.board x.done
    carried = carry command script is_script (owner_of g a.call) (naming e) (naming_at a made r.results) r.board c x.board x.done
        (ready r place command more made e c u) ran

    went : IsUnderway script Among g a number next (place + 1) more (made_after made command place) (after_result e command x.done number)
        (effect script c command)
    went = subst (λ (then_running : Running). IsUnderway script Among g a number then_running (place + 1) more (made_after made command place)
        (after_result e command x.done number) (effect script c command))
        (ap (λ item. after_command r (command_of script a made command) item x.board x.done number) (sym same_item) ∙ sym x.next_is)
        (next_underway r place command more made e c u x.board x.done ran carried)

    -- it took what it created
    left_then : (spare : ℕ) → Remain r.board (length (command ∷ more) + spare) → Remain next.board (length more + spare)
    left_then spare left = subst (λ (b : Board). Remain b (length more + spare))
        (sym (ap (λ (later : Running). later.board) x.next_is ∙ x.executed.effect_is))
        (left_after r.board (item_at r.results (command_of script a made command)) (length more + spare) x.executed.chosen
        (fewer_remain r.board (length (command ∷ more) + spare) (suc (length more + spare)) (omega arith) left))

    comes_on : (end : Running) (failure : Option Failure)
        → IsRunFrom script Among g a number refusal next.board (effect script c command) more end failure
        → IsRunFrom script Among g a number refusal r.board c (command ∷ more) end failure
    comes_on end failure rest = record {
      run = rest.run;
      comes_to = λ allowed none spare left.
          let it = rest.comes_to allowed none spare (left_then spare left) in (
            it.0 ∙ sym (where_true (is_legal c command) (undisturbed script (effect script c command) more) (with_link c Failed) carried.legal),
            it.1,
          );
    }

  -- a command that was refused, though no refusal was chosen, is illegal
  module _ (r : Running) (place : ℕ) (refusal : Option ChosenRefusal) (command : Command) (more : List Command) (made : Made) (e : Agent) (c : Configuration)
      (u : IsUnderway script Among g a number r place (command ∷ more) made e c) (code : Code)
      (fails : Fails r (command_of script a made command) place refusal code) where
    applies : refusal ≡ None → Applies r.board (item_for (naming_at a made r.results) command) code
    applies none = subst (λ item. Applies r.board item code) (item_is script a made r.results command) (of_itself fails.may)
      where
        of_itself : MayRefuse r.board (item_at r.results (command_of script a made command)) (chosen_at refusal place) code
            → Applies r.board (item_at r.results (command_of script a made command)) code
        of_itself (inl is) = is
        of_itself (inr chosen) = absurd (none_is_some code
            (sym (ap (λ (o : Option ChosenRefusal). option_map code_of (chosen_at o place)) none) ∙ chosen))

    stands_there : Stands script Among (with_link c Failed)
    stands_there = u.steps (Refuse place, with_link c Failed) (first_in _ _)

    illegal : LegalIsAllowed → refusal ≡ None → (spare : ℕ) → Remain r.board (length (command ∷ more) + spare) → is_legal c command ≡ false
    illegal allowed none spare left = false_from_ne_true (is_legal c command) (λ legal.
        allowed command script is_script (owner_of g a.call) (naming e) (naming_at a made r.results) r.board c
        (ready r place command more made e c u) (of_script_with_link script c Failed stands_there.of_script)
        (not_used_up r.board (length more + spare) (fewer_remain r.board (length (command ∷ more) + spare) (suc (length more + spare)) (omega arith) left)
        (item_for (naming_at a made r.results) command)) legal code (applies none))

    stops : (failure : Option Failure) → failure ≡ Some (record { place = place; code = code })
        → IsRunFrom script Among g a number refusal r.board c (command ∷ more) r failure
    stops failure is =
        let done = ended r place (command ∷ more) made e c Failed failure u stands_there (ap link_of (sym is)) in
        record {
          run = done.0;
          comes_to = λ allowed none spare left. (
            done.1 ∙ sym (where_false (is_legal c command) (undisturbed script (effect script c command) more) (with_link c Failed)
                (illegal allowed none spare left)),
            fewer_remain r.board (length (command ∷ more) + spare) spare (omega arith) left,
          );
        }

  -- the commands that are left run
  runs_on : CommandsCarry → (refusal : Option ChosenRefusal) (end : Running) (failure : Option Failure) (left : List Command) (r : Running) (place : ℕ)
      (made : Made) (e : Agent) (c : Configuration) → IsUnderway script Among g a number r place left made e c
      → RunsFrom number refusal r place (commands_of script a made place left) end failure
      → IsRunFrom script Among g a number refusal r.board c left end failure
  unfolding RunsFrom
  runs_on carry refusal end failure [] r place made e c u runs =
      let done = ended r place [] made e c Answered failure u (u.steps (Execute, with_link c Answered) (first_in _ [])) (ap link_of (sym runs.1)) in
      subst (λ (last : Running). IsRunFrom script Among g a number refusal r.board c [] last failure) (sym runs.0) (record {
        run = done.0;
        comes_to = λ allowed none spare left. (done.1, fewer_remain r.board (length {A = Command} [] + spare) spare (omega arith) left);
      })
  runs_on carry refusal end failure (command ∷ more) r place made e c u (inl (next, executes, rest)) =
      comes_on carry r next place refusal command more made e c u executes end failure
      (runs_on carry refusal end failure more next (place + 1) (made_after made command place) (after_result e command executes.done number)
      (effect script c command) (went carry r next place refusal command more made e c u executes) rest)
  runs_on carry refusal end failure (command ∷ more) r place made e c u (inr (code, fails, last, is)) =
      subst (λ (last : Running). IsRunFrom script Among g a number refusal r.board c (command ∷ more) last failure) (sym last)
      (stops r place refusal command more made e c u code fails failure is)

-- ---- the start

steps_sent : (script : Script) (c : Configuration) (link : phases.LinkPhase) (commands : List Command) → link ≡ Sent → names_unbound script c ≡ true
    → commands ≡ built (bound_names c) (state_of script c.state).commands → steps_by_link script c link ≡ steps_left script c 0 commands
steps_sent script c link commands sent unbound is =
    ap (λ l. steps_by_link script c l) sent ∙ chosen (names_unbound script c) unbound ∙ ap (steps_left script c 0) (sym is)
  where
    chosen : (test : Bool) → test ≡ true
        → (if test then steps_left script c 0 (built (bound_names c) (state_of script c.state).commands) else [])
        ≡ steps_left script c 0 (built (bound_names c) (state_of script c.state).commands)
    chosen test e = rw e refl

underway_at_start : (script : Script) → IsScript script → (Among : Listed) → IsClosed script Among → (g : Gateway) (a : Agent) (c : Configuration)
    → Stands script Among c → c.link ≡ Sent → c.state ≡ a.state → Seen script (owned_in g a.call) (naming a) g.board c
    → LinesShown script a g.line c → IsAccounted g.board → (number : ℕ)
    → IsUnderway script Among g a number (start_of g) 0 (built_by script a a.state) none_made a c
underway_at_start script is Among closed g a c stands sent state seen lines_shown accounted number =
    let shown = shown_at_start script (owned_in g a.call) (naming a) g.board c seen stands.formed stands.of_script accounted
    (closed.live c stands (inl sent)) in
    let names = bound_agree script (owned_in g a.call) a g.board c seen stands.of_script in
    let commands = (state_of script a.state).commands in
    let unbound : names_unbound script c ≡ true = closed.unbound c stands sent in
    let same : built_by script a a.state ≡ built (bound_names c) (state_of script c.state).commands =
    ap (λ known. built known commands) names ∙ ap (λ i. built (bound_names c) (state_of script i).commands) (sym state) in
    record {
      count = refl;
      follows = λ more. refl;
      made_below = none_below;
      shown = shown;
      lines_shown = lines_shown;
      accounted = accounted;
      built = record {
        lines = refl;
        context = λ j x e. e;
        context_lost = λ j x e none. absurd (true≢false (ap is_some (sym e ∙ none)));
        context_real = shown.context_real;
        ephemeral = λ k x e. e;
        ephemeral_lost = λ k x e none. absurd (true≢false (ap is_some (sym e ∙ none)));
        ephemeral_given = λ k x e. accounted.ephemerals x (shown.ephemeral_stands k x e);
      };
      known = built_known (bound_by a) commands;
      declared = built_all (IsCommandOf script) (bound_by a) commands (state_is script is a.state).0;
      once = built_once (bound_by a) commands (state_is script is a.state).1;
      unbound = built_pass (creates_unbound c) (bound_by a) commands
          (ap (λ i. list_all (creates_unbound c) (state_of script i).commands) (sym state) ∙ unbound);
      state = state;
      steps = λ step among. closed.steps c step stands
          (subst (λ (steps : List Step). Contains steps step) (sym (steps_sent script c c.link (built_by script a a.state) sent unbound same)) among);
      changes = unchanged (owner_of g a.call) g.board;
      other_lines = λ l other. refl;
      own_lines = λ l. inr (inr (refl, refl));
      notes = λ l note among. no_notes l note among;
    }

-- a request that was built runs
pub requests_come : CommandsCarry → (script : Script) (Among : Listed) → IsScript script → IsClosed script Among → (g : Gateway) (a : Agent) (c : Configuration)
    → Stands script Among c → c.link ≡ Sent → c.state ≡ a.state → Seen script (owned_in g a.call) (naming a) g.board c
    → LinesShown script a g.line c → IsAccounted g.board → (number : ℕ) (refusal : Option ChosenRefusal) (end : Running) (failure : Option Failure)
    → RunsFrom number refusal (start_of g) 0 (commands_of script a none_made 0 (built_by script a a.state)) end failure
    → IsRunFrom script Among g a number refusal g.board c (built_by script a a.state) end failure
requests_come carry script Among is closed g a c stands sent state seen lines_shown accounted number refusal end failure runs =
    runs_on script is Among g a number carry refusal end failure (built_by script a a.state) (start_of g) 0 none_made a c
    (underway_at_start script is Among closed g a c stands sent state seen lines_shown accounted number) runs

pub requests_run : CommandsCarry → RequestsRun
requests_run carry script Among is closed g a c stands sent state seen lines_shown accounted number refusal end failure runs =
    (requests_come carry script Among is closed g a c stands sent state seen lines_shown accounted number refusal end failure runs).run
