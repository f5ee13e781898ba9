-- A request that an agent built runs where identifiers are left: command by command it is executed, up to its end or to one that is refused.
use Rattle.std.proofs.Common.{◌≡◌, ◌∙◌, ◌+◌, ℕ, Bool, true, List, [], ◌∷◌, ◌++◌, length, length-append, Option, Some, None, is_some, refl, sym, ap, subst, true≢false, inl, inr}
use Rattle.std.specs.Prelude.{◌⊎◌, Contains, if◌then◌else◌}
use Rattle.std.specs.List.{All, list_all}
use Rattle.std.proofs.lemmas.List.Elements.{All-head, All-tail, Contains-append_left}
use Rattle.mg_names.specs.declared.codes.Code.{Code}
use Rattle.mg_names.specs.declared.phases.LinkPhase.TheVariants.{Sent, Failed}
use Rattle.mg_model.specs.declared.commands.Command.{Command}
use Rattle.mg_model.specs.declared.failures.Failure.{Failure}
use Rattle.mg_model.specs.declared.items.Item.{Item}
use Rattle.mg_model.specs.declared.steps.StepName.TheVariants.{Refuse}
use Rattle.mg_model.specs.Accepted.{IsScript, IsCommandOf, create_once}
use Rattle.mg_model.specs.Agent.{Agent, Made, bound_by, built_by, command_of, commands_of, made_after, none_made}
use Rattle.mg_model.specs.Configuration.{Configuration, IsWellFormed}
use Rattle.mg_model.specs.Effects.{is_legal, effect}
use Rattle.mg_model.specs.Gateway.{Gateway, start_of}
use Rattle.mg_model.specs.Items.{IsExecuted}
use Rattle.mg_model.specs.Messages.{RequestCommand}
use Rattle.mg_model.specs.Request.{Names, built}
use Rattle.mg_model.specs.RequestRun.{IsRefusedWith, Running, RunsFrom, Succeeds, after_command, item_at}
use Rattle.mg_model.specs.Script.{Script}
use Rattle.mg_model.specs.Steps.{Step, bound_names, creates_unbound, executed, execution, names_unbound, refusals, steps_by_link, steps_of, with_link}
use Rattle.mg_model.specs.Tables.{state_of}
use Rattle.mg_model.proofs.Cases.{and_first, and_second}
use Rattle.mg_model.proofs.Single.{first_in, later_in}
use Rattle.mg_safety.proofs.GoingOn.OneCommand.{IsDone, goes_through}
use Rattle.mg_safety.proofs.GoingOn.Taking.{Remain}
use Rattle.mg_safety.proofs.GoodWorlds.EveryRun.{commands_carry}
use Rattle.mg_safety.proofs.Invariant.CarriedOver.{IsCarried, IsReady}
use Rattle.mg_safety.proofs.Invariant.Shown.{AreBuilt, IsAccounted, Naming, Owner, Seen, Shown, built_after, item_for, known_by, named_after, naming, naming_at, owned_at}
use Rattle.mg_safety.proofs.Invariant.Sound.{Listed, Stands, owned_in, owner_of}
use Rattle.mg_safety.proofs.Invariant.Statements.{IsClosed}
use Rattle.mg_safety.proofs.Requests.RunKnown.{AreKnown, binds, bound_agree, built_all, built_known, built_once, built_pass, known_on, state_is}
use Rattle.mg_safety.proofs.Requests.RunNames.{IsMadeBelow, built_on, item_is, made_below_next, none_below}
use Rattle.mg_safety.proofs.Requests.RunSteps.{all_unbound, formed_with_link}
use Rattle.mg_safety.proofs.Requests.Starting.{shown_at_start}

-- the configuration is well formed before each command that is left, as long as all before it are legal
abbrev AreFormed : Script → Configuration → List Command → Type 0
AreFormed script c [] = Unit {0}
AreFormed script c (command ∷ more) = IsWellFormed c × (is_legal c command ≡ true → AreFormed script (effect script c command) more)

module _ (script : Script) (is_script : IsScript script) (own : Owner) (a : Agent) (number : ℕ) where
  -- a request is at a place: the commands that are left, and the names in force
  record IsOnItsWay (r : Running) (place : ℕ) (left : List Command) (made : Made) (n : Naming) (c : Configuration) : Type 0 where
    count : length r.results ≡ place
    made_below : IsMadeBelow made place
    shown : Shown script (owned_at own r.board) n r.board c
    accounted : IsAccounted r.board
    earlier : (x : ℕ) → own.before x ≡ true → r.board.used_ephemeral x ≡ true
    built : AreBuilt n (naming_at a made r.results) r.board
    known : AreKnown (known_by (naming_at a made r.results)) left
    declared : All (IsCommandOf script) left
    once : create_once left ≡ true
    unbound : list_all (creates_unbound c) left ≡ true
    formed : AreFormed script c left
    remain : Remain r.board (length left)

  module _ (r : Running) (place : ℕ) (command : Command) (more : List Command) (made : Made) (n : Naming) (c : Configuration)
      (u : IsOnItsWay r place (command ∷ more) made n c) where
    ready : IsReady script own n (naming_at a made r.results) r.board c command
    ready = record {
      shown = u.shown;
      well_formed = u.formed.0;
      accounted = u.accounted;
      earlier = u.earlier;
      built = u.built;
      known = u.known.0;
      declared = All-head (IsCommandOf script) command more u.declared;
      unbound = and_first _ _ u.unbound;
    }

    goes : IsDone r.board (item_for (naming_at a made r.results) command) (length more)
        ⊎ ((code : Code) × IsRefusedWith r.board (item_for (naming_at a made r.results) command) None code)
    goes = goes_through script (owned_at own r.board) n (naming_at a made r.results) r.board c u.shown u.built (length more) u.remain command u.known.0

    module _ (d : IsDone r.board (item_for (naming_at a made r.results) command) (length more)) where
      carried : IsCarried script own n (naming_at a made r.results) r.board c command d.board d.done
      carried = commands_carry command script is_script own n (naming_at a made r.results) r.board c d.board d.done ready d.ran

      names_on : naming_at a (made_after made command place) (r.results ++ d.done ∷ []) ≡ built_after (naming_at a made r.results) command d.done
      names_on = subst (λ (p : ℕ). naming_at a (made_after made command p) (r.results ++ d.done ∷ []) ≡ built_after (naming_at a made r.results) command d.done)
          u.count
          (built_on r.results d.done a made (subst (IsMadeBelow made) (sym u.count) u.made_below) command)

      next : Item → Running
      next item = after_command r (command_of script a made command) item d.board d.done number

      next_on_its_way : IsOnItsWay (next (item_for (naming_at a made r.results) command)) (place + 1) more (made_after made command place)
          (named_after n command d.done) (effect script c command)
      unfolding next
      next_on_its_way = record {
        count = length-append r.results (d.done ∷ []) ∙ ap (λ (k : ℕ). k + 1) u.count;
        made_below = made_below_next made command place u.made_below;
        shown = carried.shown;
        accounted = carried.accounted;
        earlier = λ x e. carried.changes.used_ephemeral x (u.earlier x e);
        built = subst (λ (names : Naming). AreBuilt (named_after n command d.done) names d.board) (sym names_on) carried.built;
        known = subst (λ (names : Names). AreKnown names more)
            (known_on (naming_at a made r.results) command d.done (binds (naming_at a made r.results) r.board d.board command d.done d.ran)
            ∙ ap known_by (sym names_on))
            u.known.1;
        declared = All-tail (IsCommandOf script) command more u.declared;
        once = and_second _ _ u.once;
        unbound = all_unbound script c command carried.legal more (and_first _ _ u.once) (and_second _ _ u.unbound);
        formed = u.formed.1 carried.legal;
        remain = d.left;
      }

      same : item_at r.results (command_of script a made command) ≡ item_for (naming_at a made r.results) command
      same = item_is script a made r.results command

      on_its_way : IsOnItsWay (next (item_at r.results (command_of script a made command))) (place + 1) more (made_after made command place)
          (named_after n command d.done) (effect script c command)
      on_its_way = subst (λ (item : Item). IsOnItsWay (next item) (place + 1) more (made_after made command place) (named_after n command d.done)
          (effect script c command)) (sym same) next_on_its_way

      succeeds : Succeeds r (command_of script a made command) place None number (next (item_at r.results (command_of script a made command)))
      unfolding next
      succeeds = record {
        board = d.board;
        done = d.done;
        not_chosen = refl;
        executed = subst (λ (item : Item). IsExecuted r.board item d.board d.done) (sym same) d.ran;
        next_is = refl;
      }

  -- the commands that are left run
  abbrev SomeRun : Running → ℕ → List RequestCommand → Type 0
  SomeRun r place commands = (end : Running) × (failure : Option Failure) × RunsFrom number None r place commands end failure

  some_run : (left : List Command) (r : Running) (place : ℕ) (made : Made) (n : Naming) (c : Configuration) → IsOnItsWay r place left made n c
      → SomeRun r place (commands_of script a made place left)
  unfolding RunsFrom
  some_run [] r place made n c u = (r, None, (refl, refl))
  some_run (command ∷ more) r place made n c u =
      by_outcome (goes r place command more made n c u)
      (λ d. some_run more (next r place command more made n c u d (item_at r.results (command_of script a made command))) (place + 1)
      (made_after made command place) (named_after n command d.done) (effect script c command) (on_its_way r place command more made n c u d))
    where
      by_outcome : IsDone r.board (item_for (naming_at a made r.results) command) (length more)
          ⊎ ((code : Code) × IsRefusedWith r.board (item_for (naming_at a made r.results) command) None code)
          → ((d : IsDone r.board (item_for (naming_at a made r.results) command) (length more))
          → SomeRun (next r place command more made n c u d (item_at r.results (command_of script a made command))) (place + 1)
          (commands_of script a (made_after made command place) (place + 1) more))
          → SomeRun r place (commands_of script a made place (command ∷ more))
      by_outcome (inl d) on =
          let rest = on d in (
            rest.0,
            rest.1,
            inl (
              next r place command more made n c u d (item_at r.results (command_of script a made command)),
              succeeds r place command more made n c u d,
              rest.2,
            ),
          )
      by_outcome (inr (code, fails)) on = (
        r,
        Some (record { place = place; code = code }),
        inr (
          code,
          subst (λ (item : Item). IsRefusedWith r.board item None code) (sym (item_is script a made r.results command)) fails,
          refl,
          refl,
        ),
      )

-- ---- the start

formed_from : (script : Script) (left : List Command) (c : Configuration) (place : ℕ)
    → ((step : Step) → Contains (refusals script c place left) step → IsWellFormed step.1) → AreFormed script c left
formed_from script [] c place each = tt
formed_from script (command ∷ more) c place each = (
  formed_with_link c Failed (each (Refuse place, with_link c Failed) (first_in _ _)),
  λ legal. formed_from script more (effect script c command) (place + 1) (λ step among. each step (later_in _ _ step
      (subst (λ (test : Bool). Contains (if test then refusals script (effect script c command) (place + 1) more else []) step) (sym legal) among))),
)

module _ (script : Script) (is : IsScript script) (Among : Listed) (closed : IsClosed script Among) where
  -- the request of an agent whose configuration has it as sent, and that some numbers are left for
  pub request_runs : (g : Gateway) (a : Agent) (c : Configuration) → Stands script Among c → c.link ≡ Sent → c.state ≡ a.state
      → Seen script (owned_in g a.call) (naming a) g.board c → IsAccounted g.board → Remain g.board (length (built_by script a a.state)) → (number : ℕ)
      → (end : Running) × (failure : Option Failure)
      × RunsFrom number None (start_of g) 0 (commands_of script a none_made 0 (built_by script a a.state)) end failure
  request_runs g a c stands sent state seen accounted remain number =
      some_run script is (owner_of g a.call) a number (built_by script a a.state) (start_of g) 0 none_made (naming a) c (record {
        count = refl;
        made_below = none_below;
        shown = shown;
        accounted = accounted;
        earlier = λ x e. e;
        built = record {
          lines = refl;
          context = λ j x e. e;
          context_lost = λ j x e none. absurd (true≢false (ap is_some (sym e ∙ none)));
          context_real = shown.context_real;
          ephemeral = λ k x e. e;
          ephemeral_lost = λ k x e none. absurd (true≢false (ap is_some (sym e ∙ none)));
          ephemeral_given = λ k x e. accounted.ephemerals x (shown.ephemeral_stands k x e);
        };
        known = built_known (bound_by a) (state_of script a.state).commands;
        declared = built_all (IsCommandOf script) (bound_by a) (state_of script a.state).commands (state_is script is a.state).0;
        once = built_once (bound_by a) (state_of script a.state).commands (state_is script is a.state).1;
        unbound = built_pass (creates_unbound c) (bound_by a) (state_of script a.state).commands
            (ap (λ i. list_all (creates_unbound c) (state_of script i).commands) (sym state) ∙ unbound);
        formed = formed_from script (built_by script a a.state) c 0 formed;
        remain = remain;
      })
    where
      unbound : names_unbound script c ≡ true
      unbound = closed.unbound c stands sent

      shown : Shown script (owned_in g a.call) (naming a) g.board c
      shown = shown_at_start script (owned_in g a.call) (naming a) g.board c seen stands.formed stands.of_script accounted
          (closed.live c stands (inl sent))

      same : built_by script a a.state ≡ built (bound_names c) (state_of script c.state).commands
      same = ap (λ known. built known (state_of script a.state).commands) (bound_agree script (owned_in g a.call) a g.board c seen stands.of_script)
          ∙ ap (λ i. built (bound_names c) (state_of script i).commands) (sym state)

      -- the refusals of the request are steps of the configuration
      among_steps : (step : Step) → Contains (refusals script c 0 (built_by script a a.state)) step → Contains (steps_of script c) step
      among_steps step among =
          let request = built (bound_names c) (state_of script c.state).commands in
          subst (λ l. Contains (steps_by_link script c l) step) (sym sent)
          (subst (λ (test : Bool). Contains (if test then refusals script c 0 request ++ execution (executed script c request) else []) step) (sym unbound)
          (Contains-append_left (refusals script c 0 request) (execution (executed script c request)) step
          (subst (λ (left : List Command). Contains (refusals script c 0 left) step) same among)))

      formed : (step : Step) → Contains (refusals script c 0 (built_by script a a.state)) step → IsWellFormed step.1
      formed step among = (closed.steps c step stands (among_steps step among)).formed
