-- Who stays in a context as a request is executed, so that the context exists to its end.
use Rattle.std.proofs.Common.{◌≡◌, ◌∙◌, ℕ, zero, suc, ◌==◌, ◌||◌, Bool, true, false, not, if◌then◌else◌, List, [], ◌∷◌, map, refl, sym, ap, subst, arith, IsTrue, Contains, Result, slice_index_or}
use Rattle.std.specs.Prelude.{IfOk}
use Rattle.std.proofs.lemmas.Result.{IfOk-weaker}
use Rattle.std.specs.List.{All, list_any}
use Rattle.std.proofs.lemmas.List.Elements.{All-nil, All-cons, All-head, All-tail}
use Rattle.mg_names.specs.declared.context_values.ContextValue.{ContextValue}
use Rattle.mg_names.specs.declared.context_values.ContextValue.TheVariants.{Free, Live, Stale}
use Rattle.mg_model.specs.declared.commands.Command.{Command}
use Rattle.mg_model.specs.declared.commands.Command.TheVariants.{AddLine, AddEphemeral, ModifyLine, ModifyEphemeral, MoveLine, MoveEphemeral, Subtract, SubtractAll, SetTopology}
use Rattle.mg_model.specs.declared.commands.Termination.{Termination}
use Rattle.mg_model.specs.declared.commands.Termination.TheVariants.{Line, Ephemeral}
use Rattle.mg_model.specs.declared.components.Spot.{Spot}
use Rattle.mg_model.specs.declared.components.Spot.TheVariants.{In}
use Rattle.mg_model.specs.Script.{Script}
use Rattle.mg_model.specs.Configuration.{Configuration, IsWellFormed, is_in, is_live, is_same, stands_in, terminations}
use Rattle.mg_model.specs.Effects.{effect, spot_after}
use Rattle.mg_model.specs.Request.{Names, built, names_after, uses_known}
use Rattle.mg_model.proofs.Cases.{not_both}
use Rattle.mg_model.proofs.Terminations.{is_in_is, is_same_is, is_same_turned}
use Rattle.configuration.specs.Config.{configuration_of}
use Rattle.configuration.specs.Packed.{Words}
use Rattle.closure.specs.Elementwise.{settled_at}
use Rattle.closure.specs.Hulls.{IsInHull}
use Rattle.closure.specs.Placing.{IsNowhere, IsSettledAt, unsettled, valued_at}
use Rattle.closure.specs.Surviving.{Survives, DoSurvive, SparesAll, spares}
use Rattle.closure.proofs.HullPlaces.{one_passes, valued_in_hull}

-- ---- a command

module _ (script : Script) (c : Configuration) (n : ℕ) (t : Termination) (here : IsTrue (is_in (c.spot t) n)) where
  -- one whom a change leaves out
  left_out : (b : Bool) (spot : Spot) → IsTrue (not b) → IsTrue (is_in (if b then spot else c.spot t) n)
  left_out true spot out = absurd (cc (out))
  left_out false spot out = here

  -- one who stays isn't in the context that all leave
  elsewhere : (j : ℕ) → IsTrue (not (n == j)) → IsTrue (not (is_in (c.spot t) j))
  elsewhere j apart = subst (λ (spot : Spot). IsTrue (not (is_in spot j))) (sym (is_in_is (c.spot t) n here)) apart

  stays_put : (command : Command) → IsTrue (spares command t n) → IsTrue (is_in ((unsettled script command c).spot t) n)
  stays_put (AddLine create j i options) spared = left_out (is_same t (Line i)) (In j) spared
  stays_put (AddEphemeral create j k options) spared = left_out (is_same t (Ephemeral k)) (In j) spared
  stays_put (ModifyLine place i options) spared = here
  stays_put (ModifyEphemeral place k options) spared = here
  stays_put (MoveLine j i options) spared = left_out (is_same t (Line i)) (In j) spared
  stays_put (MoveEphemeral j k options) spared = left_out (is_same t (Ephemeral k)) (In j) spared
  stays_put (Subtract j u) spared = left_out (is_same u t) (spot_after t) spared
  stays_put (SubtractAll j) spared = left_out (is_in (c.spot t) j) (spot_after t) (elsewhere j spared)
  stays_put (SetTopology j u v topology) spared = here

-- who stays still stands there, and stays
pub survive_after : (script : Script) (c : Configuration) (command : Command) (more : List Command) (surviving : List Bool)
    → DoSurvive c (command ∷ more) surviving → DoSurvive (effect script c command) more surviving
survive_after script c command more surviving survive n is =
    let survives = survive n is in
    let t = survives.0 in
    let here = survives.1.1.0 in
    let spared = survives.1.1.1 in (
      t,
      (
        survives.1.0,
        (
          stays_put script c n t here command (All-head (λ (x : Command). IsTrue (spares x t n)) command more spared),
          All-tail (λ (x : Command). IsTrue (spares x t n)) command more spared,
        ),
      ),
    )

pub survive_one : (c : Configuration) (command : Command) (more : List Command) (surviving : List Bool)
    → DoSurvive c (command ∷ more) surviving → DoSurvive c (command ∷ []) surviving
survive_one c command more surviving survive n is =
    let survives = survive n is in
    let P : Command → Type 0 = λ x. IsTrue (spares x survives.0 n) in (
      survives.0,
      (survives.1.0, (survives.1.1.0, All-cons P command [] (All-head P command more survives.1.1.1) (All-nil P))),
    )

-- a context in which somebody stays exists after a command
survivor_stands : (script : Script) (c : Configuration) (command : Command) (n : ℕ) → Survives c (command ∷ []) n
    → stands_in (unsettled script command c).spot n ≡ true
survivor_stands script c command n survives =
    one_passes (λ (t : Termination). is_in ((unsettled script command c).spot t) n) terminations survives.0 survives.1.0
    (stays_put script c n survives.0 survives.1.1.0 command (All-head (λ (x : Command). IsTrue (spares x survives.0 n)) command [] survives.1.1.1))

pub surviving_settled : {E : Type 0} (some before : List Configuration) (command : Command) (surviving : List Bool) (n : ℕ) → slice_index_or surviving n false ≡ true
    → (made : Result (List Words) E) → IfOk made (λ m. map configuration_of m ≡ map (valued_at n true) before)
    → IfOk made (λ m. (script : Script) → IsSettledAt script some command surviving n before (map configuration_of m))
surviving_settled some before command surviving n does_survive made =
    IfOk-weaker made (λ m. map configuration_of m ≡ map (valued_at n true) before)
    (λ m. (script : Script) → IsSettledAt script some command surviving n before (map configuration_of m))
    (λ m is script c x inside formed legal survive absent spots names before_x.
    subst (λ (ds : List Configuration). IsInHull ds (settled_at x n)) (sym is)
    (valued_in_hull before n true x before_x
    (ap (λ (spot : Termination → Spot). stands_in spot n) spots ∙ survivor_stands script c command n (survive n does_survive))))

-- ---- a request

-- what holds of each command holds of those that are kept
built_all : (P : Command → Type 0) (names : Names) (commands : List Command) → All P commands → All P (built names commands)
built_all P names [] each = each
built_all P names (command ∷ more) each = by_test (uses_known names command) (built_all P (names_after names command) more (All-tail P command more each))
    (built_all P names more (All-tail P command more each)) (All-head P command more each)
  where
    by_test : (b : Bool) → All P (built (names_after names command) more) → All P (built names more) → P command
        → All P (if b then command ∷ built (names_after names command) more else built names more)
    by_test true kept left first = All-cons P command (built (names_after names command) more) first kept
    by_test false kept left first = left

pub survive_built : (c : Configuration) (names : Names) (commands : List Command) (surviving : List Bool) → DoSurvive c commands surviving
    → DoSurvive c (built names commands) surviving
survive_built c names commands surviving survive n is =
    let survives = survive n is in
    (survives.0, (survives.1.0, (survives.1.1.0, built_all (λ (x : Command). IsTrue (spares x survives.0 n)) names commands survives.1.1.1)))

-- ---- who stays in all of a hull

pub exists_live : (v : ContextValue) → is_live v ≡ true → v ≡ Live
exists_live Live e = refl
exists_live Free e = absurd (cc (e))
exists_live Stale e = absurd (cc (e))

-- where some pass a test, one does
some_passes : {X : Type 0} (test : X → Bool) (xs : List X) → list_any test xs ≡ true → (x : X) × (Contains xs x × (test x ≡ true))
some_passes test [] passes = absurd (cc (passes))
some_passes {X} test (y ∷ xs) passes = by_test (test y) refl (some_passes test xs) passes
  where
    by_test : (b : Bool) → test y ≡ b → (list_any test xs ≡ true → (x : X) × (Contains xs x × (test x ≡ true))) → (b || list_any test xs) ≡ true
        → (x : X) × (Contains (y ∷ xs) x × (test x ≡ true))
    by_test true here later passes = (y, ((0, omega arith, refl), here))
    by_test false there later passes =
        let found = later passes in (found.0, ((suc found.1.0.0, omega (arith, found.1.0.1), found.1.0.2), found.1.1))

module _ (some : List Configuration) (n : ℕ) where
  -- who stands nowhere there isn't who does
  pub is_other : (u : Termination) → IsNowhere some u n → (c : Configuration) (t : Termination) → IsInHull some c → IsTrue (is_in (c.spot t) n)
      → IsTrue (not (is_same t u))
  is_other u never c t inside here = by_test (is_same t u) refl
    where
      by_test : (b : Bool) → is_same t u ≡ b → IsTrue (not b)
      by_test true same = let at = inside.spot u in
          absurd (not_both (subst (λ (x : Termination). IsTrue (is_in (c.spot x) n)) (is_same_is t u same) here)
          (ap (λ (spot : Spot). is_in spot n) (sym at.1.1) ∙ never at.0 at.1.0))
      by_test false apart = refl

  pub is_other_turned : (u : Termination) → IsNowhere some u n → (c : Configuration) (t : Termination) → IsInHull some c → IsTrue (is_in (c.spot t) n)
      → IsTrue (not (is_same u t))
  is_other_turned u never c t inside here = subst (λ (b : Bool). IsTrue (not b)) (is_same_turned t u) (is_other u never c t inside here)

  each_spared : (c : Configuration) (t : Termination) → IsInHull some c → IsTrue (is_in (c.spot t) n) → (commands : List Command)
      → All (SparesAll some n) commands → All (λ command. IsTrue (spares command t n)) commands
  each_spared c t inside here [] each = All-nil (λ command. IsTrue (spares command t n))
  each_spared c t inside here (command ∷ more) each =
      All-cons (λ (x : Command). IsTrue (spares x t n)) command more (All-head (SparesAll some n) command more each c t inside here)
      (each_spared c t inside here more (All-tail (SparesAll some n) command more each))

  pub context_survives : (commands : List Command) → ((d : Configuration) → Contains some d → d.context n ≡ Live) → All (SparesAll some n) commands
      → (c : Configuration) → IsInHull some c → IsWellFormed c → Survives c commands n
  context_survives commands live each c inside formed =
      let at = inside.context n in
      let exists : c.context n ≡ Live = sym at.1.1 ∙ live at.0 at.1.0 in
      let found = some_passes (λ (t : Termination). is_in (c.spot t) n) terminations
      (sym (formed.live n) ∙ ap (λ (v : ContextValue). is_live v) exists) in
      (found.0, (found.1.0, (found.1.1, each_spared c found.0 inside found.1.1 commands each)))

pub four_survive : (c : Configuration) (request : List Command) (a b d e : Bool) → (IsTrue a → Survives c request 0) → (IsTrue b → Survives c request 1)
    → (IsTrue d → Survives c request 2) → (IsTrue e → Survives c request 3) → DoSurvive c request (a ∷ b ∷ d ∷ e ∷ [])
four_survive c request a b d e first second third fourth zero is = first is
four_survive c request a b d e first second third fourth (suc zero) is = second is
four_survive c request a b d e first second third fourth (suc (suc zero)) is = third is
four_survive c request a b d e first second third fourth (suc (suc (suc zero))) is = fourth is
four_survive c request a b d e first second third fourth (suc (suc (suc (suc n)))) is = absurd (cc (is))
