-- Two runs of the same commands from states that are alike: where they create the same identifiers, they end alike.
use Rattle.std.proofs.Common.{◌≡◌, ℕ, ◌+◌, ◌==◌, Bool, true, false, if◌then◌else◌, List, [], ◌∷◌, ◌++◌, map, length, slice_get, get_or, Option, Some, None, unwrap_or, option_map, option_and_then, inl, inr, refl, ap, subst, sym, ◌∙◌, append_assoc, append-nil, rules}
use Rattle.std.proofs.Math.Seq.{get_or-append_seam}
use Rattle.std.proofs.lemmas.Option.{slice_get-map}
use Rattle.mg_model.specs.declared.failures.ChosenRefusal.{ChosenRefusal}
use Rattle.mg_model.specs.declared.failures.Failure.{Failure}
use Rattle.mg_names.specs.declared.codes.Code.{Code}
use Rattle.mg_names.specs.declared.identifiers.TermId.TheVariants.{Line, Eph}
use Rattle.mg_model.specs.declared.items.Added.TheVariants as added
use Rattle.mg_model.specs.declared.items.Item.{Item}
use Rattle.mg_model.specs.declared.items.Item.TheVariants.{Add, Modify, Move, Subtract, SubtractAll, SetTopology}
use Rattle.mg_model.specs.declared.items.RemoteSetting.TheVariants.{Ephemeral}
use Rattle.mg_model.specs.Board.{Board}
use Rattle.mg_model.specs.Numbers.{choose}
use Rattle.mg_model.specs.Failures.{code_of}
use Rattle.mg_model.specs.Items.{Chosen, Done, IsExecuted, Applies, effect, only_if, given, creates_context, creates_ephemeral, placed, with_ephemeral}
use Rattle.mg_model.specs.LineEvents.{LineRow}
use Rattle.mg_model.specs.declared.references.ContextRef.{ContextRef}
use Rattle.mg_model.specs.declared.references.ContextRef.TheVariants.{Number, MadeAt}
use Rattle.mg_model.specs.declared.references.EphemeralRef.{EphemeralRef}
use Rattle.mg_model.specs.declared.references.EphemeralRef.TheVariants as ephemeral
use Rattle.mg_model.specs.declared.references.RemoteRef.{RemoteRef}
use Rattle.mg_model.specs.declared.references.RemoteRef.TheVariants as remote
use Rattle.mg_model.specs.declared.references.TerminationRef.{TerminationRef}
use Rattle.mg_model.specs.declared.references.TerminationRef.TheVariants as on
use Rattle.mg_model.specs.Numbers.{all, no_ephemeral}
use Rattle.mg_model.specs.Messages.{Descriptors, RequestCommand, add_line, add_ephemeral, modify, move, subtract, subtract_all, set_topology}
use Rattle.mg_model.specs.RequestRun.{Running, RunsFrom, Succeeds, Fails, MayRefuse, chosen_at, context_at, ephemeral_at, termination_at, remote_at, settings_at, item_at, line_after}
use Rattle.mg_model.proofs.Cases.{the_some}
use Rattle.requests.specs.Commands.{created}

-- the boards and the lines are the same, and so are the identifiers that were created
pub record IsAlike (r s : Running) : Type 0 where
  pub board : r.board ≡ s.board
  pub line : r.line ≡ s.line
  pub created : map created r.results ≡ map created s.results

-- ---- a command names the same

context_read : (o : Option Done) → option_and_then (λ (done : Done). done.context) o ≡ option_and_then (λ (x : Option ℕ × Option ℕ). x.0) (option_map created o)
context_read None = refl
context_read (Some done) = refl

ephemeral_read : (o : Option Done) → option_and_then (λ (done : Done). done.ephemeral) o ≡ option_and_then (λ (x : Option ℕ × Option ℕ). x.1) (option_map created o)
ephemeral_read None = refl
ephemeral_read (Some done) = refl

module _ (xs ys : List Done) (same : map created xs ≡ map created ys) where
  found : (p : ℕ) → option_map created (slice_get xs p) ≡ option_map created (slice_get ys p)
  found p = sym (slice_get-map created xs p) ∙ ap (λ cs. slice_get cs p) same ∙ slice_get-map created ys p

  context_same : (c : ContextRef) → context_at xs c ≡ context_at ys c
  context_same (Number n) = refl
  context_same (MadeAt p) = ap (λ (o : Option ℕ). unwrap_or o all)
      (context_read (slice_get xs p) ∙ ap (λ o. option_and_then (λ (x : Option ℕ × Option ℕ). x.0) o) (found p) ∙ sym (context_read (slice_get ys p)))

  ephemeral_same : (e : EphemeralRef) → ephemeral_at xs e ≡ ephemeral_at ys e
  ephemeral_same (ephemeral.Number n) = refl
  ephemeral_same (ephemeral.MadeAt p) = ap (λ (o : Option ℕ). unwrap_or o no_ephemeral)
      (ephemeral_read (slice_get xs p) ∙ ap (λ o. option_and_then (λ (x : Option ℕ × Option ℕ). x.1) o) (found p) ∙ sym (ephemeral_read (slice_get ys p)))

  termination_same : (t : TerminationRef) → termination_at xs t ≡ termination_at ys t
  termination_same (on.Line l) = refl
  termination_same (on.Ephemeral e) = ap Eph (ephemeral_same e)

  remote_same : (o : Option RemoteRef) → option_map (remote_at xs) o ≡ option_map (remote_at ys) o
  remote_same None = refl
  remote_same (Some remote.Nothing) = refl
  remote_same (Some (remote.To e)) = ap (λ (k : ℕ). Some (Ephemeral k)) (ephemeral_same e)

  settings_same : (d : Descriptors) → settings_at xs d ≡ settings_at ys d
  settings_same d i = record { mode = d.mode; remote = remote_same d.remote i }

  pub item_same : (command : RequestCommand) → item_at xs command ≡ item_at ys command
  item_same (add_line c l d) i = Add (record { 0 = context_same c i }) (added.Line (record { 0 = l })) (settings_same d i)
  item_same (add_ephemeral c d) i = Add (record { 0 = context_same c i }) added.NewEphemeral (settings_same d i)
  item_same (modify c t d) i = Modify (record { 0 = context_same c i }) (termination_same t i) (settings_same d i)
  item_same (move c t d) i = Move (record { 0 = context_same c i }) (termination_same t i) (settings_same d i)
  item_same (subtract c t) i = Subtract (record { 0 = context_same c i }) (termination_same t i)
  item_same (subtract_all c) i = SubtractAll (record { 0 = context_same c i })
  item_same (set_topology c t u topology) i = SetTopology (record { 0 = context_same c i }) (termination_same t i) (termination_same u i) topology

-- ---- a command does the same

target_same : (test : Bool) (x y other : ℕ) → only_if test x ≡ only_if test y → (if test then x else other) ≡ (if test then y else other)
target_same true x y other e = the_some x y e
target_same false x y other e = refl

given_same : (test : Bool) (x y : ℕ) (was : ℕ → Bool) → only_if test x ≡ only_if test y → given test x was ≡ given test y was
given_same true x y was e = ap (λ (k : ℕ). given true k was) (the_some x y e)
given_same false x y was e = refl

effect_same : (b : Board) (item : Item) (x y : Chosen) → only_if (creates_context item) x.context ≡ only_if (creates_context item) y.context →
    only_if (creates_ephemeral item) x.ephemeral ≡ only_if (creates_ephemeral item) y.ephemeral → effect b item x ≡ effect b item y
effect_same b (Add c (added.Line l) settings) x y e f i =
    record (placed b (Line l) (target_same (c.0 == choose) x.context y.context c.0 e i) settings) {
      used_context = given_same (c.0 == choose) x.context y.context b.used_context e i;
      used_ephemeral = b.used_ephemeral;
    }
effect_same b (Add c added.NewEphemeral settings) x y e f i =
    record (with_ephemeral b (the_some x.ephemeral y.ephemeral f i) (target_same (c.0 == choose) x.context y.context c.0 e i) settings) {
      used_context = given_same (c.0 == choose) x.context y.context b.used_context e i;
      used_ephemeral = given_same true x.ephemeral y.ephemeral b.used_ephemeral f i;
    }
effect_same b (Modify c t settings) x y e f i = effect b (Modify c t settings) x
effect_same b (Move c t settings) x y e f i = effect b (Move c t settings) x
effect_same b (Subtract c t) x y e f i = effect b (Subtract c t) x
effect_same b (SubtractAll c) x y e f i = effect b (SubtractAll c) x
effect_same b (SetTopology c t u topology) x y e f i = effect b (SetTopology c t u topology) x

-- two executions on one board that create the same
pub executed_same : (b : Board) (item : Item) (after other : Board) (done told : Done) → IsExecuted b item after done → IsExecuted b item other told → created done ≡ created told → after ≡ other
executed_same b item after other done told e f same =
    e.effect_is
    ∙ effect_same b item e.chosen f.chosen (sym e.result.context ∙ ap (λ (x : Option ℕ × Option ℕ). x.0) same ∙ f.result.context)
    (sym e.result.ephemeral ∙ ap (λ (x : Option ℕ × Option ℕ). x.1) same ∙ f.result.ephemeral)
    ∙ sym f.effect_is

-- ---- states that are alike

abbrev bare : Board → (ℕ → LineRow) → Running
bare board line = record { board = board; line = line; results = []; notes = [] }

map-append : (xs ys : List Done) → map created (xs ++ ys) ≡ map created xs ++ map created ys
map-append [] ys = refl
map-append (x ∷ xs) ys = ap (λ cs. created x ∷ cs) (map-append xs ys)

step_alike : (r s next other : Running) (command : RequestCommand) (place : ℕ) (refusal : Option ChosenRefusal) (number : ℕ) → IsAlike r s →
    (e : Succeeds r command place refusal number next) → (f : Succeeds s command place refusal number other) → created e.done ≡ created f.done → IsAlike next other
step_alike r s next other command place refusal number alike e f same =
    let items = item_same r.results s.results alike.created command in
    let executed : IsExecuted s.board (item_at s.results command) e.board e.done =
    subst (λ (b : Board). IsExecuted b (item_at s.results command) e.board e.done) alike.board
    (subst (λ (item : Item). IsExecuted r.board item e.board e.done) items e.executed) in
    let boards = executed_same s.board (item_at s.results command) e.board f.board e.done f.done executed f.executed same in
    record {
      board = ap (λ (q : Running). q.board) e.next_is ∙ boards ∙ sym (ap (λ (q : Running). q.board) f.next_is);
      line = ap (λ (q : Running). q.line) e.next_is ∙ (λ i. line_after (bare (alike.board i) (alike.line i)) command (items i) number) ∙ sym (ap (λ (q : Running). q.line) f.next_is);
      created = ap (λ (q : Running). map created q.results) e.next_is ∙ map-append r.results (e.done ∷ [])
          ∙ (λ i. alike.created i ++ same i ∷ []) ∙ sym (map-append s.results (f.done ∷ [])) ∙ sym (ap (λ (q : Running). map created q.results) f.next_is);
    }

-- what a run created begins with what was created before it
pub record Begins (xs ys : List (Option ℕ × Option ℕ)) : Type 0 where
  pub more : List (Option ℕ × Option ℕ)
  pub is : ys ≡ xs ++ more

nothing_more : (xs ys : List (Option ℕ × Option ℕ)) → ys ≡ xs → Begins xs ys
nothing_more xs ys e = record { more = []; is = e ∙ sym (append-nil xs) }

after_one : (r next : Running) (command : RequestCommand) (place : ℕ) (refusal : Option ChosenRefusal) (number : ℕ) → (e : Succeeds r command place refusal number next) →
    map created next.results ≡ map created r.results ++ created e.done ∷ []
after_one r next command place refusal number e = ap (λ (q : Running). map created q.results) e.next_is ∙ map-append r.results (e.done ∷ [])

pub begins : (number : ℕ) (refusal : Option ChosenRefusal) (r : Running) (place : ℕ) (commands : List RequestCommand) (end : Running) (failure : Option Failure) →
    RunsFrom number refusal r place commands end failure → Begins (map created r.results) (map created end.results)
unfolding RunsFrom
begins number refusal r place [] end failure (is, none) = nothing_more _ _ (ap (λ (q : Running). map created q.results) is)
begins number refusal r place (command ∷ commands) end failure (inl (next, e, more)) =
    let tail = begins number refusal next (place + 1) commands end failure more in
    record {
      more = created e.done ∷ tail.more;
      is = tail.is ∙ ap (λ cs. cs ++ tail.more) (after_one r next command place refusal number e) ∙ append_assoc (map created r.results) (created e.done ∷ []) tail.more;
    }
begins number refusal r place (command ∷ commands) end failure (inr (code, fails, is, failed)) = nothing_more _ _ (ap (λ (q : Running). map created q.results) is)

-- the first that two runs create is the same, where all is
first_same : (xs ys : List (Option ℕ × Option ℕ)) (x y : Option ℕ × Option ℕ) (more rest : List (Option ℕ × Option ℕ)) → xs ≡ ys → xs ++ x ∷ more ≡ ys ++ y ∷ rest → x ≡ y
first_same xs ys x y more rest e f =
    sym (get_or-append_seam xs x more x) ∙ ap (λ cs. get_or cs (length xs) x) f ∙ ap (λ (zs : List (Option ℕ × Option ℕ)). get_or (ys ++ y ∷ rest) (length zs) x) e ∙ get_or-append_seam ys y rest x

-- a command that is executed on the one doesn't fail on the other
not_failing : (r s next : Running) (command : RequestCommand) (place : ℕ) (refusal : Option ChosenRefusal) (number : ℕ) (code : Code) → IsAlike r s → Succeeds r command place refusal number next →
    Fails s command place refusal code → ⊥
not_failing r s next command place refusal number code alike e fails = neither fails.may
  where
    neither : MayRefuse s.board (item_at s.results command) (chosen_at refusal place) code → ⊥
    neither (inl applies) =
        e.executed.legal code (subst (λ (item : Item). Applies r.board item code) (sym (item_same r.results s.results alike.created command))
        (subst (λ (b : Board). Applies b (item_at s.results command) code) (sym alike.board) applies))
    neither (inr chosen) = let both : None ≡ Some code = sym (ap (option_map code_of) e.not_chosen) ∙ chosen in absurd (search rules)

back : (r s : Running) → IsAlike r s → IsAlike s r
back r s alike = record { board = sym alike.board; line = sym alike.line; created = sym alike.created }

ended : (r s end other : Running) → IsAlike r s → end ≡ r → other ≡ s → IsAlike end other
ended r s end other alike e f = subst (λ (q : Running). IsAlike q other) (sym e) (subst (λ (q : Running). IsAlike r q) (sym f) alike)

pub same_end : (number : ℕ) (refusal : Option ChosenRefusal) (r s : Running) (place : ℕ) (commands : List RequestCommand) (end other : Running) (failure fault : Option Failure) → IsAlike r s →
    RunsFrom number refusal r place commands end failure → RunsFrom number refusal s place commands other fault → map created end.results ≡ map created other.results → IsAlike end other
unfolding RunsFrom
same_end number refusal r s place [] end other failure fault alike (is, none) (equals, nothing) same = ended r s end other alike is equals
same_end number refusal r s place (command ∷ commands) end other failure fault alike (inl (next, e, more)) (inl (past, f, rest)) same =
    let one = begins number refusal next (place + 1) commands end failure more in
    let two = begins number refusal past (place + 1) commands other fault rest in
    let ones = one.is ∙ ap (λ cs. cs ++ one.more) (after_one r next command place refusal number e) ∙ append_assoc (map created r.results) (created e.done ∷ []) one.more in
    let twos = two.is ∙ ap (λ cs. cs ++ two.more) (after_one s past command place refusal number f) ∙ append_assoc (map created s.results) (created f.done ∷ []) two.more in
    let first = first_same (map created r.results) (map created s.results) (created e.done) (created f.done) one.more two.more alike.created (sym ones ∙ same ∙ twos) in
    same_end number refusal next past (place + 1) commands end other failure fault (step_alike r s next past command place refusal number alike e f first) more rest same
same_end number refusal r s place (command ∷ commands) end other failure fault alike (inl (next, e, more)) (inr (code, fails, is, failed)) same =
    absurd (not_failing r s next command place refusal number code alike e fails)
same_end number refusal r s place (command ∷ commands) end other failure fault alike (inr (code, fails, is, failed)) (inl (next, e, more)) same =
    absurd (not_failing s r next command place refusal number code (back r s alike) e fails)
same_end number refusal r s place (command ∷ commands) end other failure fault alike (inr (code, fails, is, failed)) (inr (code', fails', equals, failed')) same = ended r s end other alike is equals
