-- A state whose names don't repeat creates no name twice.
use Rattle.std.proofs.Common.{◌≡◌, ℕ, List, [], ◌∷◌, ◌++◌, Bool, true, false, not, refl, sym, ap, subst, ◌∙◌, Option, Some, None}
use Rattle.std.specs.Prelude.{◌||◌, if◌then◌else◌}
use Rattle.std.specs.List.{list_all, flat_map}
use Rattle.std.specs.Str.{bytes_eq}
use Rattle.std.proofs.lemmas.List.Folds.{list_any-append}
use Rattle.std.proofs.lemmas.Slice.Eq.{bytes_eq-Decides}
use Rattle.mg_model.specs.Accepted.{is_apart, creates_apart, create_once}
use Rattle.mg_model.specs.Request.{created_context, created_ephemeral}
use Rattle.mg_model.specs.declared.commands.Command.{Command}
use Rattle.mg_model.specs.declared.commands.Command.TheVariants.{AddLine, AddEphemeral, ModifyLine, ModifyEphemeral, MoveLine, MoveEphemeral, Subtract, SubtractAll, SetTopology}
use Rattle.scriptreader.specs.declared.syntax.Options.{Options}
use Rattle.scriptreader.specs.declared.syntax.WrittenCommand.{WrittenCommand}
use Rattle.scriptreader.specs.declared.syntax.WrittenCommand.TheVariants as written
use Rattle.typed_values.specs.Names.{is_among, repeats_after}
use Rattle.scriptreader.specs.DeclaredNames.{Scope}
use Rattle.scriptreader.specs.Faults.{created_by, text_if}
use Rattle.typed_values.specs.Shape.{each}
use Rattle.scriptreader.specs.Meaning.{slot_for, termination_for, place_for, line_options_for, ephemeral_options_for, add_line_for, add_ephemeral_for, modify_line_for, modify_ephemeral_for, move_line_for, move_ephemeral_for, subtract_for, subtract_all_for, topology_for, command_for}
use Rattle.scriptreader.proofs.Declared.{either_way, carried}
use Rattle.scriptreader.proofs.BooleanTests.{or_left, or_right}
use Rattle.scriptreader.proofs.RepeatedNames.{repeats_of_both, fewer_alone}
use Rattle.scriptreader.proofs.Slots.{bound, slots_apart}

-- ---- texts

bytes_same : (text : List ℕ) → bytes_eq text text ≡ true
bytes_same text = (bytes_eq-Decides text text).1 refl

is_itself : (text : List ℕ) (more : List (List ℕ)) → is_among text (text ∷ more) ≡ true
is_itself text more = rw (bytes_same text) refl

among_front : (text : List ℕ) (front back : List (List ℕ)) → is_among text front ≡ true → is_among text (front ++ back) ≡ true
among_front text front back e = list_any-append (λ other. bytes_eq text other) front back ∙ rw e refl

among_back : (text : List ℕ) (front back : List (List ℕ)) → is_among text back ≡ true → is_among text (front ++ back) ≡ true
among_back text [] back e = e
among_back text (other ∷ front) back e = by (bytes_eq text other) (among_back text front back e)
  where
    by : (b : Bool) {c : Bool} → c ≡ true → (b || c) ≡ true
    by true e = refl
    by false e = e

-- where texts don't repeat those before them, none of them is one of those
differ : (before texts : List (List ℕ)) (a b : List ℕ) → repeats_after before texts ≡ false → is_among a before ≡ true → is_among b texts ≡ true → a ≡ b → ⊥
differ before [] a b once first second same = cc
differ before (text ∷ texts) a b once first second same =
    let now : is_among text before ≡ false = or_left (is_among text before) (repeats_after (before ++ text ∷ []) texts) once in
    let rest : repeats_after (before ++ text ∷ []) texts ≡ false = or_right (is_among text before) (repeats_after (before ++ text ∷ []) texts) once in
    by now (λ e. differ (before ++ text ∷ []) texts a b rest (among_front a before (text ∷ []) first) e same) (bytes_eq b text) refl second
  where
    by : is_among text before ≡ false → (is_among b texts ≡ true → ⊥) → (here : Bool) → bytes_eq b text ≡ here → (here || is_among b texts) ≡ true → ⊥
    by now later true is e =
        let at : a ≡ text = same ∙ (bytes_eq-Decides b text).0 is in
        let there : is_among text before ≡ true = subst (λ (x : List ℕ). is_among x before ≡ true) at first in
        cc (there, now)
    by now later false is e = later e

-- ---- what a command creates

-- a name that is created stands among the texts
abbrev Made : List (List ℕ) → List (List ℕ) → Option ℕ → Type 0
Made texts names None = Unit {0}
Made texts names (Some i) = (name : List ℕ) × (is_among name texts ≡ true) × (slot_for names name ≡ Some i)

made_more : (texts more names : List (List ℕ)) (created : Option ℕ) → Made texts names created → Made (texts ++ more) names created
made_more texts more names None h = tt
made_more texts more names (Some i) h = (h.0, among_front h.0 texts more h.1, h.2)

made_apart : (texts others names : List (List ℕ)) (one other : Option ℕ) → repeats_after texts others ≡ false → Made texts names one → Made others names other → is_apart one other ≡ true
made_apart texts others names None other once h k = refl
made_apart texts others names (Some i) None once h k = refl
made_apart texts others names (Some i) (Some j) once h k =
    ap not (slots_apart names h.0 k.0 i j h.2 k.2 (differ texts others h.0 k.0 once h.1 k.1))

-- what a command creates it names
record Creates (k : Scope) (c : WrittenCommand) (m : Command) : Type 0 where
  context : Made (created_by c) k.contexts (created_context m)
  ephemeral : Made (created_by c) k.ephemerals (created_ephemeral m)

made_context : (k : Scope) (create own : Bool) (context name : List ℕ) (j : ℕ) → slot_for k.contexts context ≡ Some j
    → Made (text_if create context ++ text_if own name) k.contexts (if create then Some j else None)
made_context k false own context name j at = tt
made_context k true own context name j at = (context, is_itself context (text_if own name), at)

module _ (k : Scope) where
  add_line_creates : (create own : Bool) (context name : List ℕ) (o : Options) (m : Command) → add_line_for k create context name o ≡ Some m → Creates k (written.Add create context own name o) m
  unfolding add_line_for
  add_line_creates create own context name o m e =
      bound (slot_for k.contexts context) _ m e (λ j at e2.
      bound (slot_for k.lines name) _ m e2 (λ i on e3.
      bound (line_options_for k o) _ m e3 (λ options given same.
      carried (Creates k (written.Add create context own name o)) (AddLine create j i options) m same (record { context = made_context k create own context name j at; ephemeral = tt }))))

  add_ephemeral_creates : (create : Bool) (context name : List ℕ) (o : Options) (m : Command) → add_ephemeral_for k create context name o ≡ Some m → Creates k (written.Add create context true name o) m
  unfolding add_ephemeral_for
  add_ephemeral_creates create context name o m e =
      bound (slot_for k.contexts context) _ m e (λ j at e2.
      bound (slot_for k.ephemerals name) _ m e2 (λ n on e3.
      bound (ephemeral_options_for k o) _ m e3 (λ options given same.
      carried (Creates k (written.Add create context true name o)) (AddEphemeral create j n options) m same
      (record { context = made_context k create true context name j at; ephemeral = (name, among_back name (text_if create context) (name ∷ []) (is_itself name []), on) }))))

  none_created : (c : WrittenCommand) (x m : Command) → Some x ≡ Some m → created_context x ≡ None → created_ephemeral x ≡ None → Creates k c m
  none_created c x m same no_context no_ephemeral =
      carried (Creates k c) x m same
      (record { context = subst (Made (created_by c) k.contexts) (sym no_context) tt; ephemeral = subst (Made (created_by c) k.ephemerals) (sym no_ephemeral) tt })

  modify_creates : (c : WrittenCommand) (place : Option (List ℕ)) (name : List ℕ) (o : Options) (m : Command) → modify_line_for k place name o ≡ Some m → Creates k c m
  unfolding modify_line_for
  modify_creates c place name o m e =
      bound (place_for k place) _ m e (λ j at e2.
      bound (slot_for k.lines name) _ m e2 (λ i on e3.
      bound (line_options_for k o) _ m e3 (λ options given same. none_created c (ModifyLine j i options) m same refl refl)))

  modify_ephemeral_creates : (c : WrittenCommand) (place : Option (List ℕ)) (name : List ℕ) (o : Options) (m : Command) → modify_ephemeral_for k place name o ≡ Some m → Creates k c m
  unfolding modify_ephemeral_for
  modify_ephemeral_creates c place name o m e =
      bound (place_for k place) _ m e (λ j at e2.
      bound (slot_for k.ephemerals name) _ m e2 (λ n on e3.
      bound (ephemeral_options_for k o) _ m e3 (λ options given same. none_created c (ModifyEphemeral j n options) m same refl refl)))

  move_creates : (c : WrittenCommand) (context name : List ℕ) (o : Options) (m : Command) → move_line_for k context name o ≡ Some m → Creates k c m
  unfolding move_line_for
  move_creates c context name o m e =
      bound (slot_for k.contexts context) _ m e (λ j at e2.
      bound (slot_for k.lines name) _ m e2 (λ i on e3.
      bound (line_options_for k o) _ m e3 (λ options given same. none_created c (MoveLine j i options) m same refl refl)))

  move_ephemeral_creates : (c : WrittenCommand) (context name : List ℕ) (o : Options) (m : Command) → move_ephemeral_for k context name o ≡ Some m → Creates k c m
  unfolding move_ephemeral_for
  move_ephemeral_creates c context name o m e =
      bound (slot_for k.contexts context) _ m e (λ j at e2.
      bound (slot_for k.ephemerals name) _ m e2 (λ n on e3.
      bound (ephemeral_options_for k o) _ m e3 (λ options given same. none_created c (MoveEphemeral j n options) m same refl refl)))

  creates : (c : WrittenCommand) (m : Command) → command_for k c ≡ Some m → Creates k c m
  unfolding command_for subtract_for subtract_all_for topology_for
  creates (written.Add create context true name o) m e = add_ephemeral_creates create context name o m e
  creates (written.Add create context false name o) m e = add_line_creates create false context name o m e
  creates (written.Modify place name o) m e =
      either_way (is_among name k.lines) _ _ m e (modify_creates (written.Modify place name o) place name o m) (modify_ephemeral_creates (written.Modify place name o) place name o m)
  creates (written.Move context name o) m e =
      either_way (is_among name k.lines) _ _ m e (move_creates (written.Move context name o) context name o m) (move_ephemeral_creates (written.Move context name o) context name o m)
  creates (written.Subtract context name) m e =
      bound (slot_for k.contexts context) _ m e (λ j at e2.
      bound (termination_for k name) _ m e2 (λ t on same. none_created (written.Subtract context name) (Subtract j t) m same refl refl))
  creates (written.SubtractAll context) m e =
      bound (slot_for k.contexts context) _ m e (λ j at same. none_created (written.SubtractAll context) (SubtractAll j) m same refl refl)
  creates (written.SetTopology context first second topology) m e =
      bound (slot_for k.contexts context) _ m e (λ j at e2.
      bound (termination_for k first) _ m e2 (λ t on e3.
      bound (termination_for k second) _ m e3 (λ u over same.
      none_created (written.SetTopology context first second topology) (SetTopology j t u topology) m same refl refl)))

  -- ---- the commands of a state

  -- a command creates no name that one of the later commands creates
  all_apart : (texts : List (List ℕ)) (m : Command) → Made texts k.contexts (created_context m) → Made texts k.ephemerals (created_ephemeral m)
      → (cs : List WrittenCommand) (ms : List Command) → each (command_for k) cs ≡ Some ms → repeats_after texts (flat_map created_by cs) ≡ false → list_all (creates_apart m) ms ≡ true
  all_apart texts m context ephemeral [] ms e once = carried (λ (xs : List Command). list_all (creates_apart m) xs ≡ true) [] ms e refl
  all_apart texts m context ephemeral (c ∷ cs) ms e once =
      bound (command_for k c) _ ms e (λ x is e2.
      bound (each (command_for k) cs) _ ms e2 (λ xs are same.
      let made : Creates k c x = creates c x is in
      let both = sym (repeats_of_both texts (created_by c) (flat_map created_by cs)) ∙ once in
      let here : repeats_after texts (created_by c) ≡ false = or_left _ _ both in
      let there : repeats_after (texts ++ created_by c) (flat_map created_by cs) ≡ false = or_right _ _ both in
      let first : is_apart (created_context m) (created_context x) ≡ true = made_apart texts (created_by c) k.contexts (created_context m) (created_context x) here context made.context in
      let second : is_apart (created_ephemeral m) (created_ephemeral x) ≡ true = made_apart texts (created_by c) k.ephemerals (created_ephemeral m) (created_ephemeral x) here ephemeral made.ephemeral in
      let later : list_all (creates_apart m) xs ≡ true =
      all_apart (texts ++ created_by c) m (made_more texts (created_by c) k.contexts (created_context m) context) (made_more texts (created_by c) k.ephemerals (created_ephemeral m) ephemeral) cs xs are there in
      carried (λ (ys : List Command). list_all (creates_apart m) ys ≡ true) (x ∷ xs) ms same (rw (first, second, later) refl)))

  -- no name is created twice
  pub created_once : (cs : List WrittenCommand) (ms : List Command) → each (command_for k) cs ≡ Some ms → repeats_after [] (flat_map created_by cs) ≡ false → create_once ms ≡ true
  created_once [] ms e once = carried (λ (xs : List Command). create_once xs ≡ true) [] ms e refl
  created_once (c ∷ cs) ms e once =
      bound (command_for k c) _ ms e (λ x is e2.
      bound (each (command_for k) cs) _ ms e2 (λ xs are same.
      let made : Creates k c x = creates c x is in
      let both = sym (repeats_of_both [] (created_by c) (flat_map created_by cs)) ∙ once in
      let there : repeats_after (created_by c) (flat_map created_by cs) ≡ false = or_right _ _ both in
      let apart : list_all (creates_apart x) xs ≡ true = all_apart (created_by c) x made.context made.ephemeral cs xs are there in
      let later : create_once xs ≡ true = created_once cs xs are (fewer_alone (created_by c) (flat_map created_by cs) there) in
      carried (λ (ys : List Command). create_once ys ≡ true) (x ∷ xs) ms same (rw (apart, later) refl)))
