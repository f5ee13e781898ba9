-- A command that is legal in the configuration isn't refused by a gateway that shows it, but where no number is left for what it creates.
use Rattle.mg_safety.proofs.Words.{◌≡◌, ◌∙◌, ℕ, Bool, true, false, not, refl, sym, ap, ◌==◌, ◌&&◌, ◌||◌, eq-eqb, not_both, and_parts}
use Rattle.mg_safety.proofs.Words.{option_map, TermId, Line, Board, exists, place_of, same_term, ContextExists, choose, null, Item}
use Rattle.mg_safety.proofs.Words.{UnknownContext, UnknownTermination, AlreadyInContext, NotInContext, names_nothing, Configuration, IsWellFormed, is_legal}
use Rattle.mg_safety.proofs.Words.{is_live, is_null, is_in, is_same, is_elsewhere, place_exists, stands_at, remote_legal, denied, Command, AddLine}
use Rattle.mg_safety.proofs.Words.{AddEphemeral, ModifyLine, ModifyEphemeral, MoveLine, MoveEphemeral, Subtract, SubtractAll, SetTopology, LineOptions, EphemeralOptions}
use Rattle.mg_safety.proofs.Words.{Termination, Topology, Place, NullContext, Context, Script, IsScript, IsSlot, IsCommandOf, three_parts}
use Rattle.std.proofs.lemmas.Bool.{or_from}
use Rattle.mg_names.specs.declared.codes.Code.{Code}
use Rattle.mg_names.specs.declared.codes.Code.TheVariants.{InternalFailure, InsufficientResources}
use Rattle.mg_model.specs.declared.commands.Termination.TheVariants as termination
use Rattle.mg_model.specs.Items.{Applies, IsUsedUp, LacksContext, lacks_termination, is_taken, is_misplaced}
use Rattle.mg_safety.proofs.InvariantWords.{IsOfScript, IsReady, Naming, Owner, Shown, AreBuilt, item_for, owned_at, context_for, place_for, target_for}
use Rattle.mg_safety.proofs.InvariantWords.{term_for, remote_for}
use Rattle.mg_safety.proofs.Commands.LegalNames.{StandsThere, stands_there, stands_elsewhere, live_exists, remote_exists}
use Rattle.mg_safety.proofs.Commands.TopologyCarried.{same_name}

-- a command that is legal in the configuration isn't refused by a gateway that shows it, as long as it has a number for what is created
abbrev pub LegalIsAllowed : Type 0
LegalIsAllowed = (command : Command) (script : Script) → IsScript script → (own : Owner) (n m : Naming) (b : Board) (c : Configuration)
    → IsReady script own n m b c command → IsOfScript script c → (IsUsedUp b (item_for m command) → ⊥)
    → is_legal c command ≡ true → (code : Code) → Applies b (item_for m command) code → ⊥

-- ---- codes

-- no code applies, but for what is said of numbers
record IsAllowed (b : Board) (item : Item) : Type 0 where
  context : LacksContext b item → ⊥
  termination : lacks_termination b item ≡ false
  taken : is_taken b item ≡ false
  place : is_misplaced b item ≡ false

no_code : (b : Board) (item : Item) → IsAllowed b item → (IsUsedUp b item → ⊥) → (code : Code) → Applies b item code → ⊥
no_code b item allowed left UnknownContext applies = allowed.context applies
no_code b item allowed left UnknownTermination applies = not_both applies allowed.termination
no_code b item allowed left AlreadyInContext applies = not_both applies allowed.taken
no_code b item allowed left NotInContext applies = not_both applies allowed.place
no_code b item allowed left InternalFailure applies = applies
no_code b item allowed left InsufficientResources applies = left applies

module _ (script : Script) (owned : TermId → Bool) (n m : Naming) (b : Board) (c : Configuration) (shown : Shown script owned n b c)
    (built : AreBuilt n m b) (formed : IsWellFormed c) (of_script : IsOfScript script c) where
  -- ---- parts of commands

  context_exists : (j : ℕ) → is_live (c.context j) ≡ true → ContextExists b (context_for m j)
  context_exists = live_exists script owned n m b c shown built formed of_script

  target_exists : (create : Bool) (j : ℕ) → (create || is_live (c.context j)) ≡ true
      → (target_for m create j ≡ choose → ⊥) × (ContextExists b (target_for m create j) → ⊥) → ⊥
  target_exists true j legal lacks = lacks.0 refl
  target_exists false j legal lacks = lacks.1 (context_exists j legal)

  place_there : (place : Place) → place_exists c place ≡ true → (place_for m place ≡ null → ⊥) × (ContextExists b (place_for m place) → ⊥) → ⊥
  place_there NullContext legal lacks = lacks.0 refl
  place_there (Context j) legal lacks = lacks.1 (context_exists j legal)

  standing : (t : Termination) → IsSlot script t → (place : Place) → stands_at (c.spot t) place ≡ true
      → StandsThere script owned n m b c shown built t place
  standing = stands_there script owned n m b c shown built

  -- what stands at a place is known, and isn't misplaced there
  known : (t : Termination) (place : Place) → StandsThere script owned n m b c shown built t place → not (exists b (term_for m t)) ≡ false
  known t place here = ap not here.stood

  placed : (t : Termination) (place : Place) → StandsThere script owned n m b c shown built t place
      → not (place_of b (term_for m t) == place_for m place) ≡ false
  placed t place here = ap not (eq-eqb (place_of b (term_for m t)) (place_for m place) here.at)

  -- ---- commands

  add_line : (create : Bool) (j i : ℕ) (o : LineOptions) → IsCommandOf script (AddLine create j i o) → is_legal c (AddLine create j i o) ≡ true
      → IsAllowed b (item_for m (AddLine create j i o))
  add_line create j i o declared legal =
      let parts = and_parts (create || is_live (c.context j)) (is_null (c.spot (termination.Line i))) legal in
      let here = standing (termination.Line i) declared.1 NullContext parts.1 in
      record {
        context = target_exists create j parts.0;
        termination = or_from (not (exists b (Line (record { 0 = m.lines i })))) false (known (termination.Line i) NullContext here) refl;
        taken = placed (termination.Line i) NullContext here;
        place = refl;
      }

  add_ephemeral : (create : Bool) (j k : ℕ) (o : EphemeralOptions) → IsCommandOf script (AddEphemeral create j k o)
      → is_legal c (AddEphemeral create j k o) ≡ true → IsAllowed b (item_for m (AddEphemeral create j k o))
  add_ephemeral create j k o declared legal =
      let parts = and_parts (create || is_live (c.context j)) (remote_legal c o.remote) legal in
      record {
        context = target_exists create j parts.0;
        termination = remote_exists script owned n m b c shown built o.remote declared.2 parts.1;
        taken = refl;
        place = refl;
      }

  modify_line : (place : Place) (i : ℕ) (o : LineOptions) → IsCommandOf script (ModifyLine place i o) → is_legal c (ModifyLine place i o) ≡ true
      → IsAllowed b (item_for m (ModifyLine place i o))
  modify_line place i o declared legal =
      let parts = and_parts (place_exists c place) (stands_at (c.spot (termination.Line i)) place) legal in
      let here = standing (termination.Line i) declared.1 place parts.1 in
      record {
        context = place_there place parts.0;
        termination = or_from (not (exists b (Line (record { 0 = m.lines i })))) false (known (termination.Line i) place here) refl;
        taken = refl;
        place = placed (termination.Line i) place here;
      }

  modify_ephemeral : (place : Place) (k : ℕ) (o : EphemeralOptions) → IsCommandOf script (ModifyEphemeral place k o)
      → is_legal c (ModifyEphemeral place k o) ≡ true → IsAllowed b (item_for m (ModifyEphemeral place k o))
  modify_ephemeral place k o declared legal =
      let t : Termination = termination.Ephemeral k in
      let parts = three_parts (place_exists c place) (stands_at (c.spot t) place) (remote_legal c o.remote) legal in
      let here = standing t declared.1 place parts.1 in
      record {
        context = place_there place parts.0;
        termination = or_from (not (exists b (term_for m t))) (names_nothing b (option_map (remote_for m) o.remote)) (known t place here)
            (remote_exists script owned n m b c shown built o.remote declared.2 parts.2);
        taken = refl;
        place = placed t place here;
      }

  move_line : (j i : ℕ) (o : LineOptions) → IsCommandOf script (MoveLine j i o) → is_legal c (MoveLine j i o) ≡ true
      → IsAllowed b (item_for m (MoveLine j i o))
  move_line j i o declared legal =
      let t : Termination = termination.Line i in
      let parts = and_parts (is_live (c.context j)) (is_elsewhere (c.spot t) j) legal in
      let away = stands_elsewhere script owned n m b c shown built formed of_script t j declared.1 parts.0 parts.1 in
      record {
        context = λ lacks. lacks (context_exists j parts.0);
        termination = or_from (not (exists b (term_for m t))) false (ap not away.0) refl;
        taken = refl;
        place = away.1;
      }

  move_ephemeral : (j k : ℕ) (o : EphemeralOptions) → IsCommandOf script (MoveEphemeral j k o) → is_legal c (MoveEphemeral j k o) ≡ true
      → IsAllowed b (item_for m (MoveEphemeral j k o))
  move_ephemeral j k o declared legal =
      let t : Termination = termination.Ephemeral k in
      let parts = three_parts (is_live (c.context j)) (is_elsewhere (c.spot t) j) (remote_legal c o.remote) legal in
      let away = stands_elsewhere script owned n m b c shown built formed of_script t j declared.1 parts.0 parts.1 in
      record {
        context = λ lacks. lacks (context_exists j parts.0);
        termination = or_from (not (exists b (term_for m t))) (names_nothing b (option_map (remote_for m) o.remote)) (ap not away.0)
            (remote_exists script owned n m b c shown built o.remote declared.2 parts.2);
        taken = refl;
        place = away.1;
      }

  subtract : (j : ℕ) (t : Termination) → IsCommandOf script (Subtract j t) → is_legal c (Subtract j t) ≡ true → IsAllowed b (item_for m (Subtract j t))
  subtract j t declared legal =
      let parts = and_parts (is_live (c.context j)) (is_in (c.spot t) j) legal in
      let here = standing t declared.1 (Context j) parts.1 in
      record {
        context = λ lacks. lacks (context_exists j parts.0);
        termination = known t (Context j) here;
        taken = refl;
        place = placed t (Context j) here;
      }

  subtract_all : (j : ℕ) → is_legal c (SubtractAll j) ≡ true → IsAllowed b (item_for m (SubtractAll j))
  subtract_all j legal = record { context = λ lacks. lacks (context_exists j legal); termination = refl; taken = refl; place = refl }

  set_topology : (j : ℕ) (t u : Termination) (topology : Topology) → IsCommandOf script (SetTopology j t u topology)
      → is_legal c (SetTopology j t u topology) ≡ true → IsAllowed b (item_for m (SetTopology j t u topology))
  set_topology j t u topology declared legal =
      let differ = and_parts (is_live (c.context j) && is_in (c.spot t) j && is_in (c.spot u) j) (not (is_same t u)) legal in
      let parts = three_parts (is_live (c.context j)) (is_in (c.spot t) j) (is_in (c.spot u) j) differ.0 in
      let here = standing t declared.1 (Context j) parts.1 in
      let also = standing u declared.2 (Context j) parts.2 in
      let v : TermId = term_for m t in
      let w : TermId = term_for m u in
      record {
        context = λ lacks. lacks (context_exists j parts.0);
        termination = or_from (not (exists b v)) (not (exists b w)) (known t (Context j) here) (known u (Context j) also);
        taken = refl;
        place = or_from (not (place_of b v == context_for m j)) (not (place_of b w == context_for m j) || same_term v w) (placed t (Context j) here)
            (or_from (not (place_of b w == context_for m j)) (same_term v w) (placed u (Context j) also)
            (sym (same_name script owned n b c shown t u declared.1 declared.2 v w here.named also.named) ∙ denied (is_same t u) differ.1));
      }

  allowed : (command : Command) → IsCommandOf script command → is_legal c command ≡ true → IsAllowed b (item_for m command)
  allowed (AddLine create j i o) = add_line create j i o
  allowed (AddEphemeral create j k o) = add_ephemeral create j k o
  allowed (ModifyLine place i o) = modify_line place i o
  allowed (ModifyEphemeral place k o) = modify_ephemeral place k o
  allowed (MoveLine j i o) = move_line j i o
  allowed (MoveEphemeral j k o) = move_ephemeral j k o
  allowed (Subtract j t) = subtract j t
  allowed (SubtractAll j) = λ declared. subtract_all j
  allowed (SetTopology j t u topology) = set_topology j t u topology

pub legal_is_allowed : LegalIsAllowed
legal_is_allowed command script is_script own n m b c ready of_script left legal =
    no_code b (item_for m command)
    (allowed script (owned_at own b) n m b c ready.shown ready.built ready.well_formed of_script command ready.declared legal) left
