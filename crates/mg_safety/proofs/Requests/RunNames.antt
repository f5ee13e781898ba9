-- The names of a request that runs: a command of a request is the item that its names stand for, the names in force and the names that
-- later commands are built with go on as the agent binds them, and a request that was built uses known names alone.
use Rattle.mg_safety.proofs.Words.{◌≡◌, ◌∙◌, ◌+◌, ◌<◌, ℕ, Bool, true, false, List, [], ◌∷◌, ◌++◌, length, Option, Some, None, is_some, refl, sym, ap, arith}
use Rattle.mg_safety.proofs.Words.{true≢false, zero, suc, fun_ext, ◌==◌, if◌then◌else◌, unwrap_or, slice_get, option_map, all, Command, AddLine, AddEphemeral}
use Rattle.mg_safety.proofs.Words.{ModifyLine, ModifyEphemeral, MoveLine, MoveEphemeral, Subtract, SubtractAll, SetTopology, Place, NullContext, Context}
use Rattle.mg_safety.proofs.Words.{RemoteOption, NoneGiven, Peer, Termination, Agent, Made, none_made, at_place, bound_if, context_or, context_ref}
use Rattle.mg_safety.proofs.Words.{ephemeral_or, ephemeral_ref, added_to, place_ref, termination_ref, remote_ref, command_of, made_after, after_result}
use Rattle.mg_safety.proofs.Words.{created_context, created_ephemeral, Done, context_at, ephemeral_at, termination_at, remote_at, item_at, Script, the_some}
use Rattle.mg_model.specs.declared.commands.Termination.TheVariants as termination
use Rattle.mg_safety.proofs.InvariantWords.{Naming, naming, naming_at, context_made, ephemeral_made, context_for, ephemeral_for, target_for, place_for}
use Rattle.mg_safety.proofs.InvariantWords.{term_for, remote_for, item_for, named_after, built_after}

-- ---- a command by the names that it is built with

context_or_is : (results : List Done) (made bound : Option ℕ) → context_at results (context_or made bound) ≡ unwrap_or (context_made results made bound) all
context_or_is results (Some place) bound = refl
context_or_is results None bound = refl

ephemeral_or_is : (results : List Done) (made bound : Option ℕ)
    → ephemeral_at results (ephemeral_or made bound) ≡ unwrap_or (ephemeral_made results made bound) 0
ephemeral_or_is results (Some place) bound = refl
ephemeral_or_is results None bound = refl

module _ (script : Script) (a : Agent) (made : Made) (results : List Done) where
  context_is : (j : ℕ) → context_at results (context_ref a made j) ≡ context_for (naming_at a made results) j
  context_is j = context_or_is results (made.contexts j) (a.contexts j)

  ephemeral_is : (k : ℕ) → ephemeral_at results (ephemeral_ref a made k) ≡ ephemeral_for (naming_at a made results) k
  ephemeral_is k = ephemeral_or_is results (made.ephemerals k) (a.ephemerals k)

  added_is : (create : Bool) (j : ℕ) → context_at results (added_to a made create j) ≡ target_for (naming_at a made results) create j
  added_is true j = refl
  added_is false j = context_is j

  place_is : (place : Place) → context_at results (place_ref a made place) ≡ place_for (naming_at a made results) place
  place_is NullContext = refl
  place_is (Context j) = context_is j

  termination_is : (t : Termination) → termination_at results (termination_ref a made t) ≡ term_for (naming_at a made results) t
  termination_is (termination.Line i) = refl
  termination_is (termination.Ephemeral k) = rw (ephemeral_is k) refl

  remote_is : (remote : Option RemoteOption)
      → option_map (remote_at results) (option_map (remote_ref a made) remote) ≡ option_map (remote_for (naming_at a made results)) remote
  remote_is None = refl
  remote_is (Some NoneGiven) = refl
  remote_is (Some (Peer k)) = rw (ephemeral_is k) refl

  -- a command of a request is the item that its names stand for
  pub item_is : (command : Command) → item_at results (command_of script a made command) ≡ item_for (naming_at a made results) command
  item_is (AddLine create j i o) = rw (added_is create j) refl
  item_is (AddEphemeral create j k o) = rw (added_is create j, remote_is o.remote) refl
  item_is (ModifyLine place i o) = rw (place_is place) refl
  item_is (ModifyEphemeral place k o) = rw (place_is place, ephemeral_is k, remote_is o.remote) refl
  item_is (MoveLine j i o) = rw (context_is j) refl
  item_is (MoveEphemeral j k o) = rw (context_is j, ephemeral_is k, remote_is o.remote) refl
  item_is (Subtract j t) = rw (context_is j, termination_is t) refl
  item_is (SubtractAll j) = rw (context_is j) refl
  item_is (SetTopology j t u topology) = rw (context_is j, termination_is t, termination_is u) refl

-- ---- the names in force

-- they go on as the agent takes the results
pub named_on : (e : Agent) (command : Command) (done : Done) (number : ℕ) → naming (after_result e command done number) ≡ named_after (naming e) command done
named_on e (Subtract j (termination.Line i)) done number = refl
named_on e command done number = refl

-- ---- the names that later commands are built with

-- the places are of commands that were done
pub record IsMadeBelow (made : Made) (count : ℕ) : Type 0 where
  pub contexts : (j place : ℕ) → made.contexts j ≡ Some place → place < count
  pub ephemerals : (k place : ℕ) → made.ephemerals k ≡ Some place → place < count

pub none_below : IsMadeBelow none_made 0
none_below = record { contexts = λ j place e. absurd (true≢false (sym (ap is_some e))); ephemerals = λ k place e. absurd (true≢false (sym (ap is_some e))) }

below_next : (made : ℕ → Option ℕ) (created : Option ℕ) (count : ℕ) → ((j place : ℕ) → made j ≡ Some place → place < count)
    → (j place : ℕ) → at_place made created count j ≡ Some place → place < count + 1
below_next made None count below j place e = let was : place < count = below j place e in omega (arith, was)
below_next made (Some name) count below j place e = go (j == name) e
  where
    go : (same : Bool) → (if same then Some count else made j) ≡ Some place → place < count + 1
    go true e = let is : count ≡ place = the_some count place e in omega (arith, is)
    go false e = let was : place < count = below j place e in omega (arith, was)

pub made_below_next : (made : Made) (command : Command) (count : ℕ) → IsMadeBelow made count → IsMadeBelow (made_after made command count) (count + 1)
made_below_next made command count below = record {
  contexts = below_next made.contexts (created_context command) count below.contexts;
  ephemerals = below_next made.ephemerals (created_ephemeral command) count below.ephemerals;
}

get_before : {A : Type 0} (xs : List A) (x : A) (place : ℕ) → place < length xs → slice_get (xs ++ x ∷ []) place ≡ slice_get xs place
get_before [] x place within = absurd (let past : place < 0 = within in omega (arith, past))
get_before (y ∷ xs) x zero within = refl
get_before (y ∷ xs) x (suc place) within = get_before xs x place (let inside : suc place < suc (length xs) = within in omega (arith, inside))

get_last : {A : Type 0} (xs : List A) (x : A) → slice_get (xs ++ x ∷ []) (length xs) ≡ Some x
get_last [] x = refl
get_last (y ∷ xs) x = get_last xs x

abbrev naming_of : (ℕ → ℕ) → (ℕ → Option ℕ) → (ℕ → Option ℕ) → Naming
naming_of lines contexts ephemerals = record { lines = lines; contexts = contexts; ephemerals = ephemerals }

namings_agree : (lines : ℕ → ℕ) (contexts other_contexts ephemerals other_ephemerals : ℕ → Option ℕ) → contexts ≡ other_contexts → ephemerals ≡ other_ephemerals
    → naming_of lines contexts ephemerals ≡ naming_of lines other_contexts other_ephemerals
namings_agree lines contexts other_contexts ephemerals other_ephemerals first second =
    ap (λ x. naming_of lines x ephemerals) first ∙ ap (naming_of lines other_contexts) second

module _ (results : List Done) (done : Done) where
  context_kept : (made bound : Option ℕ) → ((place : ℕ) → made ≡ Some place → place < length results)
      → context_made (results ++ done ∷ []) made bound ≡ context_made results made bound
  context_kept None bound below = refl
  context_kept (Some place) bound below = rw (get_before results done place (below place refl)) refl

  ephemeral_kept : (made bound : Option ℕ) → ((place : ℕ) → made ≡ Some place → place < length results)
      → ephemeral_made (results ++ done ∷ []) made bound ≡ ephemeral_made results made bound
  ephemeral_kept None bound below = refl
  ephemeral_kept (Some place) bound below = rw (get_before results done place (below place refl)) refl

  context_new : (made bound : Option ℕ) (test : Bool) → ((place : ℕ) → made ≡ Some place → place < length results)
      → context_made (results ++ done ∷ []) (if test then Some (length results) else made) bound
      ≡ (if test then done.context else context_made results made bound)
  context_new made bound true below = rw (get_last results done) refl
  context_new made bound false below = context_kept made bound below

  ephemeral_new : (made bound : Option ℕ) (test : Bool) → ((place : ℕ) → made ≡ Some place → place < length results)
      → ephemeral_made (results ++ done ∷ []) (if test then Some (length results) else made) bound
      ≡ (if test then done.ephemeral else ephemeral_made results made bound)
  ephemeral_new made bound true below = rw (get_last results done) refl
  ephemeral_new made bound false below = ephemeral_kept made bound below

  module _ (a : Agent) (made : Made) (below : IsMadeBelow made (length results)) where
    context_on : (create : Bool) (i j : ℕ)
        → context_made (results ++ done ∷ []) (at_place made.contexts (if create then Some i else None) (length results) j) (a.contexts j)
        ≡ bound_if create (naming_at a made results).contexts i done.context j
    context_on true i j = context_new (made.contexts j) (a.contexts j) (j == i) (below.contexts j)
    context_on false i j = context_kept (made.contexts j) (a.contexts j) (below.contexts j)

    same_contexts : (j : ℕ) → context_made (results ++ done ∷ []) (made.contexts j) (a.contexts j) ≡ (naming_at a made results).contexts j
    same_contexts j = context_kept (made.contexts j) (a.contexts j) (below.contexts j)

    same_ephemerals : (k : ℕ) → ephemeral_made (results ++ done ∷ []) (made.ephemerals k) (a.ephemerals k) ≡ (naming_at a made results).ephemerals k
    same_ephemerals k = ephemeral_kept (made.ephemerals k) (a.ephemerals k) (below.ephemerals k)

    same_names : naming_at a made (results ++ done ∷ []) ≡ naming_at a made results
    same_names = namings_agree a.lines _ _ _ _ (fun_ext same_contexts) (fun_ext same_ephemerals)

    pub built_on : (command : Command)
        → naming_at a (made_after made command (length results)) (results ++ done ∷ []) ≡ built_after (naming_at a made results) command done
    built_on (AddLine create i l o) = namings_agree a.lines _ _ _ _ (fun_ext (context_on create i)) (fun_ext same_ephemerals)
    built_on (AddEphemeral create i k o) = namings_agree a.lines _ _ _ _ (fun_ext (context_on create i))
        (fun_ext (λ x. ephemeral_new (made.ephemerals x) (a.ephemerals x) (x == k) (below.ephemerals x)))
    built_on command = same_names
