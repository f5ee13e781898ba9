-- Each name of a command's meaning is declared.
use Rattle.std.proofs.Common.{◌≡◌, ◌<◌, ℕ, List, length, Bool, true, false, subst, Option, Some, None}
use Rattle.std.specs.Prelude.{if◌then◌else◌, codes}
use Rattle.std.specs.Str.{bytes_eq}
use Rattle.std.proofs.lemmas.Option.{same_Some}
use Rattle.mg_model.specs.Accepted.{IsSlot, IsPlace, IsRemote, IsCommandOf}
use Rattle.mg_model.specs.Script.{Script}
use Rattle.mg_model.specs.declared.commands.Command.{Command}
use Rattle.mg_model.specs.declared.commands.Command.TheVariants.{AddLine, AddEphemeral, ModifyLine, ModifyEphemeral, MoveLine, MoveEphemeral, Subtract, SubtractAll, SetTopology}
use Rattle.mg_model.specs.declared.commands.EphemeralOptions.{EphemeralOptions}
use Rattle.mg_model.specs.declared.commands.Place.{Place}
use Rattle.mg_model.specs.declared.commands.Place.TheVariants.{NullContext, Context}
use Rattle.mg_model.specs.declared.commands.RemoteOption.{RemoteOption}
use Rattle.mg_model.specs.declared.commands.RemoteOption.TheVariants.{NoneGiven, Peer}
use Rattle.mg_model.specs.declared.commands.Termination.{Termination}
use Rattle.mg_model.specs.declared.commands.Termination.TheVariants.{Line, Ephemeral}
use Rattle.mg_names.specs.declared.topologies.Topology.{Topology}
use Rattle.scriptreader.specs.declared.syntax.Options.{Options}
use Rattle.scriptreader.specs.declared.syntax.WrittenCommand.{WrittenCommand}
use Rattle.scriptreader.specs.declared.syntax.WrittenCommand.TheVariants as written
use Rattle.typed_values.specs.Names.{is_among}
use Rattle.scriptreader.specs.DeclaredNames.{Scope}
use Rattle.typed_values.specs.Shape.{optional_at}
use Rattle.scriptreader.specs.Meaning.{slot_for, remote_for, termination_for, place_for, line_options_for, ephemeral_options_for, add_line_for, add_ephemeral_for, modify_line_for, modify_ephemeral_for, move_line_for, move_ephemeral_for, subtract_for, subtract_all_for, topology_for, command_for}
use Rattle.scriptreader.proofs.Slots.{bound, slot_within}

-- the script declares the names of the scope
pub record Declares (k : Scope) (script : Script) : Type 0 where
  pub lines : k.lines ≡ script.lines
  pub contexts : k.contexts ≡ script.contexts
  pub ephemerals : k.ephemerals ≡ script.ephemerals

-- whichever of two it is
pub either_way : {A P : Type 0} (b : Bool) (o p : Option A) (y : A) → (if b then o else p) ≡ Some y → (o ≡ Some y → P) → (p ≡ Some y → P) → P
either_way true o p y e h k = h e
either_way false o p y e h k = k e

-- what holds of one value holds of the other
pub carried : {A : Type 0} (P : A → Type 0) (x y : A) → Some x ≡ Some y → P x → P y
carried P x y e h = subst P (same_Some x y e) h

module _ (k : Scope) (script : Script) (declares : Declares k script) where
  line_within : (name : List ℕ) (i : ℕ) → slot_for k.lines name ≡ Some i → i < length script.lines
  line_within name i e = subst (λ (names : List (List ℕ)). i < length names) declares.lines (slot_within k.lines name i e)

  context_within : (name : List ℕ) (j : ℕ) → slot_for k.contexts name ≡ Some j → j < length script.contexts
  context_within name j e = subst (λ (names : List (List ℕ)). j < length names) declares.contexts (slot_within k.contexts name j e)

  ephemeral_within : (name : List ℕ) (n : ℕ) → slot_for k.ephemerals name ≡ Some n → n < length script.ephemerals
  ephemeral_within name n e = subst (λ (names : List (List ℕ)). n < length names) declares.ephemerals (slot_within k.ephemerals name n e)

  termination_within : (name : List ℕ) (t : Termination) → termination_for k name ≡ Some t → IsSlot script t
  termination_within name t e =
      either_way (is_among name k.lines) _ _ t e
      (λ h. bound (slot_for k.lines name) _ t h (λ i at same. carried (IsSlot script) (Line i) t same (line_within name i at)))
      (λ h. bound (slot_for k.ephemerals name) _ t h (λ n at same. carried (IsSlot script) (Ephemeral n) t same (ephemeral_within name n at)))

  place_within : (o : Option (List ℕ)) (place : Place) → place_for k o ≡ Some place → IsPlace script place
  place_within None place e = carried (IsPlace script) NullContext place e tt
  place_within (Some name) place e =
      bound (slot_for k.contexts name) _ place e (λ j at same. carried (IsPlace script) (Context j) place same (context_within name j at))

  peer_within : (name : List ℕ) (remote : RemoteOption) → remote_for k name ≡ Some remote → IsRemote script (Some remote)
  peer_within name remote e =
      either_way (bytes_eq name (codes "none")) _ _ remote e
      (λ h. carried (λ (r : RemoteOption). IsRemote script (Some r)) NoneGiven remote h tt)
      (λ h. bound (slot_for k.ephemerals name) _ remote h (λ n at same. carried (λ (r : RemoteOption). IsRemote script (Some r)) (Peer n) remote same (ephemeral_within name n at)))

  remote_within : (o : Option (List ℕ)) (remote : Option RemoteOption) → optional_at (remote_for k) o ≡ Some remote → IsRemote script remote
  remote_within None remote e = carried (IsRemote script) None remote e tt
  remote_within (Some name) remote e =
      bound (remote_for k name) _ remote e (λ r at same. carried (IsRemote script) (Some r) remote same (peer_within name r at))

  options_within : (o : Options) (options : EphemeralOptions) → ephemeral_options_for k o ≡ Some options → IsRemote script options.remote
  options_within o options e =
      bound (optional_at (remote_for k) o.remote) _ options e (λ r at same.
      carried (λ (x : EphemeralOptions). IsRemote script x.remote) (record { mode = o.mode; remote = r }) options same (remote_within o.remote r at))

  -- ---- commands

  add_line_within : (create : Bool) (context name : List ℕ) (o : Options) (m : Command) → add_line_for k create context name o ≡ Some m → IsCommandOf script m
  unfolding add_line_for
  add_line_within create context name o m e =
      bound (slot_for k.contexts context) _ m e (λ j at e2.
      bound (slot_for k.lines name) _ m e2 (λ i on e3.
      bound (line_options_for k o) _ m e3 (λ options given same.
      carried (IsCommandOf script) (AddLine create j i options) m same (context_within context j at, line_within name i on))))

  add_ephemeral_within : (create : Bool) (context name : List ℕ) (o : Options) (m : Command) → add_ephemeral_for k create context name o ≡ Some m → IsCommandOf script m
  unfolding add_ephemeral_for
  add_ephemeral_within create context name o m e =
      bound (slot_for k.contexts context) _ m e (λ j at e2.
      bound (slot_for k.ephemerals name) _ m e2 (λ n on e3.
      bound (ephemeral_options_for k o) _ m e3 (λ options given same.
      carried (IsCommandOf script) (AddEphemeral create j n options) m same (context_within context j at, ephemeral_within name n on, options_within o options given))))

  modify_line_within : (place : Option (List ℕ)) (name : List ℕ) (o : Options) (m : Command) → modify_line_for k place name o ≡ Some m → IsCommandOf script m
  unfolding modify_line_for
  modify_line_within place name o m e =
      bound (place_for k place) _ m e (λ j at e2.
      bound (slot_for k.lines name) _ m e2 (λ i on e3.
      bound (line_options_for k o) _ m e3 (λ options given same.
      carried (IsCommandOf script) (ModifyLine j i options) m same (place_within place j at, line_within name i on))))

  modify_ephemeral_within : (place : Option (List ℕ)) (name : List ℕ) (o : Options) (m : Command) → modify_ephemeral_for k place name o ≡ Some m → IsCommandOf script m
  unfolding modify_ephemeral_for
  modify_ephemeral_within place name o m e =
      bound (place_for k place) _ m e (λ j at e2.
      bound (slot_for k.ephemerals name) _ m e2 (λ n on e3.
      bound (ephemeral_options_for k o) _ m e3 (λ options given same.
      carried (IsCommandOf script) (ModifyEphemeral j n options) m same (place_within place j at, ephemeral_within name n on, options_within o options given))))

  move_line_within : (context name : List ℕ) (o : Options) (m : Command) → move_line_for k context name o ≡ Some m → IsCommandOf script m
  unfolding move_line_for
  move_line_within context name o m e =
      bound (slot_for k.contexts context) _ m e (λ j at e2.
      bound (slot_for k.lines name) _ m e2 (λ i on e3.
      bound (line_options_for k o) _ m e3 (λ options given same.
      carried (IsCommandOf script) (MoveLine j i options) m same (context_within context j at, line_within name i on))))

  move_ephemeral_within : (context name : List ℕ) (o : Options) (m : Command) → move_ephemeral_for k context name o ≡ Some m → IsCommandOf script m
  unfolding move_ephemeral_for
  move_ephemeral_within context name o m e =
      bound (slot_for k.contexts context) _ m e (λ j at e2.
      bound (slot_for k.ephemerals name) _ m e2 (λ n on e3.
      bound (ephemeral_options_for k o) _ m e3 (λ options given same.
      carried (IsCommandOf script) (MoveEphemeral j n options) m same (context_within context j at, ephemeral_within name n on, options_within o options given))))

  subtract_within : (context name : List ℕ) (m : Command) → subtract_for k context name ≡ Some m → IsCommandOf script m
  unfolding subtract_for
  subtract_within context name m e =
      bound (slot_for k.contexts context) _ m e (λ j at e2.
      bound (termination_for k name) _ m e2 (λ t on same.
      carried (IsCommandOf script) (Subtract j t) m same (context_within context j at, termination_within name t on)))

  subtract_all_within : (context : List ℕ) (m : Command) → subtract_all_for k context ≡ Some m → IsCommandOf script m
  unfolding subtract_all_for
  subtract_all_within context m e =
      bound (slot_for k.contexts context) _ m e (λ j at same. carried (IsCommandOf script) (SubtractAll j) m same (context_within context j at))

  topology_within : (context first second : List ℕ) (topology : Topology) (m : Command) → topology_for k context first second topology ≡ Some m → IsCommandOf script m
  unfolding topology_for
  topology_within context first second topology m e =
      bound (slot_for k.contexts context) _ m e (λ j at e2.
      bound (termination_for k first) _ m e2 (λ t on e3.
      bound (termination_for k second) _ m e3 (λ u over same.
      carried (IsCommandOf script) (SetTopology j t u topology) m same (context_within context j at, termination_within first t on, termination_within second u over))))

  -- each name of a command is declared
  pub command_within : (c : WrittenCommand) (m : Command) → command_for k c ≡ Some m → IsCommandOf script m
  unfolding command_for
  command_within (written.Add create context own name o) m e =
      either_way own _ _ m e (add_ephemeral_within create context name o m) (add_line_within create context name o m)
  command_within (written.Modify place name o) m e =
      either_way (is_among name k.lines) _ _ m e (modify_line_within place name o m) (modify_ephemeral_within place name o m)
  command_within (written.Move context name o) m e =
      either_way (is_among name k.lines) _ _ m e (move_line_within context name o m) (move_ephemeral_within context name o m)
  command_within (written.Subtract context name) m e = subtract_within context name m e
  command_within (written.SubtractAll context) m e = subtract_all_within context m e
  command_within (written.SetTopology context first second topology) m e = topology_within context first second topology m e
