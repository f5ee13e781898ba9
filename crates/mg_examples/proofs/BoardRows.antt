-- The definitions of the connection model, computed on worked rows. The commands are executed one after the other, as if each were
-- legal, with the numbers 1, 2, .. for what they create.
use Rattle.std.proofs.Common.{◌≡◌, ◌+◌, ℕ, Bool, true, false, List, [], ◌∷◌, Option, Some, None, refl}
use Rattle.std.specs.Prelude.{◌==◌, ◌||◌}
use Rattle.mg_names.specs.declared.identifiers.TermId.{TermId}
use Rattle.mg_names.specs.declared.identifiers.TermId.TheVariants.{Line, Eph}
use Rattle.mg_names.specs.declared.modes.Mode.{Mode}
use Rattle.mg_names.specs.declared.modes.Mode.TheVariants.{Inactive, SendOnly, ReceiveOnly, SendReceive}
use Rattle.mg_names.specs.declared.topologies.Topology.TheVariants.{Isolate, Oneway}
use Rattle.mg_model.specs.declared.items.Added.TheVariants as added
use Rattle.mg_model.specs.declared.items.Item.{Item}
use Rattle.mg_model.specs.declared.items.Item.TheVariants.{Add, Modify, Subtract, SetTopology}
use Rattle.mg_model.specs.declared.items.RemoteSetting.{RemoteSetting}
use Rattle.mg_model.specs.declared.items.RemoteSetting.TheVariants.{Nothing, Ephemeral}
use Rattle.mg_model.specs.declared.items.Settings.{Settings}
use Rattle.mg_model.specs.declared.rows.Row.{Row}
use Rattle.mg_model.specs.Board.{Board}
use Rattle.mg_model.specs.Numbers.{choose}
use Rattle.mg_model.specs.Items.{effect, lacks_termination}
use Rattle.mg_model.specs.Media.{goes_over}

abbrev line : ℕ → TermId
line n = Line (record { 0 = n })

-- lines 1 and 2 in the null context
abbrev known : Bool → Option Row
known true = Some (record { place = record { 0 = 0 }; mode = Inactive; remote = None })
known false = None

abbrev is_line : TermId → Bool
is_line (Line l) = (l.0 == 1) || (l.0 == 2)
is_line (Eph k) = false

abbrev start : Board
start = record {
  row = λ t. known (is_line t);
  cut = λ t u. false;
  used_context = λ n. false;
  used_ephemeral = λ n. false;
  class = λ n. true;
}

abbrev by : Option Mode → Option RemoteSetting → Settings
by mode remote = record { mode = mode; remote = remote }

-- the commands in order; the numbers that are chosen for context and ephemeral rise
abbrev done : ℕ → Board → List Item → Board
done n b [] = b
done n b (item ∷ more) = done (n + 1) (effect b item (record { context = n; ephemeral = n })) more

abbrev add : ℕ → ℕ → Mode → Item
add context l mode = Add (record { 0 = context }) (added.Line (record { 0 = l })) (by (Some mode) None)

abbrev add_ephemeral : ℕ → Option RemoteSetting → Item
add_ephemeral context remote = Add (record { 0 = context }) added.NewEphemeral (by (Some SendReceive) remote)

-- line 1 receives from outside alone, line 2 sends to outside alone: media goes from 1 to 2
abbrev one_way : Board
one_way = done 1 start (add choose 1 ReceiveOnly ∷ add 1 2 SendOnly ∷ [])

there : goes_over one_way (line 1) [] (line 2) ≡ true
there = refl

not_back : goes_over one_way (line 2) [] (line 1) ≡ false
not_back = refl

abbrev both_send : Board
both_send = done 1 start (add choose 1 SendOnly ∷ add 1 2 SendOnly ∷ [])

neither : goes_over both_send (line 1) [] (line 2) ≡ false
neither = refl

abbrev topology : List Item → Board
topology more = done 1 start (add choose 1 SendReceive ∷ add 1 2 SendReceive ∷ SetTopology (record { 0 = 1 }) (line 1) (line 2) Oneway ∷ more)

oneway_there : goes_over (topology []) (line 1) [] (line 2) ≡ true
oneway_there = refl

oneway_not_back : goes_over (topology []) (line 2) [] (line 1) ≡ false
oneway_not_back = refl

abbrev isolated : Board
isolated = topology (SetTopology (record { 0 = 1 }) (line 1) (line 2) Isolate ∷ [])

isolated_there : goes_over isolated (line 1) [] (line 2) ≡ false
isolated_there = refl

-- what was set for the pair is forgotten once line 2 left
abbrev added_again : Board
added_again = topology (Subtract (record { 0 = 1 }) (line 2) ∷ add 1 2 SendReceive ∷ [])

again_there : goes_over added_again (line 1) [] (line 2) ≡ true
again_there = refl

again_back : goes_over added_again (line 2) [] (line 1) ≡ true
again_back = refl

-- two contexts, 1 and 3, with ephemerals 2 and 4 that name each other
abbrev crossed : List Item → Board
crossed more = done 1 start (add choose 1 SendReceive ∷ add_ephemeral 1 None ∷ add choose 2 SendReceive ∷ add_ephemeral 3 (Some (Ephemeral 2))
    ∷ Modify (record { 0 = 1 }) (Eph 2) (by None (Some (Ephemeral 4))) ∷ more)

crossed_there : goes_over (crossed []) (line 1) ((2, 4) ∷ []) (line 2) ≡ true
crossed_there = refl

crossed_back : goes_over (crossed []) (line 2) ((4, 2) ∷ []) (line 1) ≡ true
crossed_back = refl

abbrev sends_only : Board
sends_only = crossed (Modify (record { 0 = 3 }) (Eph 4) (by (Some SendOnly) None) ∷ [])

sends_not_there : goes_over sends_only (line 1) ((2, 4) ∷ []) (line 2) ≡ false
sends_not_there = refl

sends_back : goes_over sends_only (line 2) ((4, 2) ∷ []) (line 1) ≡ true
sends_back = refl

abbrev no_remote : Board
no_remote = crossed (Modify (record { 0 = 3 }) (Eph 4) (by None (Some Nothing)) ∷ [])

no_remote_there : goes_over no_remote (line 1) ((2, 4) ∷ []) (line 2) ≡ false
no_remote_there = refl

-- an ephemeral that was destroyed can't be a Remote
destroyed_unknown : lacks_termination (crossed (Subtract (record { 0 = 3 }) (Eph 4) ∷ [])) (Modify (record { 0 = 1 }) (Eph 2) (by None (Some (Ephemeral 4)))) ≡ true
destroyed_unknown = refl
