-- One command in two worlds: the items that it is on the two boards, which name what stands for one another; and what holds of the two boards while a
-- request runs.
use Rattle.std.proofs.Common.{◌≡◌, ℕ, Bool, true, IsTrue, Option, Some, None, ◌⊎◌}
use Rattle.mg_merge.proofs.Words.{Add, Board, Ephemeral, Item, Modify, Move, Nothing, RemoteSetting, SetTopology, Settings, Subtract, SubtractAll, TermId}
use Rattle.mg_merge.proofs.Words.{Topology, choose, place_of, the_context, the_line}
use Rattle.mg_alike.proofs.Words.{PlacesAlike, Renaming, TermsAlike}
use Rattle.mg_model.specs.declared.items.Added.TheVariants as added
use Rattle.mg_safety.proofs.Invariant.Shown.{IsAccounted}

-- ---- items

pub data Twin : Type 0 where
  add_line : (c d l : ℕ) → Settings → Settings → Twin
  add_ephemeral : (c d : ℕ) → Settings → Settings → Twin
  modify : (c d : ℕ) → TermId → TermId → Settings → Settings → Twin
  move : (c d : ℕ) → TermId → TermId → Settings → Settings → Twin
  subtract : (c d : ℕ) → TermId → TermId → Twin
  subtract_all : (c d : ℕ) → Twin
  set_topology : (c d : ℕ) → (t u v x : TermId) → Topology → Twin

abbrev pub one_of : Twin → Item
one_of (add_line c d l s z) = Add (the_context c) (added.Line (the_line l)) s
one_of (add_ephemeral c d s z) = Add (the_context c) added.NewEphemeral s
one_of (modify c d t u s z) = Modify (the_context c) t s
one_of (move c d t u s z) = Move (the_context c) t s
one_of (subtract c d t u) = Subtract (the_context c) t
one_of (subtract_all c d) = SubtractAll (the_context c)
one_of (set_topology c d t u v x topology) = SetTopology (the_context c) t v topology

abbrev pub other_of : Twin → Item
other_of (add_line c d l s z) = Add (the_context d) (added.Line (the_line l)) z
other_of (add_ephemeral c d s z) = Add (the_context d) added.NewEphemeral z
other_of (modify c d t u s z) = Modify (the_context d) u z
other_of (move c d t u s z) = Move (the_context d) u z
other_of (subtract c d t u) = Subtract (the_context d) u
other_of (subtract_all c d) = SubtractAll (the_context d)
other_of (set_topology c d t u v x topology) = SetTopology (the_context d) u x topology

abbrev pub SetRemotesAlike : Renaming → Option RemoteSetting → Option RemoteSetting → Type 0
SetRemotesAlike r None None = Unit {0}
SetRemotesAlike r (Some s) None = ⊥
SetRemotesAlike r None (Some z) = ⊥
SetRemotesAlike r (Some Nothing) (Some Nothing) = Unit {0}
SetRemotesAlike r (Some (Ephemeral k)) (Some (Ephemeral i)) = IsTrue (r.ephemerals k i)
SetRemotesAlike r _ _ = ⊥

pub record SettingsAlike (r : Renaming) (s z : Settings) : Type 0 where
  pub mode : z.mode ≡ s.mode
  pub remote : SetRemotesAlike r s.remote z.remote

-- the context of an Add: CHOOSE, or one that is renamed
abbrev pub TargetsAlike : Renaming → ℕ → ℕ → Type 0
TargetsAlike r c d = ((c ≡ choose) × (d ≡ choose)) ⊎ (r.contexts c d ≡ true)

-- both name what stands for one another
abbrev pub IsTwin : Renaming → (ℕ → Bool) → Twin → Type 0
IsTwin r held (add_line c d l s z) = TargetsAlike r c d × (held l ≡ true) × SettingsAlike r s z
IsTwin r held (add_ephemeral c d s z) = TargetsAlike r c d × SettingsAlike r s z
IsTwin r held (modify c d t u s z) = PlacesAlike r c d × TermsAlike r held t u × SettingsAlike r s z
IsTwin r held (move c d t u s z) = (r.contexts c d ≡ true) × TermsAlike r held t u × SettingsAlike r s z
IsTwin r held (subtract c d t u) = (r.contexts c d ≡ true) × TermsAlike r held t u
IsTwin r held (subtract_all c d) = r.contexts c d ≡ true
IsTwin r held (set_topology c d t u v x topology) = (r.contexts c d ≡ true) × TermsAlike r held t u × TermsAlike r held v x

-- ---- while a request runs

-- whoever stands in a context that is renamed is the call's, and what is renamed, and whatever stands, can't be given by the request
pub record InUse (r : Renaming) (held : ℕ → Bool) (b m : Board) : Type 0 where
  pub members : (x y : ℕ) → r.contexts x y ≡ true → (t : TermId) → place_of b t ≡ x → (u : TermId) × TermsAlike r held t u
  pub members_back : (x y : ℕ) → r.contexts x y ≡ true → (u : TermId) → place_of m u ≡ y → (t : TermId) × TermsAlike r held t u
  pub contexts : (x y : ℕ) → r.contexts x y ≡ true → (b.used_context x ≡ true) × (m.used_context y ≡ true)
  pub ephemerals : (x y : ℕ) → r.ephemerals x y ≡ true → (b.used_ephemeral x ≡ true) × (m.used_ephemeral y ≡ true)
  pub accounted : IsAccounted b
  pub accounted_back : IsAccounted m
