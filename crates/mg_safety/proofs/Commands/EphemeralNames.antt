-- An ephemeral that commands may use, by its number.
use Rattle.mg_safety.proofs.Words.{IsTrue, ◌≡◌, ◌∙◌, ℕ, Bool, true, Some, refl, sym, ap, Option, None, is_some, unwrap_or, option_map, TermId, Eph, Board}
use Rattle.mg_safety.proofs.Words.{exists, Configuration, remote_legal, names_nothing, Script, IsRemote, not_refused, some_of, RemoteOption, NoneGiven, Peer}
use Rattle.mg_safety.proofs.Words.{remote_option_known}
use Rattle.mg_model.specs.declared.commands.Termination.TheVariants as termination
use Rattle.mg_safety.proofs.InvariantWords.{Naming, Shown, AreBuilt, eph_of, row_on, known_by, ephemeral_for, remote_for}
use Rattle.mg_safety.proofs.Commands.InForce.{ephemeral_in_force}
use Rattle.mg_safety.proofs.Commands.Setting.{PeerInForce}

-- an ephemeral that commands may use, by its number
pub known_ephemeral : (m : Naming) (k : ℕ) → is_some (m.ephemerals k) ≡ true → m.ephemerals k ≡ Some (ephemeral_for m k)
known_ephemeral m k known =
    let x = some_of (m.ephemerals k) known in
    x.1 ∙ sym (ap (λ o. Some (unwrap_or o 0)) x.1)

pub peer_in_force : (n m : Naming) (b : Board) → AreBuilt n m b → (o : Option RemoteOption) → remote_option_known (known_by m) o ≡ true
    → (IsTrue (names_nothing b (option_map (remote_for m) o)) → ⊥) → PeerInForce n m o
peer_in_force n m b built None known accepted = tt
peer_in_force n m b built (Some NoneGiven) known accepted = tt
peer_in_force n m b built (Some (Peer k)) known accepted = (
  ephemeral_for m k,
  known_ephemeral m k known,
  ephemeral_in_force n m b built k (ephemeral_for m k) (known_ephemeral m k known) (not_refused (exists b (Eph (ephemeral_for m k))) accepted),
)

pub peer_legal : (script : Script) (owned : TermId → Bool) (n m : Naming) (b : Board) (c : Configuration) → Shown script owned n b c
    → (o : Option RemoteOption) → IsRemote script o → PeerInForce n m o → remote_legal c o ≡ true
peer_legal script owned n m b c shown None declared peer = refl
peer_legal script owned n m b c shown (Some NoneGiven) declared peer = refl
peer_legal script owned n m b c shown (Some (Peer k)) declared peer =
    sym (shown.stands (termination.Ephemeral k) declared) ∙ ap (λ q. is_some (row_on b (eph_of q))) peer.2 ∙ shown.ephemeral_stands k peer.0 peer.2
