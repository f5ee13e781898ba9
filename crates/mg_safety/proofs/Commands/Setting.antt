-- What a command sets on its termination, in the configuration and on the board: the mode, the Remote, the cuts that it forgets, and where
-- the termination stands.
use Rattle.mg_safety.proofs.Words.{◌≡◌, ◌∙◌, ◌||◌, ℕ, Bool, true, false, Option, Some, None, is_some, refl, sym, ap, subst, length, ◌<◌, if◌then◌else◌}
use Rattle.mg_safety.proofs.Words.{unwrap_or, option_map, TermId, Eph, Mode, EphemeralOptions, LineOptions, RemoteOption, NoneGiven, Peer, Termination, Remote}
use Rattle.mg_safety.proofs.Words.{Unset, Gone, To, Spot, In, Row, Board, same_term, exists, mode_of, mode_in, remote_of, remote_in, with_at, Configuration}
use Rattle.mg_safety.proofs.Words.{is_same, is_present, is_free, with_of, without_cuts_of, row_at, without_cuts, Script, IsSlot, false_either_way, is_same_self}
use Rattle.mg_safety.proofs.Words.{is_same_turned, same_term_turned}
use Rattle.mg_model.specs.declared.commands.Termination.TheVariants as termination
use Rattle.mg_model.specs.Effects as effects
use Rattle.mg_model.specs.Items as items
use Rattle.mg_safety.proofs.InvariantWords.{Naming, eph_of, term_of, row_on, cut_on, number_at, RemoteReads, Shown, line_settings, ephemeral_settings}
use Rattle.mg_safety.proofs.InvariantWords.{remote_for}
use Rattle.mg_safety.proofs.Commands.Binding.{with_at_here, with_at_kept}
use Rattle.mg_safety.proofs.Commands.Placing.{HasOneName, term_test, is_term}

-- ---- one termination changed

pub with_of_here : {A : Type 0} (f : Termination → A) (t : Termination) (v : A) → with_of f t v t ≡ v
with_of_here f t v = ap (λ p. if p then v else f t) (is_same_self t)

pub with_of_kept : {A : Type 0} (f : Termination → A) (t : Termination) (v : A) (s : Termination) → is_same s t ≡ false → with_of f t v s ≡ f s
with_of_kept f t v s e = ap (λ p. if p then v else f s) e

-- ---- cuts

cut_same : (b after : Board) → ((v w : TermId) → after.cut v w ≡ b.cut v w) → (o q : Option TermId) → cut_on b o q ≡ cut_on after o q
cut_same b after same None q = refl
cut_same b after same (Some v) None = refl
cut_same b after same (Some v) (Some w) = sym (same v w)

-- what is set for other pairs stays
pub cuts_outside : (cut : TermId → TermId → Bool) (u v w : TermId) → same_term v u ≡ false → same_term w u ≡ false
    → without_cuts (same_term u) cut v w ≡ cut v w
cuts_outside cut u v w first second = ap (λ q. if q || same_term u w then false else cut v w) (same_term_turned u v ∙ first)
    ∙ ap (λ q. if q then false else cut v w) (same_term_turned u w ∙ second)

-- cuts read at names where those of one termination are forgotten
forgotten : (b after : Board) (u : TermId) → ((v w : TermId) → after.cut v w ≡ without_cuts (same_term u) b.cut v w) → (o q : Option TermId)
    → (if is_term o u || is_term q u then false else cut_on b o q) ≡ cut_on after o q
forgotten b after u same None q = false_either_way (is_term q u)
forgotten b after u same (Some v) None = false_either_way (same_term v u || false)
forgotten b after u same (Some v) (Some w) =
    ap (λ p. if p || same_term w u then false else b.cut v w) (same_term_turned v u)
    ∙ ap (λ p. if same_term u v || p then false else b.cut v w) (same_term_turned w u) ∙ sym (same v w)

module _ (script : Script) (owned : TermId → Bool) (n : Naming) (b after : Board) (c : Configuration) (shown : Shown script owned n b c) where
  pub cuts_stay : ((v w : TermId) → after.cut v w ≡ b.cut v w) → (s v : Termination) → IsSlot script s → IsSlot script v
      → c.cut s v ≡ cut_on after (term_of n s) (term_of n v)
  cuts_stay same s v first second = shown.cut s v first second ∙ cut_same b after same (term_of n s) (term_of n v)

  -- what was set for the pairs of a termination is forgotten on both sides
  pub cuts_leave : (t : Termination) (u : TermId) → IsSlot script t → term_of n t ≡ Some u
      → ((v w : TermId) → after.cut v w ≡ without_cuts (same_term u) b.cut v w) → (s v : Termination) → IsSlot script s → IsSlot script v
      → without_cuts_of (is_same t) c.cut s v ≡ cut_on after (term_of n s) (term_of n v)
  cuts_leave t u slot named same s v first second =
      ap (λ p. if p || is_same t v then false else c.cut s v) (tests s first)
      ∙ ap (λ p. if is_term (term_of n s) u || p then false else c.cut s v) (tests v second)
      ∙ ap (λ p. if is_term (term_of n s) u || is_term (term_of n v) u then false else p) (shown.cut s v first second)
      ∙ forgotten b after u same (term_of n s) (term_of n v)
    where
      tests : (w : Termination) → IsSlot script w → is_same t w ≡ is_term (term_of n w) u
      tests w among = is_same_turned t w ∙ sym (term_test script owned n b c shown t w u slot among named)

-- ---- what is set

-- the mode, the Remote and the cuts of the configuration are those of the row
pub record IsSet (script : Script) (n : Naming) (after : Board) (c next : Configuration) (t : Termination) (r : Row) : Type 0 where
  pub mode : next.mode t ≡ r.mode
  pub mode_kept : (s : Termination) → is_same s t ≡ false → next.mode s ≡ c.mode s
  pub remote : (k : ℕ) → termination.Ephemeral k ≡ t → RemoteReads after n (next.remote k) r.remote
  pub remote_kept : (k : ℕ) → is_same (termination.Ephemeral k) t ≡ false → next.remote k ≡ c.remote k
  pub cut : (s v : Termination) → IsSlot script s → IsSlot script v → next.cut s v ≡ cut_on after (term_of n s) (term_of n v)

-- the termination stands where it stood
pub set_in_place : (script : Script) (owned : TermId → Bool) (n : Naming) (b after : Board) (c next : Configuration) (t : Termination) (u : TermId) (r : Row)
    → Shown script owned n b c → IsSlot script t → is_present (c.spot t) ≡ true → r.place.0 ≡ number_at n (c.spot t)
    → IsSet script n after c next t r → ((s : Termination) → next.spot s ≡ c.spot s) → ((j : ℕ) → next.context j ≡ c.context j)
    → HasOneName script n after c next t r
set_in_place script owned n b after c next t u r shown slot present number sets spots contexts = record {
  present = ap is_present (spots t) ∙ present;
  number = number ∙ sym (ap (number_at n) (spots t));
  in_bound = λ j at. shown.in_bound t j slot (sym (spots t) ∙ at);
  mode = sets.mode;
  remote = sets.remote;
  spot_kept = λ s other. spots s;
  mode_kept = sets.mode_kept;
  remote_kept = sets.remote_kept;
  cut = sets.cut;
  free = λ j. ap is_free (contexts j);
}

-- the termination stands in a context
pub set_in_context : (script : Script) (n : Naming) (after : Board) (c next : Configuration) (t : Termination) (r : Row) (j : ℕ)
    → n.contexts j ≡ Some r.place.0 → IsSet script n after c next t r → ((s : Termination) → next.spot s ≡ with_of c.spot t (In j) s)
    → ((i : ℕ) → is_free (next.context i) ≡ is_free (c.context i)) → HasOneName script n after c next t r
set_in_context script n after c next t r j bound sets spots free = record {
  present = ap is_present here;
  number = sym (ap (λ o. unwrap_or o 0) bound) ∙ sym (ap (number_at n) here);
  in_bound = λ i at. ap (in_number n) (sym at ∙ here) ∙ ap is_some bound;
  mode = sets.mode;
  remote = sets.remote;
  spot_kept = λ s other. spots s ∙ with_of_kept c.spot t (In j) s other;
  mode_kept = sets.mode_kept;
  remote_kept = sets.remote_kept;
  cut = sets.cut;
  free = free;
}
  where
    here : next.spot t ≡ In j
    here = spots t ∙ with_of_here c.spot t (In j)

    in_number : Naming → Spot → Bool
    in_number names (In i) = is_some (names.contexts i)
    in_number names spot = true

-- ---- a line

pub line_set : (script : Script) (owned : TermId → Bool) (n : Naming) (b after : Board) (c next : Configuration) (i p : ℕ) (u : TermId)
    (o : LineOptions) → Shown script owned n b c → i < length script.lines → term_of n (termination.Line i) ≡ Some u
    → ((s : Termination) → next.mode s ≡ with_of c.mode (termination.Line i) (unwrap_or o.mode (c.mode (termination.Line i))) s)
    → ((k : ℕ) → next.remote k ≡ c.remote k)
    → ((s v : Termination) → IsSlot script s → IsSlot script v → next.cut s v ≡ cut_on after (term_of n s) (term_of n v))
    → IsSet script n after c next (termination.Line i) (row_at p (line_settings o) (mode_of b u) (remote_of b u))
line_set script owned n b after c next i p u o shown slot named modes remotes cuts = record {
  mode = modes (termination.Line i)
      ∙ with_of_here c.mode (termination.Line i) (unwrap_or o.mode (c.mode (termination.Line i)))
      ∙ ap (unwrap_or o.mode) (shown.mode (termination.Line i) slot ∙ ap (λ q. mode_in (row_on b q)) named);
  mode_kept = λ s other. modes s ∙ with_of_kept c.mode (termination.Line i) (unwrap_or o.mode (c.mode (termination.Line i))) s other;
  remote = λ k same. absurd (cc);
  remote_kept = λ k other. remotes k;
  cut = cuts;
}

-- ---- an ephemeral

-- the peer that a Remote option names is in force
abbrev pub PeerInForce : Naming → Naming → Option RemoteOption → Type 0
PeerInForce n m None = Unit {0}
PeerInForce n m (Some NoneGiven) = Unit {0}
PeerInForce n m (Some (Peer k)) = (x : ℕ) × (m.ephemerals k ≡ Some x) × (n.ephemerals k ≡ Some x)

-- a Remote that reads as before where the same ephemerals exist and were given
read_as_before : (n : Naming) (b after : Board) → ((y : ℕ) → exists after (Eph y) ≡ exists b (Eph y))
    → ((y : ℕ) → after.used_ephemeral y ≡ b.used_ephemeral y) → (value : Remote) (o : Option ℕ) → RemoteReads b n value o
    → RemoteReads after n value o
read_as_before n b after existing given Unset o reads = reads
read_as_before n b after existing given Gone o reads = (reads.0, reads.1, existing reads.0 ∙ reads.2, given reads.0 ∙ reads.3)
read_as_before n b after existing given (To i) o reads = reads

-- a Remote that is set reads as the configuration says
remote_reads : (n m : Naming) (after : Board) (q : Option RemoteOption) (value : Remote) (was : Option ℕ) → PeerInForce n m q
    → RemoteReads after n value was → RemoteReads after n (effects.remote_set q value) (items.remote_set (option_map (remote_for m) q) was)
remote_reads n m after None value was peer reads = reads
remote_reads n m after (Some NoneGiven) value was peer reads = refl
remote_reads n m after (Some (Peer k)) value was peer reads = (peer.0, ap (λ o. Some (unwrap_or o 0)) peer.1, peer.2)

-- the mode and the Remote before it are these
pub ephemeral_set : (script : Script) (owned : TermId → Bool) (n m : Naming) (b after : Board) (c next : Configuration) (k x p : ℕ)
    (o : EphemeralOptions) (mode : Mode) (remote : Option ℕ) → Shown script owned n b c → k < length script.ephemerals → n.ephemerals k ≡ Some x
    → mode_of b (Eph x) ≡ mode → remote_of b (Eph x) ≡ remote → PeerInForce n m o.remote
    → ((y : ℕ) → exists after (Eph y) ≡ exists b (Eph y)) → ((y : ℕ) → after.used_ephemeral y ≡ b.used_ephemeral y)
    → ((s : Termination) → next.mode s ≡ with_of c.mode (termination.Ephemeral k) (unwrap_or o.mode (c.mode (termination.Ephemeral k))) s)
    → ((i : ℕ) → next.remote i ≡ with_at c.remote k (effects.remote_set o.remote (c.remote k)) i)
    → ((s v : Termination) → IsSlot script s → IsSlot script v → next.cut s v ≡ cut_on after (term_of n s) (term_of n v))
    → IsSet script n after c next (termination.Ephemeral k) (row_at p (ephemeral_settings m o) mode remote)
ephemeral_set script owned n m b after c next k x p o mode remote shown slot bound was_mode was_remote peer existing given modes remotes cuts = record {
  mode = modes (termination.Ephemeral k)
      ∙ with_of_here c.mode (termination.Ephemeral k) (unwrap_or o.mode (c.mode (termination.Ephemeral k)))
      ∙ ap (unwrap_or o.mode) (shown.mode (termination.Ephemeral k) slot ∙ ap (λ q. mode_in (row_on b (eph_of q))) bound ∙ was_mode);
  mode_kept = λ s other. modes s ∙ with_of_kept c.mode (termination.Ephemeral k) (unwrap_or o.mode (c.mode (termination.Ephemeral k))) s other;
  remote = λ i same. let one : i ≡ k = cc in subst (λ value. RemoteReads after n value (items.remote_set (option_map (remote_for m) o.remote) remote))
      (sym (remotes i ∙ ap (with_at c.remote k (effects.remote_set o.remote (c.remote k))) one
      ∙ with_at_here c.remote k (effects.remote_set o.remote (c.remote k))))
      (remote_reads n m after o.remote (c.remote k) remote peer
      (read_as_before n b after existing given (c.remote k) remote
      (subst (RemoteReads b n (c.remote k)) (ap (λ q. remote_in (row_on b (eph_of q))) bound ∙ was_remote) (shown.remote k slot))));
  remote_kept = λ i other. remotes i ∙ with_at_kept c.remote k (effects.remote_set o.remote (c.remote k)) i other;
  cut = cuts;
}
