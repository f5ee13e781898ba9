-- Add of an ephemeral carries over.
use Rattle.mg_safety.proofs.Words.{IsTrue, ◌≡◌, ◌∙◌, ◌<◌, ℕ, Bool, true, false, not, length, Option, Some, None, is_some, refl, sym, ap, subst, subst₂, inr}
use Rattle.mg_safety.proofs.Words.{eqb-true, and_from, if◌then◌else◌, ◌==◌, UnknownContext, UnknownTermination, Live, Eph, Inactive, AddEphemeral}
use Rattle.mg_safety.proofs.Words.{EphemeralOptions, RemoteOption, NoneGiven, Peer, Termination, Null, In, Row, Board, same_term, exists, mode_in, remote_in}
use Rattle.mg_safety.proofs.Words.{with_at, Configuration, is_same, is_present, is_live, is_free, with_of, stands_in, choose, remote_legal, given}
use Rattle.mg_safety.proofs.Words.{is_context_number, is_ephemeral_number, row_at, target, with_ephemeral, remote_option_known, Script, denied, none_is_some}
use Rattle.mg_safety.proofs.Words.{same_term_self, and_parts}
use Rattle.mg_model.specs.declared.commands.Termination.TheVariants as termination
use Rattle.mg_model.specs.Effects as effects
use Rattle.mg_model.specs.Items.{effect}
use Rattle.mg_safety.proofs.InvariantWords.{IsCarriedOver, Naming, eph_of, Shown, IsAccounted, Owner, owned_at, AreBuilt, known_by, context_for}
use Rattle.mg_safety.proofs.InvariantWords.{ephemeral_settings, item_for}
use Rattle.mg_safety.proofs.Shared.Components.{free_as_before}
use Rattle.mg_safety.proofs.Commands.Binding.{with_at_here, with_at_kept, with_context, given_still, shown_live, shown_given, accounted_given, built_given}
use Rattle.mg_safety.proofs.Commands.Carrying.{Carries, IsEntered, carried, carried_over}
use Rattle.mg_safety.proofs.Commands.CreatedShown.{unbound_ephemeral, created_shown}
use Rattle.mg_safety.proofs.Commands.Creating.{first_row, with_created, with_ephemeral_name, with_present, created_row, accounted_created, built_created}
use Rattle.mg_safety.proofs.Commands.Creating.{owned_back}
use Rattle.mg_safety.proofs.Commands.EnteredContexts.{entered_fresh, target_existing}
use Rattle.mg_safety.proofs.Commands.EphemeralNames.{peer_in_force, peer_legal}
use Rattle.mg_safety.proofs.Commands.InContext.{with_live}
use Rattle.mg_safety.proofs.Commands.OneRow.{HasOneRow, row_here, exists_as_before}
use Rattle.mg_safety.proofs.Commands.Setting.{PeerInForce, cuts_stay, cuts_outside, ephemeral_set, set_in_context}

-- ---- tests

if_twice : {A : Type 0} (p : Bool) (x y z : A) → (if p then x else z) ≡ (if p then x else (if p then y else z))
if_twice true x y z = refl
if_twice false x y z = refl

-- a peer is another ephemeral than the one that is created
peer_still : (n m : Naming) (k x : ℕ) (o : Option RemoteOption) → n.ephemerals k ≡ None → PeerInForce n m o
    → PeerInForce (with_ephemeral_name n k x) m o
peer_still n m k x None unbound peer = tt
peer_still n m k x (Some NoneGiven) unbound peer = tt
peer_still n m k x (Some (Peer i)) unbound peer = (peer.0, peer.1, go (i == k) refl)
  where
    go : (p : Bool) → (i == k) ≡ p → with_at n.ephemerals k (Some x) i ≡ Some peer.0
    go true same = absurd (none_is_some peer.0 (sym (ap n.ephemerals (eqb-true i k same) ∙ unbound) ∙ peer.2))
    go false other = with_at_kept n.ephemerals k (Some x) i other ∙ peer.2

-- ---- an ephemeral that is created in a context

-- the board, with numbers that were given to contexts
abbrev with_contexts : Board → (ℕ → Bool) → Board
with_contexts b numbers = record b { used_context = numbers }

-- the board after a command that creates the ephemeral x in context p, by names m
abbrev with_added_ephemeral : Board → (ℕ → Bool) → ℕ → ℕ → Naming → EphemeralOptions → Board
with_added_ephemeral b numbers x p m o = record (with_ephemeral b x p (ephemeral_settings m o)) {
  used_context = numbers;
  used_ephemeral = given true x b.used_ephemeral;
}

module _ (script : Script) (own : Owner) (n m built_by : Naming) (before : Board) (numbers after_numbers : ℕ → Bool) (c : Configuration)
    (create : Bool) (j k x p : ℕ) (o : EphemeralOptions)
    (shown : Shown script (owned_at own before) n (with_contexts before numbers) (with_live c j)) (accounted : IsAccounted (with_contexts before numbers))
    (built : AreBuilt n m (with_contexts before numbers)) (slot : k < length script.ephemerals) (fresh : before.used_ephemeral x ≡ false)
    (earlier : (y : ℕ) → own.before y ≡ true → before.used_ephemeral y ≡ true) (absent : is_present (c.spot (termination.Ephemeral k)) ≡ false)
    (still : (y : ℕ) → before.used_context y ≡ true → numbers y ≡ true) (more : (y : ℕ) → numbers y ≡ true → after_numbers y ≡ true)
    (bound : n.contexts j ≡ Some p) (entered : IsEntered own n m before numbers p) (peer : PeerInForce n built_by o.remote) where
  abbrev name : Termination
  name = termination.Ephemeral k

  abbrev middle : Board
  middle = with_created (with_contexts before numbers) x

  abbrev end : Board
  end = with_added_ephemeral before after_numbers x p built_by o

  abbrev names : Naming
  names = with_ephemeral_name n k x

  abbrev between : Configuration
  between = with_present (with_live c j) k

  abbrev next : Configuration
  next = effects.effect script c (AddEphemeral create j k o)

  abbrev row : Row
  row = row_at p (ephemeral_settings built_by o) Inactive None

  named : names.ephemerals k ≡ Some x
  named = with_at_here n.ephemerals k (Some x)

  shown_between : Shown script (owned_at own middle) names middle between
  shown_between = created_shown script own n (with_contexts before numbers) (with_live c j) k x shown accounted fresh earlier slot absent

  stood : exists middle (Eph x) ≡ true
  stood = shown_between.ephemeral_stands k x named

  one : HasOneRow middle end (Eph x) row
  one = record { row = λ v. if_twice (same_term v (Eph x)) (Some row) (Some first_row) (before.row v); used_context = more; used_ephemeral = λ y e. e }

  row_read : middle.row (Eph x) ≡ Some first_row
  row_read = row_here (with_contexts before numbers) middle (Eph x) first_row (created_row (with_contexts before numbers) x fresh accounted) (Eph x)
      (same_term_self (Eph x))

  pub carried_created : Carries script own names (with_ephemeral_name m k x) before end next
  carried_created = carried script own names (with_ephemeral_name m k x) before middle end between next name (Eph x) row shown_between
      (accounted_created (with_contexts before numbers) x fresh accounted) (built_created (with_contexts before numbers) x fresh accounted n m k built)
      slot (ap eph_of named) stood one
      (set_in_context script names end between next name row j bound
      (ephemeral_set script (owned_at own middle) names built_by middle end between next k x p o Inactive None shown_between slot named
      (ap mode_in row_read) (ap remote_in row_read)
      (peer_still n built_by k x o.remote
      (unbound_ephemeral script own n (with_contexts before numbers) (with_live c j) k x shown accounted fresh earlier slot absent) peer)
      (λ y. exists_as_before middle end (Eph x) row one stood (Eph y)) (λ y. refl) (λ s. refl) (λ i. refl)
      (cuts_stay script (owned_at own middle) names middle end between shown_between (λ v w. refl)))
      (λ s. if_twice (is_same s name) (In j) Null (c.spot s))
      (λ i. free_as_before (with_at c.context j Live i) (stands_in (with_of c.spot name (In j)) i)))
      (λ y. refl)
      (record { row = λ v. refl; used_context = λ y e. more y (still y e); used_ephemeral = λ y e. given_still true x before.used_ephemeral y e })
      (inr (x, refl, fresh)) (cuts_outside before.cut (Eph x)) (owned_back (with_contexts before numbers) x fresh accounted own earlier)
      (λ real. record { was_given = entered.was_given; in_force = entered.in_force; stood = entered.stood })

-- ---- into a context that exists

add_ephemeral_named : (j k : ℕ) (o : EphemeralOptions) → IsCarriedOver (AddEphemeral false j k o)
add_ephemeral_named j k o script is_script own n m b c after done ready x =
    let made : ℕ = x.chosen.ephemeral in
    let end : Board = effect b (item_for m (AddEphemeral false j k o)) x.chosen in
    let next : Configuration = effects.effect script c (AddEphemeral false j k o) in
    let p : ℕ = target (record { 0 = context_for m j }) x.chosen in
    let fresh : is_ephemeral_number made × (b.used_ephemeral made ≡ false) × IsTrue (b.class made) = x.fresh.ephemeral refl in
    let known = and_parts (is_some (m.contexts j)) (remote_option_known (known_by m) o.remote) ready.known in
    let peer : PeerInForce n m o.remote = peer_in_force n m b ready.built o.remote known.1 (x.legal UnknownTermination) in
    let existing = target_existing script is_script own n m b c (AddEphemeral false j k o) ready j known.0 x.chosen (x.legal UnknownContext) in
    carried_over script own n m b after end c (AddEphemeral false j k o) done x.effect_is
    (and_from (is_live (c.context j)) (remote_legal c o.remote) existing.live
    (peer_legal script (owned_at own b) n m b c ready.shown o.remote ready.declared.2 peer))
    (subst (λ q. Carries script own (record n { ephemerals = with_at n.ephemerals k q }) (record m { ephemerals = with_at m.ephemerals k q }) b end next)
    (sym x.result.ephemeral)
    (carried_created script own n m m b b.used_context (given (context_for m j == choose) x.chosen.context b.used_context) c false j k made p o
    (shown_live script (owned_at own b) n b c j p ready.shown existing.bound) ready.accounted ready.built ready.declared.1 fresh.1 ready.earlier
    (denied (is_present (c.spot (termination.Ephemeral k))) ready.unbound) (λ y e. e)
    (given_still (context_for m j == choose) x.chosen.context b.used_context) existing.bound existing.entered peer))
    (λ t. refl)

-- ---- into a context that is created

-- a peer is in force whatever contexts are
peer_kept : (n m : Naming) (j y : ℕ) (o : Option RemoteOption) → PeerInForce n m o → PeerInForce (with_context n j y) m o
peer_kept n m j y None known = tt
peer_kept n m j y (Some NoneGiven) known = tt
peer_kept n m j y (Some (Peer i)) known = known

add_ephemeral_created : (j k : ℕ) (o : EphemeralOptions) → IsCarriedOver (AddEphemeral true j k o)
add_ephemeral_created j k o script is_script own n m b c after done ready x =
    let made : ℕ = x.chosen.ephemeral in
    let y : ℕ = x.chosen.context in
    let end : Board = effect b (item_for m (AddEphemeral true j k o)) x.chosen in
    let next : Configuration = effects.effect script c (AddEphemeral true j k o) in
    let fresh : is_ephemeral_number made × (b.used_ephemeral made ≡ false) × IsTrue (b.class made) = x.fresh.ephemeral refl in
    let fresh_context : is_context_number y × (b.used_context y ≡ false) × IsTrue (b.class y) = x.fresh.context refl in
    let unbound = and_parts (is_free (c.context j)) (not (is_present (c.spot (termination.Ephemeral k)))) ready.unbound in
    let peer : PeerInForce n m o.remote = peer_in_force n m b ready.built o.remote ready.known (x.legal UnknownTermination) in
    carried_over script own n m b after end c (AddEphemeral true j k o) done x.effect_is
    (peer_legal script (owned_at own b) n m b c ready.shown o.remote ready.declared.2 peer)
    (subst₂ (λ q r. Carries script own (record n { contexts = with_at n.contexts j q; ephemerals = with_at n.ephemerals k r })
    (record m { contexts = with_at m.contexts j q; ephemerals = with_at m.ephemerals k r }) b end next)
    (sym x.result.context) (sym x.result.ephemeral)
    (carried_created script own (with_context n j y) (with_context m j y) m b (given true y b.used_context) (given true y b.used_context) c true j k made y o
    (shown_given n m b j y fresh_context.1 script (owned_at own b) c ready.shown unbound.0 ready.accounted fresh_context.0)
    (accounted_given n m b j y fresh_context.1 ready.accounted) (built_given n m b j y fresh_context.1 ready.built fresh_context.0) ready.declared.1 fresh.1
    ready.earlier (denied (is_present (c.spot (termination.Ephemeral k))) unbound.1) (given_still true y b.used_context) (λ z e. e)
    (with_at_here n.contexts j (Some y)) (entered_fresh own n m b j y ready.built fresh_context.1) (peer_kept n m j y o.remote peer)))
    (λ t. refl)

pub add_ephemeral_carried : (create : Bool) (j k : ℕ) (o : EphemeralOptions) → IsCarriedOver (AddEphemeral create j k o)
add_ephemeral_carried true j k o = add_ephemeral_created j k o
add_ephemeral_carried false j k o = add_ephemeral_named j k o
