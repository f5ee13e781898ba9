-- Move of a line and of an ephemeral carries over.
use Rattle.mg_safety.proofs.Words.{◌≡◌, ◌<◌, ℕ, Bool, true, false, not, length, Some, refl, ap, inl, ◌&&◌, is_some, eq-eqb, and_from, ◌==◌, option_map}
use Rattle.mg_safety.proofs.Words.{UnknownContext, UnknownTermination, NotInContext, Live, TermId, Line, Eph, MoveLine, MoveEphemeral, LineOptions, In, Board}
use Rattle.mg_safety.proofs.Words.{exists, place_of, mode_of, remote_of, with_at, Configuration, is_live, with_of, stands_in, is_elsewhere, remote_legal}
use Rattle.mg_safety.proofs.Words.{names_nothing, neither_first, neither_second, not_refused, EphemeralOptions, remote_option_known, and_parts, IsSlot, IsTrue}
use Rattle.mg_safety.proofs.Words.{Termination, ◌||◌, Script, Row}
use Rattle.mg_model.specs.declared.commands.Termination.TheVariants as termination
use Rattle.mg_model.specs.Effects as effects
use Rattle.mg_model.specs.Items.{effect}
use Rattle.mg_safety.proofs.InvariantWords.{IsCarriedOver, term_of, Shown, owned_at, context_for, line_settings, item_for, eph_of, known_by, ephemeral_for}
use Rattle.mg_safety.proofs.InvariantWords.{remote_for, ephemeral_settings, Naming}
use Rattle.mg_safety.proofs.Shared.Components.{free_as_before}
use Rattle.mg_safety.proofs.Commands.Binding.{shown_live}
use Rattle.mg_safety.proofs.Commands.Carrying.{carried, carried_over}
use Rattle.mg_safety.proofs.Commands.EnteredContexts.{named_existing}
use Rattle.mg_safety.proofs.Commands.InForce.{elsewhere_named, ephemeral_in_force}
use Rattle.mg_safety.proofs.Commands.OneRow.{HasOneRow, exists_as_before}
use Rattle.mg_safety.proofs.Commands.Setting.{cuts_leave, set_in_context, cuts_outside, PeerInForce, ephemeral_set}
use Rattle.mg_safety.proofs.Commands.InPlace.{row_with}
use Rattle.mg_safety.proofs.Commands.InContext.{line_named, carried_line_in, with_live}
use Rattle.mg_safety.proofs.Commands.EphemeralNames.{known_ephemeral, peer_in_force, peer_legal}

-- a termination that may be moved stands in another context
elsewhere : (script : Script) (owned : TermId → Bool) (n : Naming) (b : Board) (c : Configuration) → Shown script owned n b c → (t : Termination) (u : TermId)
    → IsSlot script t → term_of n t ≡ Some u → (j p : ℕ) → n.contexts j ≡ Some p → (IsTrue (place_of b u == 0 || place_of b u == p) → ⊥)
    → is_elsewhere (c.spot t) j ≡ true
elsewhere script owned n b c shown t u slot named j p bound legal = elsewhere_named script owned n b c shown t u slot named j p bound
    (λ null. neither_first (place_of b u == 0) (place_of b u == p) legal (eq-eqb (place_of b u) 0 null))
    (λ there. neither_second (place_of b u == 0) (place_of b u == p) legal (eq-eqb (place_of b u) p there))

pub move_line_carried : (j i : ℕ) (o : LineOptions) → IsCarriedOver (MoveLine j i o)
move_line_carried j i o script is_script own n m b c after done ready x =
    let u : TermId = Line (record { 0 = m.lines i }) in
    let p : ℕ = context_for m j in
    let end : Board = effect b (item_for m (MoveLine j i o)) x.chosen in
    let next : Configuration = effects.effect script c (MoveLine j i o) in
    let slot : i < length script.lines = ready.declared.1 in
    let named : term_of n (termination.Line i) ≡ Some u = line_named n m b i ready.built in
    let stood : exists b u ≡ true = not_refused (exists b u) (neither_first (not (exists b u)) false (x.legal UnknownTermination)) in
    let existing = named_existing script is_script own n m b c (MoveLine j i o) ready j ready.known (x.legal UnknownContext) in
    let one : HasOneRow b end u (row_with b u p (line_settings o)) = record { row = λ v. refl; used_context = λ y e. e; used_ephemeral = λ y e. e } in
    carried_over script own n m b after end c (MoveLine j i o) done x.effect_is
    (and_from (is_live (c.context j)) (is_elsewhere (c.spot (termination.Line i)) j) existing.live
    (elsewhere script (owned_at own b) n b c ready.shown (termination.Line i) u slot named j p existing.bound (x.legal NotInContext)))
    (carried_line_in script own n m b b end (with_live c j) next i j p u o (shown_live script (owned_at own b) n b c j p ready.shown existing.bound)
    ready.accounted ready.built slot named stood stood one one (λ y. refl) (cuts_outside b.cut u) (λ v other mine. mine) existing.bound existing.entered
    (λ s. refl) (λ k. free_as_before (with_at c.context j Live k) (stands_in (with_of c.spot (termination.Line i) (In j)) k)) (λ s. refl) (λ k. refl)
    (cuts_leave script (owned_at own b) n b end c ready.shown (termination.Line i) u slot named (λ v w. refl)))
    (λ t. refl)

pub move_ephemeral_carried : (j k : ℕ) (o : EphemeralOptions) → IsCarriedOver (MoveEphemeral j k o)
move_ephemeral_carried j k o script is_script own n m b c after done ready x =
    let number : ℕ = ephemeral_for m k in
    let u : TermId = Eph number in
    let p : ℕ = context_for m j in
    let end : Board = effect b (item_for m (MoveEphemeral j k o)) x.chosen in
    let next : Configuration = effects.effect script c (MoveEphemeral j k o) in
    let slot : k < length script.ephemerals = ready.declared.1 in
    let known = and_parts (is_some (m.contexts j) && is_some (m.ephemerals k)) (remote_option_known (known_by m) o.remote) ready.known in
    let names = and_parts (is_some (m.contexts j)) (is_some (m.ephemerals k)) known.0 in
    let nothing : Bool = names_nothing b (option_map (remote_for m) o.remote) in
    let stood : exists b u ≡ true = not_refused (exists b u) (neither_first (not (exists b u)) nothing (x.legal UnknownTermination)) in
    let bound : n.ephemerals k ≡ Some number = ephemeral_in_force n m b ready.built k number (known_ephemeral m k names.1) stood in
    let named : term_of n (termination.Ephemeral k) ≡ Some u = ap eph_of bound in
    let peer : PeerInForce n m o.remote =
    peer_in_force n m b ready.built o.remote known.1 (neither_second (not (exists b u)) nothing (x.legal UnknownTermination)) in
    let existing = named_existing script is_script own n m b c (MoveEphemeral j k o) ready j names.0 (x.legal UnknownContext) in
    let row : Row = row_with b u p (ephemeral_settings m o) in
    let one : HasOneRow b end u row = record { row = λ v. refl; used_context = λ y e. e; used_ephemeral = λ y e. e } in
    let shown : Shown script (owned_at own b) n b (with_live c j) = shown_live script (owned_at own b) n b c j p ready.shown existing.bound in
    carried_over script own n m b after end c (MoveEphemeral j k o) done x.effect_is
    (and_from (is_live (c.context j) && is_elsewhere (c.spot (termination.Ephemeral k)) j) (remote_legal c o.remote)
    (and_from (is_live (c.context j)) (is_elsewhere (c.spot (termination.Ephemeral k)) j) existing.live
    (elsewhere script (owned_at own b) n b c ready.shown (termination.Ephemeral k) u slot named j p existing.bound (x.legal NotInContext)))
    (peer_legal script (owned_at own b) n m b c ready.shown o.remote ready.declared.2 peer))
    (carried script own n m b b end (with_live c j) next (termination.Ephemeral k) u row shown ready.accounted ready.built slot named stood one
    (set_in_context script n end (with_live c j) next (termination.Ephemeral k) row j existing.bound
    (ephemeral_set script (owned_at own b) n m b end (with_live c j) next k number p o (mode_of b u) (remote_of b u) shown slot bound refl refl peer
    (λ y. exists_as_before b end u row one stood (Eph y)) (λ y. refl) (λ s. refl) (λ i. refl)
    (cuts_leave script (owned_at own b) n b end c ready.shown (termination.Ephemeral k) u slot named (λ v w. refl)))
    (λ s. refl) (λ i. free_as_before (with_at c.context j Live i) (stands_in (with_of c.spot (termination.Ephemeral k) (In j)) i)))
    (λ y. refl) one (inl stood) (cuts_outside b.cut u) (λ v other mine. mine) (λ real. existing.entered))
    (λ t. refl)
