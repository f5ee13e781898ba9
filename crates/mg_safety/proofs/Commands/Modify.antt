-- Modify of a line and of an ephemeral carries over.
use Rattle.mg_safety.proofs.Words.{◌≡◌, ◌<◌, ℕ, Bool, true, false, not, length, Some, refl, ap, ◌&&◌, is_some, eqb-true, and_from, ◌==◌, option_map}
use Rattle.mg_safety.proofs.Words.{UnknownTermination, NotInContext, TermId, Line, Eph, ModifyLine, ModifyEphemeral, LineOptions, Place, Board, exists}
use Rattle.mg_safety.proofs.Words.{place_of, mode_of, remote_of, Configuration, place_exists, stands_at, remote_legal, names_nothing, neither_first}
use Rattle.mg_safety.proofs.Words.{neither_second, not_refused, EphemeralOptions, place_known, remote_option_known, and_parts}
use Rattle.mg_model.specs.declared.commands.Termination.TheVariants as termination
use Rattle.mg_model.specs.Effects as effects
use Rattle.mg_safety.proofs.InvariantWords.{IsCarriedOver, term_of, owned_at, place_for, line_settings, eph_of, known_by, ephemeral_for, remote_for}
use Rattle.mg_safety.proofs.InvariantWords.{ephemeral_settings}
use Rattle.mg_safety.proofs.Commands.Carrying.{carried_over}
use Rattle.mg_safety.proofs.Commands.EnteredContexts.{modified_place}
use Rattle.mg_safety.proofs.Commands.InForce.{ephemeral_in_force}
use Rattle.mg_safety.proofs.Commands.OneRow.{HasOneRow, exists_as_before}
use Rattle.mg_safety.proofs.Commands.Setting.{cuts_stay, line_set, PeerInForce, ephemeral_set}
use Rattle.mg_safety.proofs.Commands.InPlace.{row_with, after_modify, carried_in_place}
use Rattle.mg_safety.proofs.Commands.InContext.{line_named}
use Rattle.mg_safety.proofs.Commands.EphemeralNames.{known_ephemeral, peer_in_force, peer_legal}

pub modify_line_carried : (place : Place) (i : ℕ) (o : LineOptions) → IsCarriedOver (ModifyLine place i o)
modify_line_carried place i o script is_script own n m b c after done ready x =
    let u : TermId = Line (record { 0 = m.lines i }) in
    let p : ℕ = place_for m place in
    let end : Board = after_modify b p u (line_settings o) x.chosen in
    let next : Configuration = effects.effect script c (ModifyLine place i o) in
    let slot : i < length script.lines = ready.declared.1 in
    let named : term_of n (termination.Line i) ≡ Some u = line_named n m b i ready.built in
    let stood : exists b u ≡ true = not_refused (exists b u) (neither_first (not (exists b u)) false (x.legal UnknownTermination)) in
    let at : place_of b u ≡ p = eqb-true (place_of b u) p (not_refused (place_of b u == p) (x.legal NotInContext)) in
    carried_over script own n m b after end c (ModifyLine place i o) done x.effect_is
    (modified_place script is_script own n m b c ready.shown ready.well_formed ready.built (termination.Line i) u slot named stood place ready.known at)
    (carried_in_place script own n m b c next (termination.Line i) u p (line_settings o) x.chosen ready.shown ready.accounted ready.built slot named stood at
    (line_set script (owned_at own b) n b end c next i p u o ready.shown slot named (λ s. refl) (λ k. refl)
    (cuts_stay script (owned_at own b) n b end c ready.shown (λ v w. refl)))
    (λ s. refl) (λ j. refl))
    (λ t. refl)

pub modify_ephemeral_carried : (place : Place) (k : ℕ) (o : EphemeralOptions) → IsCarriedOver (ModifyEphemeral place k o)
modify_ephemeral_carried place k o script is_script own n m b c after done ready x =
    let number : ℕ = ephemeral_for m k in
    let u : TermId = Eph number in
    let p : ℕ = place_for m place in
    let end : Board = after_modify b p u (ephemeral_settings m o) x.chosen in
    let next : Configuration = effects.effect script c (ModifyEphemeral place k o) in
    let slot : k < length script.ephemerals = ready.declared.1 in
    let known = and_parts (place_known (known_by m) place && is_some (m.ephemerals k)) (remote_option_known (known_by m) o.remote) ready.known in
    let names = and_parts (place_known (known_by m) place) (is_some (m.ephemerals k)) known.0 in
    let nothing : Bool = names_nothing b (option_map (remote_for m) o.remote) in
    let stood : exists b u ≡ true = not_refused (exists b u) (neither_first (not (exists b u)) nothing (x.legal UnknownTermination)) in
    let bound : n.ephemerals k ≡ Some number = ephemeral_in_force n m b ready.built k number (known_ephemeral m k names.1) stood in
    let named : term_of n (termination.Ephemeral k) ≡ Some u = ap eph_of bound in
    let peer : PeerInForce n m o.remote =
    peer_in_force n m b ready.built o.remote known.1 (neither_second (not (exists b u)) nothing (x.legal UnknownTermination)) in
    let at : place_of b u ≡ p = eqb-true (place_of b u) p (not_refused (place_of b u == p) (x.legal NotInContext)) in
    let one : HasOneRow b end u (row_with b u p (ephemeral_settings m o)) = record { row = λ v. refl; used_context = λ y e. e; used_ephemeral = λ y e. e } in
    carried_over script own n m b after end c (ModifyEphemeral place k o) done x.effect_is
    (and_from (place_exists c place && stands_at (c.spot (termination.Ephemeral k)) place) (remote_legal c o.remote)
    (modified_place script is_script own n m b c ready.shown ready.well_formed ready.built (termination.Ephemeral k) u slot named stood place names.0 at)
    (peer_legal script (owned_at own b) n m b c ready.shown o.remote ready.declared.2 peer))
    (carried_in_place script own n m b c next (termination.Ephemeral k) u p (ephemeral_settings m o) x.chosen ready.shown ready.accounted ready.built slot
    named stood at
    (ephemeral_set script (owned_at own b) n m b end c next k number p o (mode_of b u) (remote_of b u) ready.shown slot bound refl refl peer
    (λ y. exists_as_before b end u (row_with b u p (ephemeral_settings m o)) one stood (Eph y)) (λ y. refl) (λ s. refl) (λ i. refl)
    (cuts_stay script (owned_at own b) n b end c ready.shown (λ v w. refl)))
    (λ s. refl) (λ j. refl))
    (λ t. refl)
