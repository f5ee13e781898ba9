-- Add of a line carries over, to a context that has a name and to one that is created.
use Rattle.mg_safety.proofs.Words.{IsTrue, ◌≡◌, ◌<◌, ℕ, Bool, true, false, not, length, Some, refl, sym, subst, eqb-true, and_from, ◌==◌, UnknownContext}
use Rattle.mg_safety.proofs.Words.{UnknownTermination, AlreadyInContext, Live, TermId, Line, AddLine, LineOptions, In, Board, exists, place_of, with_at}
use Rattle.mg_safety.proofs.Words.{Configuration, is_null, is_live, is_free, with_of, stands_in, choose, is_context_number, target, and_first, neither_first}
use Rattle.mg_safety.proofs.Words.{not_refused}
use Rattle.mg_model.specs.declared.commands.Termination.TheVariants as termination
use Rattle.mg_model.specs.Effects as effects
use Rattle.mg_model.specs.Items.{effect}
use Rattle.mg_safety.proofs.InvariantWords.{IsCarriedOver, term_of, Shown, owned_at, context_for, line_settings, item_for}
use Rattle.mg_safety.proofs.Shared.Components.{free_as_before}
use Rattle.mg_safety.proofs.Commands.Binding.{with_at_here, with_context, with_given, given_still, shown_live, shown_given, accounted_given, built_given}
use Rattle.mg_safety.proofs.Commands.Carrying.{Carries, carried_over}
use Rattle.mg_safety.proofs.Commands.EnteredContexts.{entered_fresh, target_existing}
use Rattle.mg_safety.proofs.Commands.InForce.{null_named}
use Rattle.mg_safety.proofs.Commands.OneRow.{HasOneRow}
use Rattle.mg_safety.proofs.Commands.Setting.{cuts_stay}
use Rattle.mg_safety.proofs.Commands.InPlace.{row_with}
use Rattle.mg_safety.proofs.Commands.InContext.{line_named, carried_line_in, with_live}

add_line_named : (j i : ℕ) (o : LineOptions) → IsCarriedOver (AddLine false j i o)
add_line_named j i o script is_script own n m b c after done ready x =
    let u : TermId = Line (record { 0 = m.lines i }) in
    let end : Board = effect b (item_for m (AddLine false j i o)) x.chosen in
    let next : Configuration = effects.effect script c (AddLine false j i o) in
    let p : ℕ = target (record { 0 = context_for m j }) x.chosen in
    let slot : i < length script.lines = ready.declared.1 in
    let named : term_of n (termination.Line i) ≡ Some u = line_named n m b i ready.built in
    let stood : exists b u ≡ true = not_refused (exists b u) (neither_first (not (exists b u)) false (x.legal UnknownTermination)) in
    let existing = target_existing script is_script own n m b c (AddLine false j i o) ready j ready.known x.chosen (x.legal UnknownContext) in
    let one : HasOneRow b end u (row_with b u p (line_settings o)) = record {
      row = λ v. refl;
      used_context = λ y e. given_still (context_for m j == choose) x.chosen.context b.used_context y e;
      used_ephemeral = λ y e. e;
    } in
    carried_over script own n m b after end c (AddLine false j i o) done x.effect_is
    (and_from (is_live (c.context j)) (is_null (c.spot (termination.Line i))) existing.live
    (null_named script (owned_at own b) n b c ready.shown (termination.Line i) u slot named stood
    (eqb-true (place_of b u) 0 (not_refused (place_of b u == 0) (x.legal AlreadyInContext)))))
    (carried_line_in script own n m b b end (with_live c j) next i j p u o (shown_live script (owned_at own b) n b c j p ready.shown existing.bound)
    ready.accounted ready.built slot named stood stood one one (λ y. refl) (λ v w first second. refl) (λ v other mine. mine)
    existing.bound existing.entered
    (λ s. refl) (λ k. free_as_before (with_at c.context j Live k) (stands_in (with_of c.spot (termination.Line i) (In j)) k)) (λ s. refl) (λ k. refl)
    (cuts_stay script (owned_at own b) n b end c ready.shown (λ v w. refl)))
    (λ t. refl)

add_line_created : (j i : ℕ) (o : LineOptions) → IsCarriedOver (AddLine true j i o)
add_line_created j i o script is_script own n m b c after done ready x =
    let u : TermId = Line (record { 0 = m.lines i }) in
    let end : Board = effect b (item_for m (AddLine true j i o)) x.chosen in
    let next : Configuration = effects.effect script c (AddLine true j i o) in
    let y : ℕ = x.chosen.context in
    let fresh : is_context_number y × (b.used_context y ≡ false) × IsTrue (b.class y) = x.fresh.context refl in
    let slot : i < length script.lines = ready.declared.1 in
    let named : term_of n (termination.Line i) ≡ Some u = line_named n m b i ready.built in
    let stood : exists b u ≡ true = not_refused (exists b u) (neither_first (not (exists b u)) false (x.legal UnknownTermination)) in
    let shown : Shown script (owned_at own b) (with_context n j y) (with_given b y) (with_live c j) =
    shown_given n m b j y fresh.1 script (owned_at own b) c ready.shown (and_first (is_free (c.context j)) true ready.unbound) ready.accounted fresh.0 in
    carried_over script own n m b after end c (AddLine true j i o) done x.effect_is
    (null_named script (owned_at own b) n b c ready.shown (termination.Line i) u slot named stood
    (eqb-true (place_of b u) 0 (not_refused (place_of b u == 0) (x.legal AlreadyInContext))))
    (subst (λ q. Carries script own (record n { contexts = with_at n.contexts j q }) (record m { contexts = with_at m.contexts j q }) b end next)
    (sym x.result.context)
    (carried_line_in script own (with_context n j y) (with_context m j y) b (with_given b y) end (with_live c j) next i j y u o shown
    (accounted_given n m b j y fresh.1 ready.accounted) (built_given n m b j y fresh.1 ready.built fresh.0) slot named stood stood
    (record { row = λ v. refl; used_context = λ z e. e; used_ephemeral = λ z e. e })
    (record { row = λ v. refl; used_context = λ z e. given_still true y b.used_context z e; used_ephemeral = λ z e. e })
    (λ z. refl) (λ v w first second. refl) (λ v other mine. mine)
    (with_at_here n.contexts j (Some y)) (entered_fresh own n m b j y ready.built fresh.1)
    (λ s. refl) (λ k. free_as_before (with_at c.context j Live k) (stands_in (with_of c.spot (termination.Line i) (In j)) k)) (λ s. refl) (λ k. refl)
    (cuts_stay script (owned_at own b) (with_context n j y) (with_given b y) end (with_live c j) shown (λ v w. refl))))
    (λ t. refl)

pub add_line_carried : (create : Bool) (j i : ℕ) (o : LineOptions) → IsCarriedOver (AddLine create j i o)
add_line_carried true j i o = add_line_created j i o
add_line_carried false j i o = add_line_named j i o
