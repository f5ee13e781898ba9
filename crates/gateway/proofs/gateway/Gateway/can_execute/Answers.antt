-- The request is to the call and new, so its notes have room or not; or it is another one, and asks for none.
use Rattle.std.proofs.Common.{◌≡◌, ◌∙◌, ℕ, Some, length, nat_eq, true, not, refl, sym, ap, arith}
use Rattle.std.proofs.lemmas.Bool.Decides.{nat_tests}
use Rattle.std.proofs.lemmas.List.{length-map}
use Rattle.mg_model.specs.Delivery.{offer, kept, discard}
use Rattle.mg_model.specs.Messages.{Request}
use Rattle.gateway.specs.Calls.{OpenCall, call_in, delivery_link}
use Rattle.gateway.specs.GatewayValue.{GatewayValue}
use Rattle.gateway.proofs.JudgeLemmas.{discard_not_fresh, full_or_not, kept_not_fresh, never_full, nobody, equal_numbers}
use Rattle.gateway.proofs.gateway.Gateway.can_execute.Goals as goal

other_number : (a b : ℕ) → true ≡ not (nat_eq a b) → a ≡ b → ⊥
other_number a b e same = grind (arith, nat_tests)

pub returns-then-ne : goal.returns-then-ne
returns-then-ne c = λ both. other_number _ _ c.if-ne.ensures (c.call.ensures ∙ both.0.1)

pub returns-in_default : goal.returns-in_default
returns-in_default c = λ both. nobody c.args.self.now c.args.call.0 c.args.request.now
    (sym (ap (λ (w : GatewayValue). call_in w.calls c.args.call.0) c.self.view_is) ∙ sym c.in_default.ensures) both.0

pub returns-in-Discard : goal.returns-in-Discard
returns-in-Discard c =
    let w : GatewayValue = c.args.self.now in
    let call : ℕ = c.args.call.0 in
    let request : Request = c.args.request.now in
    let state : OpenCall = c.in-Some.state.now in
    let found : call_in w.calls call ≡ Some state = sym (ap (λ (x : GatewayValue). call_in x.calls call) c.self.view_is) ∙ sym c.in-Some.ensures in
    let tied : state.association ≡ w.association = c.self.invariant.links call state (sym c.in-Some.ensures) ∙ ap (λ (x : GatewayValue). x.association) c.self.view_is in
    let ours : request.call ≡ call = sym c.call.ensures ∙ equal_numbers _ _ c.if-ne.ensures in
    let asked : offer (delivery_link state) request.association request.number ≡ offer (delivery_link state) c.association.result.0 c.number.result =
    ap (λ (a : ℕ). offer (delivery_link state) a request.number) (sym c.association.ensures) ∙ ap (offer (delivery_link state) c.association.result.0) (sym c.number.ensures) in
    never_full w call request state found tied ours discard (asked ∙ sym c.in-Discard.ensures) (discard_not_fresh discard refl)

pub returns-in-Kept : goal.returns-in-Kept
returns-in-Kept c =
    let w : GatewayValue = c.args.self.now in
    let call : ℕ = c.args.call.0 in
    let request : Request = c.args.request.now in
    let state : OpenCall = c.in-Some.state.now in
    let found : call_in w.calls call ≡ Some state = sym (ap (λ (x : GatewayValue). call_in x.calls call) c.self.view_is) ∙ sym c.in-Some.ensures in
    let tied : state.association ≡ w.association = c.self.invariant.links call state (sym c.in-Some.ensures) ∙ ap (λ (x : GatewayValue). x.association) c.self.view_is in
    let ours : request.call ≡ call = sym c.call.ensures ∙ equal_numbers _ _ c.if-ne.ensures in
    let asked : offer (delivery_link state) request.association request.number ≡ offer (delivery_link state) c.association.result.0 c.number.result =
    ap (λ (a : ℕ). offer (delivery_link state) a request.number) (sym c.association.ensures) ∙ ap (offer (delivery_link state) c.association.result.0) (sym c.number.ensures) in
    never_full w call request state found tied ours (kept c.in-Kept.field-0.now) (asked ∙ sym c.in-Kept.ensures) (kept_not_fresh c.in-Kept.field-0.now)

pub returns-in-Fresh : goal.returns-in-Fresh
returns-in-Fresh c =
    let w : GatewayValue = c.args.self.now in
    let call : ℕ = c.args.call.0 in
    let request : Request = c.args.request.now in
    let state : OpenCall = c.in-Some.state.now in
    let found : call_in w.calls call ≡ Some state = sym (ap (λ (x : GatewayValue). call_in x.calls call) c.self.view_is) ∙ sym c.in-Some.ensures in
    let tied : state.association ≡ w.association = c.self.invariant.links call state (sym c.in-Some.ensures) ∙ ap (λ (x : GatewayValue). x.association) c.self.view_is in
    let ours : request.call ≡ call = sym c.call.ensures ∙ equal_numbers _ _ c.if-ne.ensures in
    let asked : offer (delivery_link state) request.association request.number ≡ offer (delivery_link state) c.association.result.0 c.number.result =
    ap (λ (a : ℕ). offer (delivery_link state) a request.number) (sym c.association.ensures) ∙ ap (offer (delivery_link state) c.association.result.0) (sym c.number.ensures) in
    let same : length c.commands.result.now ≡ length request.commands = sym (ap length (sym c.commands.ensures) ∙ (rw length-map refl)) in
    full_or_not w call request state found tied ours (asked ∙ sym c.in-Fresh.ensures) (length c.commands.result.now) c.room.result same c.room.ensures _ refl
