use Rattle.std.proofs.Common.{◌≡◌, ◌∙◌, ℕ, ◌<◌, ◌+◌, Some, length, refl, inl, inr, sym, ap, arith}
use Rattle.std.proofs.lemmas.List.{length-map}
use Rattle.mg_model.specs.Delivery.{offer}
use Rattle.mg_model.specs.Numbers.{last_number}
use Rattle.mg_model.specs.Messages.{Request, Reply}
use Rattle.mg_model.specs.Gateway.{IsKept}
use Rattle.std.proofs.Common.{subst}
use Rattle.gateway.specs.Calls.{OpenCall, call_in, delivery_link}
use Rattle.gateway.specs.GatewayValue.{GatewayValue, gateway_of}
use Rattle.gateway.proofs.JudgeLemmas.{nobody, addressed, is_discarded, is_kept, has_no_room, equal_numbers}
use Rattle.gateway.proofs.gateway.Gateway.judge.Goals as goal

pub returns-in_default : goal.returns-in_default
returns-in_default c = inl (nobody c.args.self.now c.args.call.0 c.args.request.now
    (sym (ap (λ (w : GatewayValue). call_in w.calls c.args.call.0) c.self.view_is) ∙ sym c.in_default.ensures))

pub returns-in-Discard : goal.returns-in-Discard
returns-in-Discard c =
    let w : GatewayValue = c.args.self.now in
    let call : ℕ = c.args.call.0 in
    let request : Request = c.args.request.now in
    let state : OpenCall = c.in-Some.state.now in
    let found : call_in w.calls call ≡ Some state = sym (ap (λ (x : GatewayValue). call_in x.calls call) c.self.view_is) ∙ sym c.in-Some.ensures in
    let tied : state.association ≡ w.association = c.self.invariant.links call state (sym c.in-Some.ensures) ∙ ap (λ (x : GatewayValue). x.association) c.self.view_is in
    let ours : request.call ≡ call = sym c.call.ensures ∙ equal_numbers _ _ c.if-ne.ensures in
    let asked : offer (delivery_link state) request.association request.number ≡ offer (delivery_link state) c.association.result.0 c.number.result =
    ap (λ (a : ℕ). offer (delivery_link state) a request.number) (sym c.association.ensures) ∙ ap (offer (delivery_link state) c.association.result.0) (sym c.number.ensures) in
    inr (is_discarded w call request state found tied ours (asked ∙ sym c.in-Discard.ensures))

pub returns-in-Ok : goal.returns-in-Ok
returns-in-Ok c =
    let w : GatewayValue = c.args.self.now in
    let call : ℕ = c.args.call.0 in
    let request : Request = c.args.request.now in
    let state : OpenCall = c.in-Some.state.now in
    let found : call_in w.calls call ≡ Some state = sym (ap (λ (x : GatewayValue). call_in x.calls call) c.self.view_is) ∙ sym c.in-Some.ensures in
    let tied : state.association ≡ w.association = c.self.invariant.links call state (sym c.in-Some.ensures) ∙ ap (λ (x : GatewayValue). x.association) c.self.view_is in
    let ours : request.call ≡ call = sym c.call.ensures ∙ equal_numbers _ _ c.if-ne.ensures in
    let asked : offer (delivery_link state) request.association request.number ≡ offer (delivery_link state) c.association.result.0 c.number.result =
    ap (λ (a : ℕ). offer (delivery_link state) a request.number) (sym c.association.ensures) ∙ ap (offer (delivery_link state) c.association.result.0) (sym c.number.ensures) in (
      addressed w call request state found tied ours,
      subst (λ (r : Reply). IsKept (gateway_of w) request r) (sym c.in-Ok.ensures)
          (is_kept w call request state found tied ours c.in-Kept.reply.now (asked ∙ sym c.in-Kept.ensures)),
    )

pub returns-then-commands-room : goal.returns-then-commands-room
returns-then-commands-room c =
    let w : GatewayValue = c.args.self.now in
    let call : ℕ = c.args.call.0 in
    let request : Request = c.args.request.now in
    let state : OpenCall = c.in-Some.state.now in
    let found : call_in w.calls call ≡ Some state = sym (ap (λ (x : GatewayValue). call_in x.calls call) c.self.view_is) ∙ sym c.in-Some.ensures in
    let tied : state.association ≡ w.association = c.self.invariant.links call state (sym c.in-Some.ensures) ∙ ap (λ (x : GatewayValue). x.association) c.self.view_is in
    let ours : request.call ≡ call = sym c.call.ensures ∙ equal_numbers _ _ c.if-ne.ensures in
    let asked : offer (delivery_link state) request.association request.number ≡ offer (delivery_link state) c.association.result.0 c.number.result =
    ap (λ (a : ℕ). offer (delivery_link state) a request.number) (sym c.association.ensures) ∙ ap (offer (delivery_link state) c.association.result.0) (sym c.number.ensures) in
    let same : length request.commands ≡ length c.commands.result.now = ap length (sym c.commands.ensures) ∙ (rw length-map refl) in
    let full : last_number < state.notes + length request.commands = omega (arith, same, c.room.ensures, c.if-commands-room.true) in
    (addressed w call request state found tied ours, has_no_room w call request state found tied ours (asked ∙ sym c.in-Fresh.ensures) full)
