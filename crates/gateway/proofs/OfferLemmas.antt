-- The link of the model that an open call has is the link of delivery that the gateway keeps for it.
use Rattle.std.proofs.Common.{◌≡◌, ◌∙◌, ℕ, Bool, false, if◌then◌else◌, Option, Some, None, refl, sym, ap}
use Rattle.mg_model.specs.Delivery.{Link, offer, discard}
use Rattle.mg_model.specs.Gateway.{link_in, numbered, offer_to}
use Rattle.mg_model.specs.Messages.{Request, Reply}
use Rattle.gateway.specs.Calls.{OpenCall, call_entry, call_in, open_entry, is_retired_entry, delivery_link, link_of}
use Rattle.gateway.specs.GatewayValue.{GatewayValue, gateway_of}

link_is : (w : GatewayValue) (call : ℕ) (state : OpenCall) → call_in w.calls call ≡ Some state → state.association ≡ w.association
    → link_in (gateway_of w) call ≡ delivery_link state
unfolding gateway_of
link_is w call state found of_association =
    λ i. record { association = sym of_association i; last = numbered (link_of (found i)).last }

not_retired : (e : Option (Option OpenCall)) (state : OpenCall) → open_entry e ≡ Some state → is_retired_entry e ≡ false
not_retired None state h = cc
not_retired (Some None) state h = cc
not_retired (Some (Some c)) state h = refl

-- what the model's link says of a request is what that of the open call says
pub offer_is : (w : GatewayValue) (request : Request) (state : OpenCall) → call_in w.calls request.call ≡ Some state → state.association ≡ w.association
    → offer_to (gateway_of w) request ≡ offer (delivery_link state) request.association request.number
unfolding gateway_of
offer_is w request state found of_association =
    ap (λ (retired : Bool). if retired then discard else offer (link_in (gateway_of w) request.call) request.association request.number)
    (not_retired (call_entry w.calls request.call) state found)
    ∙ ap (λ (link : Link Reply). offer link request.association request.number) (link_is w request.call state found of_association)
