-- What the link of a call offers a request, in terms of the gateway: executed is a request of this association above the last one, and the
-- reply that is sent once more is the one that is kept.
use Rattle.std.proofs.Common.{◌≡◌, ◌∙◌, ℕ, Bool, true, false, ◌<◌, Option, Some, None, option_map, refl, ap}
use Rattle.std.specs.Prelude.{if◌then◌else◌}
use Rattle.mg_model.proofs.OfferLemmas.{fresh_offer, is_fresh_offer, kept_offer, pair}
use Rattle.mg_model.specs.Delivery.{Offer, fresh, kept, discard, offer, last_of}
use Rattle.mg_model.specs.Gateway.{Gateway, link_in, last_executed, numbered, offer_to}
use Rattle.mg_model.specs.Messages.{Request, Reply}

-- the number of the reply that a link keeps
abbrev pub number_of : Option Reply → ℕ
number_of last = last_of (numbered last)

-- what is offered otherwise than discarded is offered by the link
not_discarded : (retired : Bool) (o p : Offer Reply) → (discard ≡ p → ⊥) → (if retired then discard else o) ≡ p → (retired ≡ false) × (o ≡ p)
not_discarded true o p differs e = absurd (differs e)
not_discarded false o p differs e = (refl, e)

discard_differs : (reply : Reply) → discard ≡ kept reply → ⊥
discard_differs reply e = cc

abbrev nothing : Offer Reply
nothing = discard

fresh_differs : nothing ≡ fresh → ⊥
fresh_differs e = cc

-- no request of a retired call is executed
pub fresh_is_open : (g : Gateway) (request : Request) → offer_to g request ≡ fresh → g.retired request.call ≡ false
fresh_is_open g request e = (not_discarded (g.retired request.call) (offer (link_in g request.call) request.association request.number) fresh fresh_differs e).0

pub fresh_at : (g : Gateway) (request : Request) → offer_to g request ≡ fresh
    → (request.association ≡ g.association) × (last_executed g request.call < request.number)
fresh_at g request e =
    let offered = fresh_offer (link_in g request.call) request.association request.number
    (not_discarded (g.retired request.call) (offer (link_in g request.call) request.association request.number) fresh fresh_differs e).1 in
    (offered.0, offered.1)

pub is_fresh_at : (g : Gateway) (request : Request) → g.retired request.call ≡ false → request.association ≡ g.association → last_executed g request.call < request.number
    → offer_to g request ≡ fresh
is_fresh_at g request open_call current newer =
    ap (λ (retired : Bool). if retired then discard else offer (link_in g request.call) request.association request.number) open_call
    ∙ is_fresh_offer (link_in g request.call) request.association request.number
    (current, newer)

kept_reply : (last : Option Reply) (number : ℕ) (reply : Reply) → numbered last ≡ pair number reply → last ≡ Some reply
kept_reply None number reply e = ap (option_map (λ (p : ℕ × Reply). p.1)) e
kept_reply (Some last) number reply e = ap (option_map (λ (p : ℕ × Reply). p.1)) e

pub kept_at : (g : Gateway) (request : Request) (reply : Reply) → offer_to g request ≡ kept reply → (g.link request.call).last ≡ Some reply
kept_at g request reply e =
    kept_reply (g.link request.call).last request.number reply
    (kept_offer (link_in g request.call) request.association request.number reply
    (not_discarded (g.retired request.call) (offer (link_in g request.call) request.association request.number) (kept reply) (discard_differs reply) e).1).1
