-- The offer of the model that an offer is: of what is kept, the value that is lent.
use Rattle.delivery.specs.declared.link.Offer.{Offer}
use Rattle.delivery.specs.declared.link.Offer.TheVariants as offer
use Rattle.mg_model.specs.Delivery as model
use Rattle.mg_model.specs.Delivery.{fresh, kept, discard}

abbrev pub offered : {R : Type 0} → Offer R → model.Offer R
offered offer.Fresh = fresh
offered (offer.Kept r) = kept r.now
offered offer.Discard = discard
