-- A number is new exactly above the last one, so the numbers of the requests that are executed rise.
use Rattle.std.proofs.Common.{◌≡◌, ◌∙◌, ℕ, ◌<◌, ◌≤◌, Bool, true, false, List, [], ◌∷◌, Option, Some, None, refl, sym, ap, arith, true≢false}
use Rattle.std.specs.Prelude.{◌==◌, nat_lt, if◌then◌else◌}
use Rattle.std.proofs.lemmas.Bool.{eqb-true, eq-eqb}
use Rattle.std.proofs.lemmas.Bool.Decides.{nat_tests}
use Rattle.mg_model.proofs.OfferLemmas.{fresh_offer, is_fresh_offer}
use Rattle.mg_model.specs.Delivery.{last_of, Link, Offer, fresh, kept, discard, offer, offer_by, with_kept}
use Rattle.delivery.specs.Laws.{AreExecuted, after_requests, FreshExactlyAbove, FreshAtMostOnce}

module _ {R : Type 0} where
  pub fresh_above : FreshExactlyAbove R
  fresh_above link association number = (fresh_offer link association number, is_fresh_offer link association number)

  rises : (link : Link R) (later : List (ℕ × R)) → AreExecuted link later → last_of link.last ≤ last_of (after_requests link later).last
  rises link [] executed = omega arith
  rises link ((number, r) ∷ rest) executed =
      let above : last_of link.last < number = (fresh_offer link link.association number executed.0).1 in
      let further : number ≤ last_of (after_requests (with_kept link number r) rest).last = rises (with_kept link number r) rest executed.1 in
      omega (arith, above, further)

  pub fresh_once : FreshAtMostOnce R
  fresh_once link number other r later le executed e =
      let after : Link R = after_requests (with_kept link number r) later in
      let above : last_of after.last < other = (fresh_offer after link.association other e).1 in
      let further : number ≤ last_of after.last = rises (with_kept link number r) later executed in
      omega (arith, above, further, le)
