-- What a link offers, in terms of numbers: a number is fresh exactly above the last one, in the link's association, and the reply that is
-- kept is that of the same number.
use Rattle.std.proofs.Common.{◌≡◌, ◌∙◌, ℕ, ◌<◌, Bool, true, false, Option, Some, None, refl, sym, ap, arith, true≢false}
use Rattle.std.specs.Prelude.{◌==◌, nat_lt, if◌then◌else◌}
use Rattle.std.proofs.lemmas.Bool.{eqb-true, eq-eqb, lt-ltb, ltb-true}
use Rattle.std.proofs.lemmas.Bool.Decides.{nat_tests}
use Rattle.mg_model.specs.Delivery.{Link, Offer, fresh, kept, discard, offer, offer_by, last_of}

above_zero : (number : ℕ) → (number == 0) ≡ false → 0 < number
above_zero number e = grind (arith, nat_tests)

is_nonzero : (number : ℕ) → 0 < number → (number == 0) ≡ false
is_nonzero number above = grind (arith, nat_tests)

module _ {R : Type 0} where
  abbrev is_fresh : Offer R → Bool
  is_fresh fresh = true
  is_fresh (kept r) = false
  is_fresh discard = false

  through : (same : Bool) (o : Offer R) → is_fresh (if same then o else discard) ≡ true → is_fresh o ≡ true
  through true o e = e
  through false o e = absurd (true≢false (sym e))

  not_zero : (o : Offer R) (zeroth : Bool) → is_fresh (if zeroth then discard else o) ≡ true → zeroth ≡ false
  not_zero o true e = absurd (true≢false (sym e))
  not_zero o false e = refl

  is_above : (r : R) (above same : Bool) → is_fresh (if above then fresh else if same then kept r else discard) ≡ true → above ≡ true
  is_above r true same e = refl
  is_above r false true e = absurd (true≢false (sym e))
  is_above r false false e = absurd (true≢false (sym e))

  above_last : (last : Option (ℕ × R)) (number : ℕ) → is_fresh (offer_by last number) ≡ true → last_of last < number
  above_last None number e = above_zero number (not_zero fresh (number == 0) e)
  above_last (Some (last, r)) number e = ltb-true last number (is_above r (nat_lt last number) (number == last) e)

  offered_above : (link : Link R) (association number : ℕ) → offer link association number ≡ fresh → last_of link.last < number
  offered_above link association number e =
      above_last link.last number (through (association == link.association) (offer_by link.last number) (ap is_fresh e))

  is_ours : (same : Bool) (o : Offer R) → is_fresh (if same then o else discard) ≡ true → same ≡ true
  is_ours true o e = refl
  is_ours false o e = absurd (true≢false (sym e))

  new_above : (last : Option (ℕ × R)) (number : ℕ) → last_of last < number → offer_by last number ≡ fresh
  new_above None number above = ap (λ zeroth. if zeroth then discard else fresh) (is_nonzero number above)
  new_above (Some (last, r)) number above =
      ap (λ b. if b then fresh else if number == last then kept r else discard) (lt-ltb last number above)

  pub fresh_offer : (link : Link R) (association number : ℕ) → offer link association number ≡ fresh
      → (association ≡ link.association) × (last_of link.last < number)
  fresh_offer link association number e =
      (eqb-true association link.association (is_ours (association == link.association) (offer_by link.last number) (ap is_fresh e)), offered_above link association number e)

  pub is_fresh_offer : (link : Link R) (association number : ℕ) → (association ≡ link.association) × (last_of link.last < number)
      → offer link association number ≡ fresh
  is_fresh_offer link association number h =
      ap (λ same. if same then offer_by link.last number else discard) (eq-eqb association link.association h.0)
      ∙ new_above link.last number h.1

  -- the last request, with what is kept of it
  abbrev pub pair : ℕ → R → Option (ℕ × R)
  pair number r = Some (number, r)

  kept_by : (last : Option (ℕ × R)) (number : ℕ) (r : R) → offer_by last number ≡ kept r → last ≡ pair number r
  kept_by None number r h = by_test (number == 0) h
    where
      none : Option (ℕ × R)
      none = None

      by_test : (zeroth : Bool) → (if zeroth then discard else fresh) ≡ kept r → none ≡ pair number r
      by_test true h = cc
      by_test false h = cc
  kept_by (Some (last, q)) number r h = by_test (nat_lt last number) (number == last) refl h
    where
      by_test : (above same : Bool) → (number == last) ≡ same → (if above then fresh else if same then kept q else discard) ≡ kept r
          → pair last q ≡ pair number r
      by_test true same e h = cc
      by_test false true e h = let one : number ≡ last = eqb-true number last e in cc
      by_test false false e h = cc

  pub kept_offer : (link : Link R) (association number : ℕ) (r : R) → offer link association number ≡ kept r
      → (association ≡ link.association) × (link.last ≡ pair number r)
  kept_offer link association number r h = by_test (association == link.association) refl h
    where
      by_test : (ours : Bool) → (association == link.association) ≡ ours → (if ours then offer_by link.last number else discard) ≡ kept r
          → (association ≡ link.association) × (link.last ≡ pair number r)
      by_test true e h = (eqb-true association link.association e, kept_by link.last number r h)
      by_test false e h = cc
