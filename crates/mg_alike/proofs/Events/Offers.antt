-- What two links that are alike say of a request: both execute it, or both send the kept reply once more, or both drop it.
use Rattle.std.proofs.Common.{◌≡◌, ℕ, Bool, true, false, Option, Some, None, sym, subst, ◌==◌, nat_lt, if◌then◌else◌}
use Rattle.mg_merge.proofs.Words.{Gateway, Offer, Reply, Request, discard, fresh, kept, numbered, offer_by, offer_to}
use Rattle.mg_alike.proofs.Words.{KeptAlike, Renaming, RepliesAlike}

abbrev pub OffersAlike : Renaming → Offer Reply → Offer Reply → Type 0
OffersAlike r fresh fresh = Unit {0}
OffersAlike r (kept one) (kept other) = RepliesAlike r one other
OffersAlike r discard discard = Unit {0}
OffersAlike r _ _ = ⊥

abbrev offer_at : Bool → (association current : ℕ) → Option Reply → ℕ → Offer Reply
offer_at retired association current last number =
    if retired then discard else (if association == current then offer_by (numbered last) number else discard)

module _ (r : Renaming) where
  where_offers : (test : Bool) (o p x y : Offer Reply) → OffersAlike r o p → OffersAlike r x y → OffersAlike r (if test then o else x) (if test then p else y)
  where_offers true o p x y first second = first
  where_offers false o p x y first second = second

  by_last : (one other : Option Reply) → KeptAlike r one other → (number : ℕ) → OffersAlike r (offer_by (numbered one) number) (offer_by (numbered other) number)
  by_last None None same number = where_offers (number == 0) discard discard fresh fresh tt tt
  by_last (Some one) (Some other) same number =
      subst (λ (last : ℕ). OffersAlike r (offer_by (numbered (Some one)) number)
      (if nat_lt last number then fresh else if number == last then kept other else discard)) (sym same.number)
      (where_offers (nat_lt one.number number) fresh fresh (if number == one.number then kept one else discard) (if number == one.number then kept other else discard) tt
      (where_offers (number == one.number) (kept one) (kept other) discard discard same tt))
  by_last _ _ same number = absurd same

  at_last : (retired : Bool) (association current : ℕ) (one other : Option Reply) (number : ℕ) → KeptAlike r one other
      → OffersAlike r (offer_at retired association current one number) (offer_at retired association current other number)
  at_last retired association current one other number same =
      where_offers retired discard discard (if association == current then offer_by (numbered one) number else discard)
      (if association == current then offer_by (numbered other) number else discard) tt
      (where_offers (association == current) (offer_by (numbered one) number) (offer_by (numbered other) number) discard discard (by_last one other same number) tt)

  pub offers_alike : (g h : Gateway) (q p : Request) → h.retired p.call ≡ g.retired q.call → p.association ≡ q.association → h.association ≡ g.association
      → KeptAlike r (g.link q.call).last (h.link p.call).last → p.number ≡ q.number → OffersAlike r (offer_to g q) (offer_to h p)
  offers_alike g h q p retired association current same number =
      subst (λ (test : Bool). OffersAlike r (offer_to g q) (offer_at test p.association h.association (h.link p.call).last p.number)) (sym retired)
      (rw (association, current, number) (at_last (g.retired q.call) q.association g.association (g.link q.call).last (h.link p.call).last q.number same))
