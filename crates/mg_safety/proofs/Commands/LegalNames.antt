-- What a command that is legal in the configuration names, on the board that shows it: a context that is live exists, a termination stands
-- where the configuration has it, and a Remote names an ephemeral that exists.
use Rattle.mg_safety.proofs.Words.{◌≡◌, ◌∙◌, ◌<◌, ℕ, Bool, true, false, not, Option, Some, None, is_some, refl, sym, ap, arith, true≢false, ◌==◌, ◌||◌}
use Rattle.mg_safety.proofs.Words.{unwrap_or, option_map, TermId, Eph, Termination, Spot, Null, In, Board, exists, place_of, ContextExists}
use Rattle.mg_safety.proofs.Words.{Configuration, IsWellFormed, is_present, is_live, is_elsewhere, stands_at, Place, NullContext, Context, RemoteOption}
use Rattle.mg_safety.proofs.Words.{NoneGiven, Peer, remote_legal, names_nothing, all, null, Script, IsSlot, IsRemote, false_not_true, some_of, is_in_is}
use Rattle.mg_safety.proofs.Words.{different, same_itself}
use Rattle.std.proofs.lemmas.Bool.{or_from}
use Rattle.mg_model.specs.declared.commands.Termination.TheVariants as termination
use Rattle.mg_safety.proofs.InvariantWords.{Naming, Shown, AreBuilt, row_on, term_of, eph_of, number_at, context_for, ephemeral_for, place_for, remote_for}
use Rattle.mg_safety.proofs.InvariantWords.{term_for, IsOfScript}
use Rattle.mg_safety.proofs.Commands.InContext.{line_named}
use Rattle.mg_safety.proofs.Commands.InForce.{place_named, present_named, placed_named}
use Rattle.mg_safety.proofs.Requests.Starting.{stander}

-- ---- spots

null_present : (spot : Spot) → stands_at spot NullContext ≡ true → is_present spot ≡ true
null_present Null at = refl
null_present spot at = absurd (false_not_true at)

-- a termination that stands in another context than the given one
in_another : (spot : Spot) (j : ℕ) → is_elsewhere spot j ≡ true → (i : ℕ) × (spot ≡ In i) × (i ≡ j → ⊥)
in_another (In i) j away = (i, refl, λ same. true≢false (sym away ∙ ap not (ap (λ k. k == j) same ∙ same_itself j)))
in_another spot j away = absurd (false_not_true away)

module _ (script : Script) (owned : TermId → Bool) (n m : Naming) (b : Board) (c : Configuration) (shown : Shown script owned n b c)
    (built : AreBuilt n m b) where
  -- ---- terminations

  -- a termination that the configuration has is named in force by the name that the command is built with
  term_present : (t : Termination) → IsSlot script t → is_present (c.spot t) ≡ true → term_of n t ≡ Some (term_for m t)
  term_present (termination.Line i) slot present = line_named n m b i built
  term_present (termination.Ephemeral k) slot present = by_name (n.ephemerals k) refl
    where
      by_name : (o : Option ℕ) → n.ephemerals k ≡ o → term_of n (termination.Ephemeral k) ≡ Some (Eph (ephemeral_for m k))
      by_name None e = absurd (false_not_true
          (ap (λ r. is_some (row_on b (eph_of r))) (sym e) ∙ shown.stands (termination.Ephemeral k) slot ∙ present))
      by_name (Some x) e = ap eph_of e ∙ sym (ap (λ o. Some (Eph (unwrap_or o 0))) (built.ephemeral k x e))

  term_exists : (t : Termination) → IsSlot script t → is_present (c.spot t) ≡ true → exists b (term_for m t) ≡ true
  term_exists t slot present = sym (present_named script owned n b c shown t (term_for m t) slot (term_present t slot present)) ∙ present

  -- ---- contexts

  -- the context in which a termination stands is named in force by the name that the command is built with
  context_here : (t : Termination) (j : ℕ) → IsSlot script t → c.spot t ≡ In j → n.contexts j ≡ Some (context_for m j)
  context_here t j slot at =
      let x = some_of (n.contexts j) (shown.in_bound t j slot at) in
      x.1 ∙ sym (ap (λ o. Some (unwrap_or o all)) (built.context j x.0 x.1))

  -- it is on the board, and stands where the configuration has it
  pub record StandsThere (t : Termination) (place : Place) : Type 0 where
    pub named : term_of n t ≡ Some (term_for m t)
    pub stood : exists b (term_for m t) ≡ true
    pub at : place_of b (term_for m t) ≡ place_for m place

  stands_in_context : (t : Termination) (j : ℕ) → IsSlot script t → c.spot t ≡ In j → StandsThere t (Context j)
  stands_in_context t j slot spot =
      let present : is_present (c.spot t) ≡ true = ap is_present spot in
      let named = term_present t slot present in
      record {
        named = named;
        stood = term_exists t slot present;
        at = placed_named script owned n b c shown t (term_for m t) slot named j (context_for m j) (context_here t j slot spot) spot;
      }

  pub stands_there : (t : Termination) → IsSlot script t → (place : Place) → stands_at (c.spot t) place ≡ true → StandsThere t place
  stands_there t slot (Context j) at = stands_in_context t j slot (is_in_is (c.spot t) j at)
  stands_there t slot NullContext at =
      let present : is_present (c.spot t) ≡ true = null_present (c.spot t) at in
      let named = term_present t slot present in
      record {
        named = named;
        stood = term_exists t slot present;
        at = place_named script owned n b c shown t (term_for m t) slot named ∙ null_number (c.spot t) at;
      }
    where
      null_number : (spot : Spot) → stands_at spot NullContext ≡ true → number_at n spot ≡ null
      null_number Null here = refl
      null_number spot here = absurd (false_not_true here)

  -- a context in which a termination stands exists
  standing_exists : (t : Termination) (j : ℕ) → IsSlot script t → c.spot t ≡ In j → ContextExists b (context_for m j)
  standing_exists t j slot spot = (not_null, (term_for m t, (stands_in_context t j slot spot).at))
    where
      not_null : context_for m j ≡ null → ⊥
      not_null is =
          let positive : 0 < context_for m j = (shown.context_real j (context_for m j) (context_here t j slot spot)).0.0 in omega (arith, positive, is)

  module _ (formed : IsWellFormed c) (of_script : IsOfScript script c) where
    -- a context that is live exists
    pub live_exists : (j : ℕ) → is_live (c.context j) ≡ true → ContextExists b (context_for m j)
    live_exists j live = let one = stander script c formed of_script j live in standing_exists one.v j one.slot one.at

    -- a termination that stands in another context than a live one stands neither in that one nor in the null context
    pub stands_elsewhere : (t : Termination) (j : ℕ) → IsSlot script t → is_live (c.context j) ≡ true → is_elsewhere (c.spot t) j ≡ true
        → (exists b (term_for m t) ≡ true) × ((place_of b (term_for m t) == null || place_of b (term_for m t) == context_for m j) ≡ false)
    stands_elsewhere t j slot live away =
        let other = in_another (c.spot t) j away in
        let i : ℕ = other.0 in
        let one = stander script c formed of_script j live in
        let here : StandsThere t (Context i) = stands_in_context t i slot other.1 in
        let bound : n.contexts j ≡ Some (context_for m j) = context_here one.v j one.slot one.at in
        let where_it_is : n.contexts i ≡ Some (context_for m i) = context_here t i slot other.1 in
        let place : ℕ = place_of b (term_for m t) in (
          here.stood,
          or_from (place == null) (place == context_for m j)
              (different place null (λ e. (standing_exists t i slot other.1).0 (sym here.at ∙ e)))
              (different place (context_for m j) (λ e. other.2 (shown.context_once i j (context_for m j)
              (where_it_is ∙ ap (λ x. Some x) (sym here.at ∙ e)) bound))),
        )

  -- ---- Remotes

  pub remote_exists : (o : Option RemoteOption) → IsRemote script o → remote_legal c o ≡ true → names_nothing b (option_map (remote_for m) o) ≡ false
  remote_exists None declared legal = refl
  remote_exists (Some NoneGiven) declared legal = refl
  remote_exists (Some (Peer k)) declared legal = ap not (term_exists (termination.Ephemeral k) declared legal)
