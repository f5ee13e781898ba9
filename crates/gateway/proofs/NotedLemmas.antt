-- What a request created is noted of its call, and the call as the creator: what stays tied, and that nothing shows it.
use Rattle.std.proofs.Common.{◌≡◌, ℕ, true, List, Option, Some, None, is_some, option_map, Result, Ok, ◌⊎◌, inl, inr, refl, rules}
use Rattle.std.specs.declared.alloc.AllocError.{AllocError}
use Rattle.requests.specs.Connected.{board_in}
use Rattle.mg_model.specs.Items.{Done}
use Rattle.gateway.specs.Answers.{IsSame}
use Rattle.gateway.specs.Calls.{OpenCall, call_entry, call_in, open_entry, link_of, creating}
use Rattle.mg_model.specs.Members.{is_among}
use Rattle.gateway.specs.Creators.{creator_at, any_created, IsKeptOrNoted}
use Rattle.gateway.specs.Execution.{HasCreated, AreNew}
use Rattle.gateway.specs.GatewayValue.{GatewayValue, AreTied, gateway_of, is_open}
use Rattle.gateway.proofs.CreatorLemmas.{same_creators, others_kept}
use Rattle.gateway.proofs.TieLemmas.{Entry, by_entry, same_open, same_retired, tied_noted}

-- a gateway of which other calls and creators are noted
abbrev pub noting : GatewayValue → List (ℕ × Option OpenCall) → List (ℕ × ℕ) → GatewayValue
noting w calls creators = record { association = w.association; connected = w.connected; holders = w.holders; calls = calls; creators = creators }

link_created : (created : List ℕ) (e : Entry) → link_of (open_entry (option_map (option_map (creating created)) e)) ≡ link_of (open_entry e)
link_created created None = refl
link_created created (Some None) = refl
link_created created (Some (Some c)) = refl

module _ (w : GatewayValue) (call : ℕ) (results : List Done) (calls : List (ℕ × Option OpenCall)) (tied : AreTied w) (opened : is_open w call ≡ true) where
  open_state : is_some (call_in w.calls call) ≡ true
  unfolding is_open
  open_state = opened

  pub tied_created : (result : Result (Unit {0}) AllocError) → HasCreated (call_entry w.calls) (call_entry calls) call results result → AreTied (noting w calls w.creators)
  tied_created result h = tied_noted w call h.created calls w.creators tied open_state h.entries h.kept (λ k. inl refl)

  pub tied_both : (creators : List (ℕ × ℕ)) → HasCreated (call_entry w.calls) (call_entry calls) call results (Ok tt)
      → ((k : ℕ) → IsKeptOrNoted call results w.creators creators k) → AreTied (noting w calls creators)
  tied_both creators h noted = tied_noted w call h.created calls creators tied open_state h.entries h.kept (λ k. by k (noted k))
    where
      made : (o : Option OpenCall) → call_in w.calls call ≡ o → is_some o ≡ true → (k : ℕ) → any_created results k ≡ true → is_among h.created k ≡ true
      made None is there = absurd (search rules)
      made (Some c) is there = h.noted c is

      by : (k : ℕ) → IsKeptOrNoted call results w.creators creators k
          → (creator_at creators k ≡ creator_at w.creators k) ⊎ ((is_among h.created k ≡ true) × (creator_at creators k ≡ Some call))
      by k (inl same) = inl same
      by k (inr (created, is)) = inr (made (call_in w.calls call) refl open_state k created, is)

  pub same_noted : (result : Result (Unit {0}) AllocError) (creators : List (ℕ × ℕ)) → AreNew (board_in w.connected) results
      → HasCreated (call_entry w.calls) (call_entry calls) call results result
      → ((k : ℕ) → IsKeptOrNoted call results w.creators creators k) → IsSame w (noting w calls creators)
  unfolding gateway_of is_open
  same_noted result creators new h noted =
      let same = same_creators (board_in w.connected) results w.creators creators tied.settled new (others_kept results call w.creators creators noted) in
      let links : (n : ℕ) → link_of (call_in calls n) ≡ link_of (call_in w.calls n) =
      by_entry (call_entry w.calls) (call_entry calls) call (creating h.created) h.entries (λ n e f. link_of (open_entry f) ≡ link_of (open_entry e)) (λ n. refl)
      (link_created h.created (call_entry w.calls call)) in
      let retired = same_retired (call_entry w.calls) (call_entry calls) call (creating h.created) h.entries in (
        λ i. record (gateway_of w) { creator = same i; link = λ n. links n i; retired = λ n. retired n i },
        same_open (call_entry w.calls) (call_entry calls) call (creating h.created) h.entries,
      )
