-- A call of which neither the agent nor the kept reply changes: what is known of it stays so, where the gateway still shows what it shows.
use Rattle.mg_safety.proofs.Invariant.Sound.{Listed}
use Rattle.mg_safety.proofs.Words.{◌≡◌, Script, Gateway, Agent, last_executed, refl, ap, number_of, ◌∙◌, sym, subst, inl, inr, ◌<◌, ◌≤◌, Request, World}
use Rattle.mg_safety.proofs.Words.{length, Contains, ℕ, Some, ◌⊎◌}
use Rattle.mg_names.specs.declared.phases.LinkPhase as phases
use Rattle.mg_safety.proofs.InvariantWords.{IsAt, IsCurrent, IsCurrentAt, Seen, owned_in, naming, LinesShown, IsSentBy, CallIsSound, IsLost}

module _ (script : Script) (Among : Listed) (w after : World) (a : Agent) (association : after.gateway.association ≡ w.gateway.association)
    (last : (after.gateway.link a.call).last ≡ (w.gateway.link a.call).last) where
  abbrev g : Gateway
  g = w.gateway

  abbrev later : Gateway
  later = after.gateway

  executed_still : last_executed later a.call ≡ last_executed g a.call
  executed_still = ap number_of last

  at_still : (e : Agent) (link : phases.LinkPhase) → IsAt script g a e link → IsAt script later a e link
  at_still e link (inl s) = inl (record {
    request = s.request;
    outstanding = s.outstanding;
    above = subst (λ n. n < s.request.number) (sym executed_still) s.above;
    effective = s.effective;
    link_is = s.link_is;
  })
  at_still e link (inr (inl s)) = inr (inl (record {
    request = s.request;
    outstanding = s.outstanding;
    answer = s.answer;
    kept = last ∙ s.kept;
    number = s.number;
    effective = s.effective;
    link_is = s.link_is;
  }))
  at_still e link (inr (inr rests)) = inr (inr rests)

  pub current_still : (k : IsCurrent script Among g a) → Seen script (owned_in later a.call) (naming k.e) later.board k.c
      → LinesShown script k.e later.line k.c → IsCurrentAt script Among later a k.c
  current_still k shown lines_shown = record {
    current = record {
      association = k.association ∙ sym association;
      c = k.c;
      e = k.e;
      stands = k.stands;
      state = k.state;
      at = at_still k.e k.c.link k.at;
      shown = shown;
      lines_shown = lines_shown;
    };
    is = refl;
  }

  sent_still : (request : Request) → IsSentBy g a request → IsSentBy later a request
  sent_still request sent = record {
    association = sent.association;
    number = sent.number;
    outstanding = λ present. elim (sent.outstanding (present ∙ association)) [
      | inl phase ↦ inl phase
      | inr done ↦ inr (subst (λ n. request.number ≤ n) (sym executed_still) done)
    ];
  }

  -- where its lines are held by it, and no request is new
  pub call_still : (call : ℕ) → CallIsSound script Among w call a → ((i : ℕ) → i < length script.lines → later.holder (a.lines i) ≡ Some call)
      → ((request : Request) → Contains after.requests request → Contains w.requests request)
      → IsCurrent script Among later a ⊎ IsLost script later a → CallIsSound script Among after call a
  call_still call was held requests part = record {
    numbered = was.numbered;
    first = was.first;
    next = subst (λ n. n < a.next) (sym (subst (λ n. last_executed later n ≡ last_executed g n) was.numbered executed_still)) was.next;
    held = held;
    once = was.once;
    requests = λ request among of. sent_still request (was.requests request (requests request among) of);
    outstanding = was.outstanding;
    part = part;
  }
