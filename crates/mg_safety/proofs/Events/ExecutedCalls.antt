-- The calls after a request was executed: the request's own call is answered, and each other call is as it was.
use Rattle.mg_safety.proofs.Invariant.Sound.{Listed}
use Rattle.mg_safety.proofs.Words.{◌≡◌, ◌∙◌, ◌<◌, ◌++◌, ℕ, false, ◌∷◌, length, Option, Some, refl, sym, ap, subst, arith, inl, inr, Failure, Agent}
use Rattle.mg_safety.proofs.Words.{after_results, built_by, Board, IsSettled, Gateway, CallLink, last_executed, reply_of, after_request, sent_notes}
use Rattle.mg_safety.proofs.Words.{LineRow, Request, Running, Script, World, with_gateway, cases_eq, the_some}
use Rattle.mg_safety.proofs.InvariantWords.{naming, owned_at, is_call, owner_of, owned_in, IsCurrent, IsCurrentAt, IsLost, IsSentBy, CallIsSound, IsSound}
use Rattle.mg_safety.proofs.InvariantWords.{IsOwnChange}
use Rattle.mg_safety.proofs.InvariantWords.{OthersStayShown, OwnersAgree}
use Rattle.mg_safety.proofs.Agents.EffectiveAgent.{same_lines}
use Rattle.mg_safety.proofs.Requests.Ending.{seen_at_end}
use Rattle.mg_safety.proofs.Events.Executing.{not_call_of, HasRun, link_own, link_other, executed_own, run_changes}
use Rattle.mg_safety.proofs.Events.StillSound.{current_still, call_still}

-- a lost call stays lost while another call's request runs
abbrev pub OtherLost : Type 0
OtherLost =
    (script : Script) (g : Gateway) (end : Board) (after : Gateway) (call : ℕ) (b : Agent) → IsLost script g b → IsOwnChange g end after call
    → (call ≡ b.call → ⊥) → after.association ≡ g.association → ((i : ℕ) → i < length script.lines → g.holder (b.lines i) ≡ Some b.call)
    → ((l : ℕ) → is_call (g.holder l) call ≡ false → after.line l ≡ g.line l) → after.link b.call ≡ g.link b.call → IsLost script after b

-- the world after a request was executed, with its reply and its notes sent
abbrev pub world_after : World → Request → Running → Board → Option Failure → World
world_after w request end settled failure = record (with_gateway w (after_request w.gateway request end settled failure)) {
  replies = reply_of request end failure ∷ w.replies;
  notes = sent_notes request.call request.association (w.gateway.link request.call).notes end.notes ++ w.notes;
}

module _ (script : Script) (Among : Listed) (w : World) (request : Request) (end : Running) (settled : Board) (failure : Option Failure)
    (sound : IsSound script Among w) (h : HasRun script Among w request end failure) (is_settled : IsSettled end.board settled) where
  abbrev after : World
  after = world_after w request end settled failure

  abbrev later : Gateway
  later = after.gateway

  changes : IsOwnChange w.gateway end.board later request.call
  changes = run_changes script Among w request end settled failure sound.floor sound.gateway h is_settled

  -- ---- the call itself

  pub own_current : OwnersAgree → IsCurrentAt script Among later h.agent h.run.c
  own_current agree =
      let run = h.run in
      record {
        current = record {
          association = sym h.outstanding.association ∙ h.association;
          c = run.c;
          e = after_results h.agent (built_by script h.agent h.agent.state) end.results request.number;
          stands = run.stands;
          state = run.state;
          at = inr (inl (record {
            request = request;
            outstanding = h.outstanding;
            answer = reply_of request end failure;
            kept = ap (λ n. (later.link n).last) h.call ∙ link_own w.gateway request end settled failure;
            number = refl;
            effective = refl;
            link_is = run.link;
          }));
          shown = seen_at_end script (owned_at (owner_of w.gateway h.agent.call) end.board) (owned_in later h.agent.call)
              (naming (after_results h.agent (built_by script h.agent h.agent.state) end.results request.number)) end.board settled run.c run.shown is_settled
              (agree w.gateway end.board later h.agent.call run.accounted (subst (IsOwnChange w.gateway end.board later) (sym h.call) changes));
          lines_shown = run.lines_shown;
        };
        is = refl;
      }

  own_sent : (one : Request) → IsSentBy w.gateway h.agent one → IsSentBy later h.agent one
  own_sent one sent = record {
    association = sent.association;
    number = sent.number;
    outstanding = λ present. elim (sent.outstanding present) [
      | inl phase ↦ inl phase
      | inr done ↦ (let own : last_executed later h.agent.call ≡ request.number =
          ap (last_executed later) h.call ∙ executed_own w.gateway request end settled failure in
          let before : last_executed w.gateway h.agent.call ≡ last_executed w.gateway request.call = ap (last_executed w.gateway) h.call in
          let newer = h.newer in inr (omega (arith, own, before, newer, done)))
    ];
  }

  own_sound : OwnersAgree → CallIsSound script Among after request.call h.agent
  own_sound agree = let old = sound.calls request.call h.agent h.open_call in record {
    numbered = h.call;
    first = old.first;
    next = let own = executed_own w.gateway request end settled failure in let below = h.below in omega (arith, own, below);
    held = old.held;
    once = old.once;
    requests = λ one there of. own_sent one (old.requests one there of);
    outstanding = old.outstanding;
    part = inl (own_current agree).current;
  }

  -- ---- another call

  module _ (other : ℕ) (b : Agent) (there : w.agent other ≡ Some b) (apart : request.call ≡ other → ⊥) where
    numbered : b.call ≡ other
    numbered = (sound.calls other b there).numbered

    unlike : b.call ≡ request.call → ⊥
    unlike e = apart (sym e ∙ numbered)

    line_kept : (l : ℕ) → w.gateway.holder l ≡ Some b.call → end.line l ≡ w.gateway.line l
    line_kept l held = h.run.other_lines l (not_call_of (w.gateway.holder l) b.call h.agent.call held (λ e. unlike (e ∙ h.call)))

    last : (later.link b.call).last ≡ (w.gateway.link b.call).last
    last = ap (λ (x : CallLink). x.last) (link_other w.gateway request end settled failure b.call unlike)

    other_current : OthersStayShown → IsCurrent script Among w.gateway b → IsCurrent script Among later b
    other_current stay k =
        let held : (i : ℕ) → i < length script.lines → w.gateway.holder (k.e.lines i) ≡ Some b.call = λ i within.
        ap (λ (lines : ℕ → ℕ). w.gateway.holder (lines i)) (same_lines script w.gateway b k.e k.c.link k.at)
        ∙ (sound.calls other b there).held i within ∙ ap Some (sym numbered) in
        (current_still script Among w after b refl last k
        (stay script w.gateway end.board later request.call b.call (naming k.e) k.c changes (λ e. unlike (sym e)) k.shown) (record {
          events = λ i within. ap (λ (row : LineRow). row.list) (line_kept (k.e.lines i) (held i within)) ∙ k.lines_shown.events i within;
          silent = λ i within quiet. ap (λ (row : LineRow). row.playing) (line_kept (k.e.lines i) (held i within)) ∙ k.lines_shown.silent i within quiet;
          expected = λ i within. ap (λ (row : LineRow). row.request) (line_kept (k.e.lines i) (held i within)) ∙ k.lines_shown.expected i within;
          unnamed = λ i within none. ap (λ (row : LineRow). row.list) (line_kept (k.e.lines i) (held i within))
              ∙ k.lines_shown.unnamed i within (sym (ap (λ (row : LineRow). row.request) (line_kept (k.e.lines i) (held i within))) ∙ none);
        })).current

    other_lost : OtherLost → IsLost script w.gateway b → IsLost script later b
    other_lost stay lost = stay script w.gateway end.board later request.call b lost changes (λ e. unlike (sym e)) refl
        (λ i within. (sound.calls other b there).held i within ∙ ap Some (sym numbered))
        (λ l apart. h.run.other_lines l (ap (is_call (w.gateway.holder l)) h.call ∙ apart))
        (link_other w.gateway request end settled failure b.call unlike)

    other_sound : OthersStayShown → OtherLost → CallIsSound script Among after other b
    other_sound shown lost = let old = sound.calls other b there in call_still script Among w after b refl last other old old.held (λ one among. among)
        (elim old.part [ inl k ↦ inl (other_current shown k) | inr gone ↦ inr (other_lost lost gone) ])

  pub calls_after : OthersStayShown → OwnersAgree → OtherLost → (call : ℕ) (a : Agent) → w.agent call ≡ Some a
      → CallIsSound script Among (world_after w request end settled failure) call a
  calls_after shown agree lost call a there = elim (cases_eq request.call call) [
    | inl one ↦ (let same : h.agent ≡ a = the_some h.agent a (sym h.open_call ∙ ap w.agent one ∙ there) in
        subst (λ n. CallIsSound script Among after n a) one
        (subst (CallIsSound script Among after request.call) same (own_sound agree)))
    | inr apart ↦ other_sound call a there apart shown lost
  ]
