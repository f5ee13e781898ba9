-- A request that reaches the gateway keeps the world sound: it is executed, or its reply is sent once more, or nothing happens.
use Rattle.mg_safety.proofs.Invariant.Sound.{Listed}
use Rattle.mg_safety.proofs.Words.{◌≡◌, ◌∙◌, ◌++◌, ℕ, false, true≢false, List, [], ◌∷◌, refl, sym, ap, subst, arith, inl, inr, Option, Contains-append_cases}
use Rattle.mg_safety.proofs.Words.{Contains, ChosenRefusal, Gateway, reply_of, after_request, sent_notes, IsExecutedBy, Request, Reply, SentNote, Script}
use Rattle.mg_safety.proofs.Words.{World, with_gateway, Executes, IsFirst, IsRepeat, IsScript, only_one, fresh_at, fresh_is_open, kept_at}
use Rattle.mg_safety.proofs.InvariantWords.{IsReplySound, IsKnown, IsOpen, IsSound, IsClosed, RequestsRun, OthersStayShown, OwnersAgree, KeepsSound}
use Rattle.mg_safety.proofs.Events.Executing.{HasRun, is_due, due_runs}
use Rattle.mg_safety.proofs.Events.ExecutedCalls.{OtherLost, world_after, calls_after}
use Rattle.mg_safety.proofs.Events.ExecutedGateway.{gateway_after}
use Rattle.mg_safety.proofs.Events.StillSound.{call_still}

-- ---- it is executed

-- a world with another gateway and with what was sent since
world_with : World → Gateway → Reply → List SentNote → World
world_with w g answer sent = record (with_gateway w g) { replies = answer ∷ w.replies; notes = sent ++ w.notes }

same_world : (w : World) (g h : Gateway) (answer other : Reply) (sent more : List SentNote) → g ≡ h → answer ≡ other → sent ≡ more
    → world_with w g answer sent ≡ world_with w h other more
same_world w g h answer other sent more first second third = cc

-- a call that is known and wasn't retired is open
is_open : (w : World) (call : ℕ) → IsKnown w call → w.gateway.retired call ≡ false → IsOpen w call
is_open w call (inl there) not_retired = there
is_open w call (inr gone) not_retired = absurd (true≢false (sym gone ∙ not_retired))

pub has_run : RequestsRun → (script : Script) (Among : Listed) → IsScript script → IsClosed script Among → (w : World) (request : Request)
    (refusal : Option ChosenRefusal) (g : Gateway) (answer : Reply) (sent : List SentNote) → IsSound script Among w → Contains w.requests request
    → (x : IsExecutedBy w.gateway request refusal g answer sent) → HasRun script Among w request x.end x.failure
has_run run script Among is_script closed w request refusal g answer sent sound there x =
    let open_call = is_open w request.call (sound.gateway.requests request there) (fresh_is_open w.gateway request x.is_fresh) in
    let own = sound.calls request.call open_call.0 open_call.1 in
    let by = own.requests request there refl in
    let offered = fresh_at w.gateway request x.is_fresh in
    let due = is_due script Among w request open_call.0 own by offered.0 offered.1 in
    record {
      agent = open_call.0;
      open_call = open_call.1;
      call = own.numbered;
      association = offered.0;
      newer = offered.1;
      below = by.number;
      outstanding = due.outstanding;
      run = due_runs run script Among is_script closed w.gateway open_call.0 request refusal x.end x.failure due sound.gateway.accounted x.runs;
    }

first_sound : RequestsRun → OthersStayShown → OwnersAgree → OtherLost → (script : Script) (Among : Listed) → IsScript script → IsClosed script Among
    → (w : World) (request : Request) (refusal : Option ChosenRefusal) (after : World) → IsSound script Among w → Contains w.requests request
    → IsFirst w request refusal after → IsSound script Among after
unfolding world_with
first_sound run shown agree lost script Among is_script closed w request refusal after sound there f =
    let x = f.executed in
    let h = has_run run script Among is_script closed w request refusal f.gateway f.answer f.sent sound there x in
    let is : after ≡ world_after w request x.end x.settled x.failure =
    f.after_is ∙ same_world w f.gateway (after_request w.gateway request x.end x.settled x.failure) f.answer (reply_of request x.end x.failure) f.sent
    (sent_notes request.call request.association (w.gateway.link request.call).notes x.end.notes) x.after_is x.reply_is x.notes_are in
    subst (IsSound script Among) (sym is) (record {
      floor = sound.floor;
      gateway = gateway_after script Among w request x.end x.settled x.failure sound h there x.is_settled;
      floors = λ call a here. let old = sound.floors call a here in record { next = old.next; requests = old.requests };
      calls = calls_after script Among w request x.end x.settled x.failure sound h x.is_settled shown agree lost;
    })

-- ---- its reply is sent once more

repeat_sound : (script : Script) (Among : Listed) (w : World) (request : Request) (after : World) → IsSound script Among w
    → Contains w.requests request → IsRepeat w request after → IsSound script Among after
repeat_sound script Among w request after sound among r =
    let g = sound.gateway in
    let last = kept_at w.gateway request r.answer r.kept in
    let of = g.kept request.call r.answer last in
    let again : IsReplySound w.gateway r.answer = record {
      association = let present = of.1 in omega (arith, present);
      kept = λ present. inl (ap (λ n. (w.gateway.link n).last) of.0 ∙ last);
    } in
    subst (IsSound script Among) (sym r.after_is) (record {
      floor = sound.floor;
      floors = λ call a here. let old = sound.floors call a here in record { next = old.next; requests = old.requests };
      gateway = record {
        accounted = g.accounted;
        creator_stands = g.creator_stands;
        apart = g.apart;
        created = g.created;
        unheld = g.unheld;
        held = g.held;
        kept = g.kept;
        request_ids = g.request_ids;
        retired = g.retired;
        requests = g.requests;
        replies = λ answer there. elim (Contains-append_cases (r.answer ∷ []) w.replies answer there) [
          | inl new ↦ (
              let one = only_one r.answer answer new in (
                subst (λ (x : Reply). IsKnown w x.call) one (subst (IsKnown w) (sym of.0) (g.requests request among)),
                λ is_open. subst (IsReplySound w.gateway) one again,
              ))
          | inr before ↦ g.replies answer before
        ];
        notes = g.notes;
      };
      calls = λ call a there. let old = sound.calls call a there in
          call_still script Among w (record w { replies = r.answer ∷ w.replies }) a refl refl call old old.held (λ one before. before) old.part;
    })

pub execute_sound : RequestsRun → OthersStayShown → OwnersAgree → OtherLost → (request : Request) (refusal : Option ChosenRefusal)
    → KeepsSound (λ script w after. Contains w.requests request × Executes w request refusal after)
execute_sound run shown agree lost request refusal script Among is_script closed w after sound occurs = by_case occurs.1
  where
    by_case : Executes w request refusal after → IsSound script Among after
    by_case (inl first) =
        first_sound run shown agree lost script Among is_script closed w request refusal after sound occurs.0 first
    by_case (inr (inl again)) = repeat_sound script Among w request after sound occurs.0 again
    by_case (inr (inr dropped)) = subst (IsSound script Among) (sym dropped.1) sound
