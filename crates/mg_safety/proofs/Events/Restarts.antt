-- A restart keeps the world sound: every call is lost, and nothing of the association before counts any more.
use Rattle.mg_safety.proofs.Invariant.Sound.{Listed}
use Rattle.mg_safety.proofs.Words.{◌≡◌, ◌∙◌, ◌+◌, ℕ, true, length, Option, Some, None, is_some, refl, sym, ap, subst, arith, true≢false, ◌<◌, ◌≤◌}
use Rattle.mg_safety.proofs.Words.{◌⊎◌, inl, inr, Contains, Line, Eph, Row, Agent, exists, place_in, restarted, row_restarted, board_restarted, Request}
use Rattle.mg_safety.proofs.Words.{Reply, SentNote, Script, Restart, World, with_gateway, Occurs, null_row, none_is_some}
use Rattle.mg_model.proofs.Settled.{restarted_gone, restarted_in_null}
use Rattle.mg_safety.proofs.InvariantWords.{IsAccounted, IsCurrent, IsLost, IsSentBy, IsOpen, CallIsSound, IsReplySound, IsNoteSound, GatewayIsSound, IsSound}
use Rattle.mg_safety.proofs.InvariantWords.{KeepsSound}
use Rattle.mg_safety.proofs.Agents.EffectiveAgent.{same_lines}

-- ---- rows

line_cleared : (t : ℕ) (row : Option Row) → is_some row ≡ true → row_restarted (Line (record { 0 = t })) row ≡ Some null_row
line_cleared t None stands = absurd (true≢false (sym stands))
line_cleared t (Some row) stands = refl

null_place : (t : ℕ) (before : Option Row) (row : Row) → row_restarted (Line (record { 0 = t })) before ≡ Some row → row.place.0 ≡ 0
null_place t before row e = ap place_in (sym e) ∙ restarted_in_null (Line (record { 0 = t })) before

-- ---- the gateway

module _ (script : Script) (Among : Listed) (w : World) (sound : IsSound script Among w) where
  accounted : IsAccounted (board_restarted w.gateway.board)
  accounted = record {
    ephemerals = λ x there. absurd (true≢false (sym there ∙ restarted_gone x (w.gateway.board.row (Eph x))));
    contexts = λ t elsewhere. absurd (elsewhere (restarted_in_null t (w.gateway.board.row t)));
  }

  reply_sound : (answer : Reply) → Contains w.replies answer → IsOpen w answer.call → IsReplySound (restarted w.gateway) answer
  reply_sound answer among is_open =
      let older : answer.association ≤ w.gateway.association = ((sound.gateway.replies answer among).1 is_open).association in
      record {
        association = omega (arith, older);
        kept = λ (now : answer.association ≡ w.gateway.association + 1). absurd (omega (arith, older, now));
      }

  note_sound : (sent : SentNote) → Contains w.notes sent → IsOpen w sent.call → IsNoteSound sound.floor (restarted w.gateway) sent
  note_sound sent among is_open =
      let older : sent.association ≤ w.gateway.association = ((sound.gateway.notes sent among).1 is_open).association in
      record {
        association = omega (arith, older);
        standing = λ (now : sent.association ≡ w.gateway.association + 1). absurd (omega (arith, older, now));
      }

  gateway_sound : GatewayIsSound script sound.floor (with_gateway w (restarted w.gateway))
  gateway_sound = record {
    accounted = accounted;
    creator_stands = λ x call e. absurd (none_is_some call e);
    apart = λ x y one other e. absurd (none_is_some one e);
    created = λ x there. absurd (true≢false (sym there ∙ restarted_gone x (w.gateway.board.row (Eph x))));
    unheld = λ l row free stands. null_place l (w.gateway.board.row (Line (record { 0 = l }))) row stands;
    held = sound.gateway.held;
    kept = λ call answer e. absurd (none_is_some answer e);
    request_ids = λ l call q held e. absurd (none_is_some q e);
    retired = sound.gateway.retired;
    requests = sound.gateway.requests;
    replies = λ answer among. ((sound.gateway.replies answer among).0, λ is_open. reply_sound answer among is_open);
    notes = λ sent among. ((sound.gateway.notes sent among).0, λ is_open. note_sound sent among is_open);
  }

  -- ---- the calls

  older_is_lost : (a : Agent) → a.association < w.gateway.association + 1
      → ((i : ℕ) → i < length script.lines → exists w.gateway.board (Line (record { 0 = a.lines i })) ≡ true)
      → IsLost script (restarted w.gateway) a
  older_is_lost a older stand = record {
    association = older;
    rows = λ i within. line_cleared (a.lines i) (w.gateway.board.row (Line (record { 0 = a.lines i }))) (stand i within);
    list = λ i within. refl;
    playing = λ i within. refl;
    request = λ i within. refl;
    no_ephemeral = λ x e. none_is_some a.call e;
    no_reply = refl;
    no_cut = λ i j first second. refl;
  }

  lost : (a : Agent) → IsCurrent script Among w.gateway a ⊎ IsLost script w.gateway a → IsLost script (restarted w.gateway) a
  lost a (inl current) =
      let now : a.association ≡ w.gateway.association = current.association in
      older_is_lost a (omega (arith, now))
      (λ i within. subst (λ lines. exists w.gateway.board (Line (record { 0 = lines i })) ≡ true)
      (same_lines script w.gateway a current.e current.c.link current.at) (current.shown.line_stands i within))
  lost a (inr gone) =
      let before : a.association < w.gateway.association = gone.association in
      older_is_lost a (omega (arith, before)) (λ i within. ap is_some (gone.rows i within))

  is_older : (a : Agent) → IsCurrent script Among w.gateway a ⊎ IsLost script w.gateway a → a.association ≤ w.gateway.association
  is_older a (inl current) = let now : a.association ≡ w.gateway.association = current.association in omega (arith, now)
  is_older a (inr gone) = let before : a.association < w.gateway.association = gone.association in omega (arith, before)

  sent_by : (a : Agent) (request : Request) → a.association ≤ w.gateway.association → IsSentBy w.gateway a request → IsSentBy (restarted w.gateway) a request
  sent_by a request older sent =
      let of_agent : request.association ≤ a.association = sent.association in
      record {
        association = sent.association;
        number = sent.number;
        outstanding = λ (now : request.association ≡ w.gateway.association + 1). absurd (omega (arith, older, of_agent, now));
      }

  call_sound : (call : ℕ) (a : Agent) → w.agent call ≡ Some a → CallIsSound script Among (with_gateway w (restarted w.gateway)) call a
  call_sound call a there =
      let one = sound.calls call a there in
      record {
        numbered = one.numbered;
        first = one.first;
        next = one.first;
        held = one.held;
        once = one.once;
        requests = λ request among of. sent_by a request (is_older a one.part) (one.requests request among of);
        outstanding = one.outstanding;
        part = inr (lost a one.part);
      }

pub restart_sound : KeepsSound (λ script w after. Occurs script w Restart after)
restart_sound script Among is_script closed w after sound occurs =
    subst (IsSound script Among) (sym occurs.1) (record {
      floor = sound.floor;
      gateway = gateway_sound script Among w sound;
      floors = λ call a here. let old = sound.floors call a here in record { next = old.next; requests = old.requests };
      calls = call_sound script Among w sound;
    })
