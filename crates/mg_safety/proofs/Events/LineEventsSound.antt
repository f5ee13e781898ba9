-- An event of a line keeps the world sound: the board, the holders and the kept replies stay, each line's descriptor stays, and the note that
-- is raised is one of the descriptor that stands.
use Rattle.mg_safety.proofs.Invariant.Sound.{Listed}
use Rattle.mg_safety.proofs.Words.{◌≡◌, ◌∙◌, ◌+◌, ◌++◌, ℕ, List, length, Option, Some, None, refl, sym, ap, subst, arith, ◌<◌, ◌≤◌, ◌⊎◌, inl, inr, ◌==◌}
use Rattle.mg_safety.proofs.Words.{Contains, eqb-true, Contains-append_cases, Agent, Configuration, LineEvent, Gateway, last_executed, with_line}
use Rattle.mg_safety.proofs.Words.{with_notes, notes_from, number_of, LineRow, Note, Outcome, silent, Reply, SentNote, Script, World, LineOccurs, with_gateway}
use Rattle.mg_safety.proofs.Words.{by_test, only_one, none_in, CallLink}
use Rattle.mg_safety.proofs.InvariantWords.{LinesShown, list_raises, IsCurrent, IsCurrentAt, IsLost, IsKnown, IsOpen, IsReached, CallIsSound, IsReplySound}
use Rattle.mg_safety.proofs.InvariantWords.{IsNoteStanding}
use Rattle.mg_safety.proofs.InvariantWords.{IsNoteSound, GatewayIsSound, IsSound, KeepsSound}
use Rattle.mg_safety.proofs.Events.RowAfterEvent.{IsRowAfter, row_after}
use Rattle.mg_safety.proofs.Events.StillSound.{current_still, call_still}

-- what an event leaves of a line
record IsKept (row after : LineRow) : Type 0 where
  list : after.list ≡ row.list
  request : after.request ≡ row.request
  silence : row.playing ≡ silent → after.playing ≡ silent

-- the note that an event of a line raised
record IsNew (g : Gateway) (call l : ℕ) (note : Option Note) (sent : SentNote) : Type 0 where
  call_is : sent.call ≡ call
  association_is : sent.association ≡ g.association
  line_is : sent.line ≡ l
  note_is : note ≡ Some sent.note

new_note : (g : Gateway) (call l : ℕ) (note : Option Note) (sent : SentNote) → Contains (notes_from g call l note) sent → IsNew g call l note sent
new_note g call l None sent among = absurd (none_in sent among)
new_note g call l (Some n) sent among = subst (IsNew g call l (Some n))
    (only_one (record { call = call; association = g.association; number = (g.link call).notes + 1; line = l; note = n }) sent among)
    (record { call_is = refl; association_is = refl; line_is = refl; note_is = refl })

-- the world after an event of a line that a call holds, with its note
abbrev world_after : World → (l call count : ℕ) → Outcome → World
world_after w l call count outcome = record (with_gateway w (with_notes (with_line w.gateway l outcome.row) call count)) {
  notes = notes_from w.gateway call l outcome.note ++ w.notes;
}

module _ (script : Script) (Among : Listed) (w : World) (sound : IsSound script Among w) (l call count : ℕ) (outcome : Outcome)
    (held : w.gateway.holder l ≡ Some call) (is_after : IsRowAfter (w.gateway.line l) outcome) where
  abbrev g : Gateway
  g = w.gateway

  abbrev later : Gateway
  later = with_notes (with_line g l outcome.row) call count

  abbrev sent_now : List SentNote
  sent_now = notes_from g call l outcome.note

  abbrev after : World
  after = world_after w l call count outcome

  -- ---- lines and kept replies

  line_kept : (m : ℕ) → IsKept (g.line m) (later.line m)
  line_kept m = by_test (IsKept (g.line m)) outcome.row (g.line m) (m == l)
      (λ e. subst (λ k. IsKept (g.line k) outcome.row) (sym (eqb-true m l e))
      (record { list = is_after.list; request = is_after.request; silence = is_after.silence }))
      (λ e. record { list = refl; request = refl; silence = λ still. still })

  last_kept : (one : ℕ) → (later.link one).last ≡ (g.link one).last
  last_kept one = by_test (λ (link : CallLink). link.last ≡ (g.link one).last)
      (record { last = (g.link call).last; notes = (g.link call).notes + count }) (g.link one) (one == call)
      (λ e. ap (λ k. (g.link k).last) (sym (eqb-true one call e))) (λ e. refl)

  executed_kept : (one : ℕ) → last_executed later one ≡ last_executed g one
  executed_kept one = ap number_of (last_kept one)

  reached_kept : (one q : ℕ) → IsReached sound.floor g one q → IsReached sound.floor later one q
  reached_kept one q (inl before) = inl before
  reached_kept one q (inr executed) = inr (subst (λ n. q ≤ n) (sym (executed_kept one)) executed)

  -- ---- notes and replies

  new_standing : (sent : SentNote) → IsNew g call l outcome.note sent → IsNoteStanding sound.floor later sent
  new_standing sent new =
      let raised = is_after.note sent.note new.note_is in
      let listed : IsReached sound.floor g call sent.note.request = sound.gateway.request_ids l call sent.note.request held raised.0 in
      record {
        held = ap g.holder new.line_is ∙ held ∙ ap (λ (n : ℕ). Some n) (sym new.call_is);
        number = subst (λ n. IsReached sound.floor later n sent.note.request) (sym new.call_is) (reached_kept call sent.note.request listed);
        raised = λ stands. ap (λ list. list_raises list sent.note.kind) ((line_kept sent.line).list ∙ ap (λ m. (g.line m).list) new.line_is) ∙ raised.1;
      }

  old_standing : (sent : SentNote) → IsNoteStanding sound.floor g sent → IsNoteStanding sound.floor later sent
  old_standing sent old = record {
    held = old.held;
    number = reached_kept sent.call sent.note.request old.number;
    raised = λ stands. ap (λ list. list_raises list sent.note.kind) (line_kept sent.line).list
        ∙ old.raised (sym (line_kept sent.line).request ∙ stands);
  }

  holds : IsKnown w call
  holds = let own = sound.gateway.held l call held in inl (own.0, own.2)

  note_sound : (sent : SentNote) → Contains (sent_now ++ w.notes) sent → IsKnown w sent.call × (IsOpen w sent.call → IsNoteSound sound.floor later sent)
  note_sound sent among = elim (Contains-append_cases sent_now w.notes sent among) [
    | inl new ↦ of_new (new_note g call l outcome.note sent new)
    | inr old ↦ (let was = sound.gateway.notes sent old in (
      was.0,
      λ is_open. record { association = (was.1 is_open).association; standing = λ same. old_standing sent ((was.1 is_open).standing same) },
    ))
  ]
    where
      of_new : IsNew g call l outcome.note sent → IsKnown w sent.call × (IsOpen w sent.call → IsNoteSound sound.floor later sent)
      of_new new =
          let same : sent.association ≡ g.association = new.association_is in (
            subst (IsKnown w) (sym new.call_is) holds,
            λ is_open. record { association = omega (arith, same); standing = λ present. new_standing sent new },
          )

  reply_sound : (answer : Reply) → IsReplySound g answer → IsReplySound later answer
  reply_sound answer was = record { association = was.association; kept = λ same. of_call (was.kept same) }
    where
      of_call : ((g.link answer.call).last ≡ Some answer) ⊎ (answer.number < last_executed g answer.call)
          → ((later.link answer.call).last ≡ Some answer) ⊎ (answer.number < last_executed later answer.call)
      of_call (inl kept) = inl (last_kept answer.call ∙ kept)
      of_call (inr older) = inr (subst (λ n. answer.number < n) (sym (executed_kept answer.call)) older)

  gateway_sound : GatewayIsSound script sound.floor after
  gateway_sound = record {
    accounted = sound.gateway.accounted;
    creator_stands = sound.gateway.creator_stands;
    apart = sound.gateway.apart;
    created = sound.gateway.created;
    unheld = sound.gateway.unheld;
    held = sound.gateway.held;
    kept = λ one answer e. sound.gateway.kept one answer (sym (last_kept one) ∙ e);
    request_ids = λ m one q is stands. reached_kept one q (sound.gateway.request_ids m one q is (sym (line_kept m).request ∙ stands));
    retired = sound.gateway.retired;
    requests = sound.gateway.requests;
    replies = λ answer among. let was = sound.gateway.replies answer among in (was.0, λ is_open. reply_sound answer (was.1 is_open));
    notes = note_sound;
  }

  -- ---- calls

  lines_kept : (e : Agent) (c : Configuration) → LinesShown script e g.line c → LinesShown script e later.line c
  lines_kept e c shown = record {
    events = λ i within. (line_kept (e.lines i)).list ∙ shown.events i within;
    silent = λ i within still. (line_kept (e.lines i)).silence (shown.silent i within still);
    expected = λ i within. (line_kept (e.lines i)).request ∙ shown.expected i within;
    unnamed = λ i within none. (line_kept (e.lines i)).list ∙ shown.unnamed i within (sym (line_kept (e.lines i)).request ∙ none);
  }

  pub current_kept : (a : Agent) (k : IsCurrent script Among g a) → IsCurrentAt script Among later a k.c
  current_kept a k = current_still script Among w after a refl (last_kept a.call) k k.shown (lines_kept k.e k.c k.lines_shown)

  part_kept : (a : Agent) → IsCurrent script Among g a ⊎ IsLost script g a → IsCurrent script Among later a ⊎ IsLost script later a
  part_kept a (inl k) = inl (current_kept a k).current
  part_kept a (inr lost) = inr (record {
    association = lost.association;
    rows = lost.rows;
    list = λ i within. (line_kept (a.lines i)).list ∙ lost.list i within;
    playing = λ i within. (line_kept (a.lines i)).silence (lost.playing i within);
    request = λ i within. (line_kept (a.lines i)).request ∙ lost.request i within;
    no_ephemeral = lost.no_ephemeral;
    no_reply = last_kept a.call ∙ lost.no_reply;
    no_cut = lost.no_cut;
  })

  call_sound : (one : ℕ) (a : Agent) → w.agent one ≡ Some a → CallIsSound script Among after one a
  call_sound one a there = let was = sound.calls one a there in
      call_still script Among w after a refl (last_kept a.call) one was was.held (λ request among. among) (part_kept a was.part)

  after_sound : IsSound script Among after
  after_sound = record {
    floor = sound.floor;
    gateway = gateway_sound;
    floors = λ one a there. let old = sound.floors one a there in record { next = old.next; requests = old.requests };
    calls = call_sound;
  }

-- what the world is after it
after_event : (w later_on : World) (l : ℕ) (event : LineEvent) (occurs : LineOccurs w l event later_on)
    → later_on ≡ world_after w l occurs.happens.call (length occurs.sent) occurs.happens.outcome
after_event w later_on l event occurs =
    let h = occurs.happens in
    occurs.after_is ∙ ap (λ (g : Gateway). record (with_gateway w g) { notes = occurs.sent ++ w.notes }) h.after_is
    ∙ ap (λ (sent : List SentNote). record (with_gateway w (with_notes (with_line w.gateway l h.outcome.row) h.call (length occurs.sent))) {
      notes = sent ++ w.notes;
    }) h.notes_are

pub line_sound : (l : ℕ) (event : LineEvent) → KeepsSound (λ script w after. LineOccurs w l event after)
line_sound l event script Among is_script closed w after sound occurs =
    let h = occurs.happens in
    subst (IsSound script Among) (sym (after_event w after l event occurs))
    (after_sound script Among w sound l h.call (length occurs.sent) h.outcome h.held (row_after (w.gateway.line l) event h.outcome h.happens))

-- a call is shown by the same configuration
pub line_current : (l : ℕ) (event : LineEvent) (script : Script) (Among : Listed) (w after : World) → IsSound script Among w → LineOccurs w l event after
    → (a : Agent) (k : IsCurrent script Among w.gateway a) → IsCurrentAt script Among after.gateway a k.c
line_current l event script Among w after sound occurs a k =
    let h = occurs.happens in
    subst (λ (x : World). IsCurrentAt script Among x.gateway a k.c) (sym (after_event w after l event occurs))
    (current_kept script Among w sound l h.call (length occurs.sent) h.outcome h.held (row_after (w.gateway.line l) event h.outcome h.happens) a k)
