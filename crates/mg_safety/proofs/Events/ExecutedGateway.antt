-- The gateway after a request was executed, and the messages that were sent: what was created is the call's, what its lines expect is bounded by
-- the request's number, and its reply is the kept one.
use Rattle.mg_safety.proofs.Invariant.Sound.{Listed}
use Rattle.mg_safety.proofs.Words.{◌≡◌, ◌∙◌, ◌+◌, ◌<◌, ◌≤◌, ℕ, Bool, true, false, List, [], ◌∷◌, Option, Some, None, is_some, refl, sym, ap, subst, arith, inl}
use Rattle.mg_safety.proofs.Words.{inr, Contains-append_cases, if◌then◌else◌, Contains, Failure, TermId, Line, Eph, Row, Agent, after_results, built_by, Board}
use Rattle.mg_safety.proofs.Words.{exists, place_of, place_in, remote_of, remote_in, IsSettled, CallLink, last_executed, reply_of, after_request}
use Rattle.mg_safety.proofs.Words.{creator_after, sent_notes, number_of, LineRow, Request, Reply, SentNote, Running, RaisedNote, note_on, Script, World}
use Rattle.mg_safety.proofs.Words.{only_one, none_is_some, cases_eq, the_some, none_in, Gateway, first_or_later, first_in, later_in}
use Rattle.mg_safety.proofs.InvariantWords.{naming, IsAccounted, list_raises, is_call, IsKnown, IsOpen, IsReached, IsReplySound, IsNoteSound, GatewayIsSound}
use Rattle.mg_safety.proofs.InvariantWords.{IsSound, IsOwnChange, LineGoes}
use Rattle.mg_safety.proofs.Events.Others.{is_call_of}
use Rattle.mg_safety.proofs.Events.StayApart.{stay_apart}
use Rattle.mg_safety.proofs.Events.Executing.{not_call_of, HasRun, link_own, link_other, executed_own, executed_other, executed_more, run_changes}
use Rattle.mg_safety.proofs.Events.Executing.{unused_absent}
use Rattle.mg_safety.proofs.Events.ExecutedCalls.{world_after}

-- ---- notes that a request sends

-- what is sent of a call is one of its notes, of this association
sent_from : (call association count : ℕ) (notes : List RaisedNote) (sent : SentNote) → Contains (sent_notes call association count notes) sent
    → Contains notes (note_on sent.line sent.note) × (sent.call ≡ call) × (sent.association ≡ association)
sent_from call association count [] sent there = absurd (none_in sent there)
sent_from call association count (n ∷ more) sent there =
    let one : SentNote = record { call = call; association = association; number = count + 1; line = n.line; note = n.note } in
    elim (first_or_later one (sent_notes call association (count + 1) more) sent there) [
      | inl same ↦ subst (λ (s : SentNote). Contains (n ∷ more) (note_on s.line s.note) × (s.call ≡ call) × (s.association ≡ association)) same
          (first_in n more, refl, refl)
      | inr later ↦ (let rest = sent_from call association (count + 1) more sent later in
          (later_in n more (note_on sent.line sent.note) rest.0, rest.1, rest.2))
    ]

-- ---- ephemerals

-- whose an ephemeral is afterwards: what doesn't stand is nobody's; what stood before is whose it was; else it is the call's
stands_if : (stands before : Bool) (was : Option ℕ) (call one : ℕ) → (if stands then (if before then was else Some call) else None) ≡ Some one → stands ≡ true
stands_if true before was call one e = refl
stands_if false before was call one e = absurd (none_is_some one e)

creator_old : (stands before : Bool) (was : Option ℕ) (call one : ℕ) → stands ≡ true → before ≡ true → was ≡ Some one
    → (if stands then (if before then was else Some call) else None) ≡ Some one
creator_old stands before was call one there given is = rw (there, given) is

creator_new : (stands before : Bool) (was : Option ℕ) (call : ℕ) → stands ≡ true → before ≡ false
    → (if stands then (if before then was else Some call) else None) ≡ Some call
creator_new stands before was call there fresh = rw (there, fresh) refl

-- ---- what was sent before

-- the descriptor of a line with a RequestID below the request's number is the one that stood before
same_descriptor : (row after : LineRow) (number q : ℕ) → LineGoes number row after → after.request ≡ Some q → q < number
    → (after.list ≡ row.list) × (row.request ≡ Some q)
same_descriptor row after number q (inl armed) is below =
    let same : number ≡ q = the_some number q (sym armed ∙ is) in absurd (omega (arith, same, below))
same_descriptor row after number q (inr (inl emptied)) is below = absurd (none_is_some q (sym emptied ∙ is))
same_descriptor row after number q (inr (inr stays)) is below = (stays.0, sym stays.1 ∙ is)

-- a RequestID of the call's line is no more than the request's number
bounded : (row after : LineRow) (number q : ℕ) → LineGoes number row after → after.request ≡ Some q → (row.request ≡ Some q → q < number) → q ≤ number
bounded row after number q (inl armed) is within =
    let same : number ≡ q = the_some number q (sym armed ∙ is) in omega (arith, same)
bounded row after number q (inr (inl emptied)) is within = absurd (none_is_some q (sym emptied ∙ is))
bounded row after number q (inr (inr stays)) is within = let old : q < number = within (sym stays.1 ∙ is) in omega (arith, old)

module _ (script : Script) (Among : Listed) (w : World) (request : Request) (end : Running) (settled : Board) (failure : Option Failure)
    (sound : IsSound script Among w) (h : HasRun script Among w request end failure) (there : Contains w.requests request)
    (is_settled : IsSettled end.board settled) where
  abbrev later : Gateway
  later = after_request w.gateway request end settled failure

  changes : IsOwnChange w.gateway end.board later request.call
  changes = run_changes script Among w request end settled failure sound.floor sound.gateway h is_settled

  executed_now : (call : ℕ) → call ≡ request.call → last_executed later call ≡ request.number
  executed_now call one = ap (last_executed later) one ∙ executed_own w.gateway request end settled failure

  -- what the lines of the request's call could raise until now is below its number
  reached_below : (q : ℕ) → IsReached sound.floor w.gateway request.call q → q < request.number
  reached_below q (inl before) = let floor = (sound.floors request.call h.agent h.open_call).requests request there refl in omega (arith, before, floor)
  reached_below q (inr executed) = let newer = h.newer in omega (arith, executed, newer)

  other_line : (l call : ℕ) → w.gateway.holder l ≡ Some call → (call ≡ request.call → ⊥) → end.line l ≡ w.gateway.line l
  other_line l call held apart = h.run.other_lines l (not_call_of (w.gateway.holder l) call h.agent.call held (λ e. apart (e ∙ h.call)))

  -- ---- ephemerals and lines

  settled_row : (t : TermId) → settled.row t ≡ end.board.row t
  settled_row t = ap (λ (rows : TermId → Option Row). rows t) is_settled.row

  settled_stands : (t : TermId) → exists settled t ≡ exists end.board t
  settled_stands t = ap is_some (settled_row t)

  creator_stands : (x call : ℕ) → creator_after w.gateway request end x ≡ Some call → exists settled (Eph x) ≡ true
  creator_stands x call is = settled_stands (Eph x)
      ∙ stands_if (exists end.board (Eph x)) (exists w.gateway.board (Eph x)) (w.gateway.creator x) request.call call is

  created : (x : ℕ) → exists settled (Eph x) ≡ true → (call : ℕ) × (a : Agent) × (creator_after w.gateway request end x ≡ Some call) × (w.agent call ≡ Some a)
  created x there = let stands : exists end.board (Eph x) ≡ true = sym (settled_stands (Eph x)) ∙ there in elim (h.run.changes.ephemeral x stands) [
    | inl before ↦ (let was = sound.gateway.created x before in (
      was.0,
      was.1,
      creator_old (exists end.board (Eph x)) (exists w.gateway.board (Eph x)) (w.gateway.creator x) request.call was.0 stands before was.2,
      was.3,
    ))
    | inr fresh ↦ (
      request.call,
      h.agent,
      creator_new (exists end.board (Eph x)) (exists w.gateway.board (Eph x)) (w.gateway.creator x) request.call stands
          (unused_absent (exists w.gateway.board (Eph x)) (w.gateway.board.used_ephemeral x) (sound.gateway.accounted.ephemerals x) fresh),
      h.open_call,
    )
  ]

  settled_accounted : IsAccounted settled
  settled_accounted = record {
    ephemerals = λ x there. is_settled.ephemerals x ∙ (sym (settled_stands (Eph x)) ∙ there);
    contexts = λ t elsewhere.
        let same : place_of settled t ≡ place_of end.board t = ap place_in (settled_row t) in
        (is_settled.contexts (place_of settled t)).1 (elsewhere, (t, sym same));
  }

  apart_after : (x y one other : ℕ) → creator_after w.gateway request end x ≡ Some one → creator_after w.gateway request end y ≡ Some other → (one ≡ other → ⊥)
      → remote_of settled (Eph x) ≡ Some y → remote_of settled (Eph y) ≡ Some x → ⊥
  apart_after x y one other of_one of_other differ there back =
      let names = naming (after_results h.agent (built_by script h.agent h.agent.state) end.results request.number) in
      stay_apart script w.gateway end.board later h.agent.call (subst (IsOwnChange w.gateway end.board later) (sym h.call) changes)
      h.run.accounted names h.run.c h.run.shown
      sound.gateway.apart x y one other (sym (settled_stands (Eph x)) ∙ creator_stands x one of_one)
      (sym (settled_stands (Eph y)) ∙ creator_stands y other of_other)
      of_one of_other differ (ap remote_in (sym (settled_row (Eph x))) ∙ there) (ap remote_in (sym (settled_row (Eph y))) ∙ back)

  unheld : (l : ℕ) (row : Row) → w.gateway.holder l ≡ None → settled.row (Line (record { 0 = l })) ≡ Some row → row.place.0 ≡ 0
  unheld l row free is = sound.gateway.unheld l row free
      (sym (h.run.changes.row (Line (record { 0 = l })) (ap (λ (o : Option ℕ). is_call o h.agent.call) free))
      ∙ (sym (settled_row (Line (record { 0 = l }))) ∙ is))

  request_ids : (l call q : ℕ) → w.gateway.holder l ≡ Some call → (end.line l).request ≡ Some q
      → IsReached sound.floor later call q
  request_ids l call q held is = elim (cases_eq call request.call) [
    | inl one ↦ (let own = executed_now call one in
        let below : q ≤ request.number = bounded (w.gateway.line l) (end.line l) request.number q
        (h.run.own_lines l) is (λ stood. reached_below q (sound.gateway.request_ids l request.call q (held ∙ ap Some one) stood)) in
        inr (omega (arith, own, below)))
    | inr apart ↦ (let same = executed_other w.gateway request end settled failure call apart in
        elim (sound.gateway.request_ids l call q held (ap (λ (row : LineRow). row.request) (sym (other_line l call held apart)) ∙ is)) [
          | inl before ↦ inl before
          | inr executed ↦ (let below : q ≤ last_executed w.gateway call = executed in inr (omega (arith, same, below)))
        ])
  ]

  -- ---- replies

  kept : (call : ℕ) (answer : Reply) → (later.link call).last ≡ Some answer
      → (answer.call ≡ call) × (answer.association ≡ w.gateway.association)
  kept call answer is = elim (cases_eq call request.call) [
    | inl one ↦ (let the_answer : reply_of request end failure ≡ answer = the_some (reply_of request end failure) answer
        (sym (ap (λ n. (later.link n).last) one ∙ link_own w.gateway request end settled failure) ∙ is) in
        (sym (ap (λ (r : Reply). r.call) the_answer) ∙ sym one, sym (ap (λ (r : Reply). r.association) the_answer) ∙ h.association))
    | inr apart ↦ sound.gateway.kept call answer
        (ap (λ (x : CallLink). x.last) (sym (link_other w.gateway request end settled failure call apart)) ∙ is)
  ]

  reply_after : (answer : Reply) → IsReplySound w.gateway answer → IsReplySound later answer
  reply_after answer old = record {
    association = old.association;
    kept = λ present. elim (old.kept present) [
      | inl last ↦ elim (cases_eq answer.call request.call) [
        | inl one ↦ (let own = executed_now answer.call one in
            let number : last_executed w.gateway request.call ≡ answer.number = ap (last_executed w.gateway) (sym one) ∙ ap number_of last in
            let newer = h.newer in inr (omega (arith, own, number, newer)))
        | inr apart ↦ inl (ap (λ (x : CallLink). x.last) (link_other w.gateway request end settled failure answer.call apart) ∙ last)
      ]
      | inr older ↦ (let before : answer.number < last_executed w.gateway answer.call = older in
          let more = executed_more w.gateway request end settled failure h.newer answer.call in inr (omega (arith, before, more)))
    ];
  }

  reply_new : IsReplySound later (reply_of request end failure)
  reply_new = record {
    association = let present = h.association in omega (arith, present);
    kept = λ present. inl (link_own w.gateway request end settled failure);
  }

  -- ---- notes

  note_new : (sent : SentNote) → Contains (sent_notes request.call request.association (w.gateway.link request.call).notes end.notes) sent
      → IsKnown w sent.call × (IsOpen w sent.call → IsNoteSound sound.floor later sent)
  note_new sent among =
      let from = sent_from request.call request.association (w.gateway.link request.call).notes end.notes sent among in
      let raised = h.run.notes sent.line sent.note from.0 in
      let own = executed_now sent.call from.1 in (
        subst (IsKnown w) (sym from.1) (sound.gateway.requests request there),
        λ is_open. record {
          association = let of = from.2 in let present = h.association in omega (arith, of, present);
          standing = λ present. record {
            held = is_call_of (w.gateway.holder sent.line) h.agent.call raised.0 ∙ ap Some (h.call ∙ sym from.1);
            number = let same = raised.1 in inr (omega (arith, same, own));
            raised = λ is. raised.2 (is ∙ ap Some raised.1);
          };
        },
      )

  note_after : (sent : SentNote) → IsNoteSound sound.floor w.gateway sent → IsNoteSound sound.floor later sent
  note_after sent old = record {
    association = old.association;
    standing = λ present. record {
      held = (old.standing present).held;
      number = elim (old.standing present).number [
        | inl before ↦ inl before
        | inr executed ↦ (let below : sent.note.request ≤ last_executed w.gateway sent.call = executed in
            let more = executed_more w.gateway request end settled failure h.newer sent.call in inr (omega (arith, below, more)))
      ];
      raised = λ is. elim (cases_eq sent.call request.call) [
        | inl one ↦ (let below = reached_below sent.note.request
            (subst (λ n. IsReached sound.floor w.gateway n sent.note.request) one (old.standing present).number) in
            let stays = same_descriptor (w.gateway.line sent.line) (end.line sent.line) request.number sent.note.request (h.run.own_lines sent.line) is below in
            ap (λ list. list_raises list sent.note.kind) stays.0 ∙ (old.standing present).raised stays.1)
        | inr apart ↦ (let same = other_line sent.line sent.call (old.standing present).held apart in
            ap (λ (row : LineRow). list_raises row.list sent.note.kind) same
            ∙ (old.standing present).raised (ap (λ (row : LineRow). row.request) (sym same) ∙ is))
      ];
    };
  }

  pub gateway_after : GatewayIsSound script sound.floor (world_after w request end settled failure)
  gateway_after = record {
    accounted = settled_accounted;
    creator_stands = creator_stands;
    apart = apart_after;
    created = created;
    unheld = unheld;
    held = sound.gateway.held;
    kept = kept;
    request_ids = request_ids;
    retired = sound.gateway.retired;
    requests = sound.gateway.requests;
    replies = λ answer among. elim (Contains-append_cases (reply_of request end failure ∷ []) w.replies answer among) [
      | inl new ↦ (let one = only_one (reply_of request end failure) answer new in (
        subst (λ (x : Reply). IsKnown w x.call) one (sound.gateway.requests request there),
        λ is_open. subst (IsReplySound later) one reply_new,
      ))
      | inr before ↦ (let was = sound.gateway.replies answer before in (was.0, λ is_open. reply_after answer (was.1 is_open)))
    ];
    notes = λ sent among. elim (Contains-append_cases
        (sent_notes request.call request.association (w.gateway.link request.call).notes end.notes) w.notes sent among) [
          | inl new ↦ note_new sent new
          | inr before ↦ (let was = sound.gateway.notes sent before in (was.0, λ is_open. note_after sent (was.1 is_open)))
        ];
  }
