-- An event of a line, and a restart, in two worlds that treat a call alike.
use Rattle.std.proofs.Common.{◌≡◌, ◌∙◌, ◌+◌, ◌≤◌, ◌++◌, ℕ, List, [], ◌∷◌, length, Option, Some, None, refl, sym, ap, subst, inl, ◌==◌, if◌then◌else◌}
use Rattle.mg_merge.proofs.Words.{Agent, CallLink, Eph, Gateway, Line, LineEvent, LineOccurs, LineRow, Note, Outcome, Reply, Row, SentNote, TermId, World}
use Rattle.mg_merge.proofs.Words.{at_one, cleared, last_number, none_is_some, notes_from, outcome_of, restarted, row_restarted, the_some, with_gateway}
use Rattle.mg_merge.proofs.Words.{with_line, with_notes}
use Rattle.mg_alike.proofs.Words.{CallAlike, KeptAlike, OptionalRowsAlike, OwnAlike, Renaming, TreatAlike}
use Rattle.mg_alike.proofs.Events.Executed.{more_notes}

-- a world in which an event of a line occurred, written out
abbrev pub occurred_gateway : Gateway → ℕ → ℕ → Outcome → Gateway
occurred_gateway g l call outcome = with_notes (with_line g l outcome.row) call (length (notes_from g call l outcome.note))

abbrev pub occurred_world : World → ℕ → ℕ → Outcome → World
occurred_world w l call outcome =
    record (with_gateway w (occurred_gateway w.gateway l call outcome)) { notes = notes_from w.gateway call l outcome.note ++ w.notes }

-- an event of a line that the call holds is one of its own
pub record IsOccurred (w : World) (l call : ℕ) (event : LineEvent) (after : World) : Type 0 where
  pub outcome : Outcome
  pub happens : outcome_of (w.gateway.line l) event ≡ Some outcome
  pub room : (w.gateway.link call).notes + length (notes_from w.gateway call l outcome.note) ≤ last_number
  pub after_is : after ≡ occurred_world w l call outcome

pub occurred : (w : World) (l call : ℕ) (event : LineEvent) (after : World) → w.gateway.holder l ≡ Some call → LineOccurs w l event after → IsOccurred w l call event after
occurred w l call event after held o = record {
  outcome = o.happens.outcome;
  happens = o.happens.happens;
  room = subst (λ (notes : List SentNote). (w.gateway.link call).notes + length notes ≤ last_number) notes
      (subst (λ (n : ℕ). (w.gateway.link n).notes + length o.sent ≤ last_number) one o.happens.room);
  after_is = o.after_is
      ∙ ap (λ (g : Gateway). record (with_gateway w g) { notes = o.sent ++ w.notes }) gateway
      ∙ ap (λ (sent : List SentNote). record (with_gateway w (occurred_gateway w.gateway l call o.happens.outcome)) { notes = sent ++ w.notes }) notes;
}
  where
    one : o.happens.call ≡ call
    one = the_some o.happens.call call (sym o.happens.held ∙ held)

    notes : o.sent ≡ notes_from w.gateway call l o.happens.outcome.note
    notes = o.happens.notes_are ∙ ap (λ (n : ℕ). notes_from w.gateway n l o.happens.outcome.note) one

    gateway : o.gateway ≡ occurred_gateway w.gateway l call o.happens.outcome
    gateway = o.happens.after_is
        ∙ ap (λ (n : ℕ). with_notes (with_line w.gateway l o.happens.outcome.row) n (length o.sent)) one
        ∙ ap (λ (sent : List SentNote). with_notes (with_line w.gateway l o.happens.outcome.row) call (length sent)) notes

module _ (w v : World) (call : ℕ) (r : Renaming) (a b : Agent) (alike : CallAlike r w v call a b) (l : ℕ) (held : w.gateway.holder l ≡ Some call) where
  notes_same : (note : Option Note) → notes_from w.gateway call l note ≡ notes_from v.gateway call l note
  notes_same None = refl
  notes_same (Some note) =
      ap (λ (n : ℕ). record { call = call; association = n; number = (w.gateway.link call).notes + 1; line = l; note = note } ∷ []) (sym alike.association)
      ∙ ap (λ (n : ℕ). record { call = call; association = v.gateway.association; number = n + 1; line = l; note = note } ∷ []) (sym alike.count)

  link_last : (g : Gateway) (outcome : Outcome) → ((occurred_gateway g l call outcome).link call).last ≡ (g.link call).last
  link_last g outcome = ap (λ (link : CallLink). link.last) (at_one call (record { last = (g.link call).last; notes = (g.link call).notes + length (notes_from g call l outcome.note) }) (g.link call))

  link_count : (g : Gateway) (outcome : Outcome) → ((occurred_gateway g l call outcome).link call).notes ≡ (g.link call).notes + length (notes_from g call l outcome.note)
  link_count g outcome = ap (λ (link : CallLink). link.notes) (at_one call (record { last = (g.link call).last; notes = (g.link call).notes + length (notes_from g call l outcome.note) }) (g.link call))

  happened : (outcome : Outcome) → CallAlike r (occurred_world w l call outcome) (occurred_world v l call outcome) call a b
  happened outcome = assumption (
    subst (λ (o : Option Reply). KeptAlike r o ((occurred_gateway v.gateway l call outcome).link call).last) (sym (link_last w.gateway outcome))
        (subst (λ (o : Option Reply). KeptAlike r (w.gateway.link call).last o) (sym (link_last v.gateway outcome)) alike.kept),
    link_count v.gateway outcome
        ∙ ap (λ (n : ℕ). n + length (notes_from v.gateway call l outcome.note)) alike.count
        ∙ ap (λ (notes : List SentNote). (w.gateway.link call).notes + length notes) (sym (notes_same outcome.note))
        ∙ sym (link_count w.gateway outcome),
    λ (other : ℕ) (its : w.gateway.holder other ≡ Some call). ap (λ (row : LineRow). if other == l then outcome.row else row) (alike.lines other its),
    λ (t u : TermId) (own : OwnAlike r (occurred_world w l call outcome) (occurred_world v l call outcome) call t u). alike.rows t u own,
    λ (t u s x : TermId) (first : OwnAlike r (occurred_world w l call outcome) (occurred_world v l call outcome) call t u)
        (second : OwnAlike r (occurred_world w l call outcome) (occurred_world v l call outcome) call s x). alike.cuts t u s x first second,
    more_notes call (notes_from w.gateway call l outcome.note) (notes_from v.gateway call l outcome.note) w.notes v.notes (notes_same outcome.note) alike.notes,
  )

  pub lines_alike : (event : LineEvent) (after next : World) → LineOccurs w l event after → v.gateway.holder l ≡ Some call → LineOccurs v l event next → TreatAlike after next call
  lines_alike event after next o also p =
      let one = occurred w l call event after held o in
      let other = occurred v l call event next also p in
      let same : other.outcome ≡ one.outcome = the_some other.outcome one.outcome
      (sym other.happens ∙ ap (λ (row : LineRow). outcome_of row event) (alike.lines l held) ∙ one.happens) in
      record {
        renaming = r;
        one = a;
        other = b;
        alike = rw (one.after_is, other.after_is ∙ ap (λ (outcome : Outcome). occurred_world v l call outcome) same) (happened one.outcome);
      }

  -- it can happen in the other world too
  pub lines_too : (event : LineEvent) (after : World) → LineOccurs w l event after → (next : World) × ((v.gateway.holder l ≡ Some call) × LineOccurs v l event next)
  lines_too event after o =
      let one = occurred w l call event after held o in (
        occurred_world v l call one.outcome,
        (
          (alike.held l).0 held,
          record {
            gateway = occurred_gateway v.gateway l call one.outcome;
            sent = notes_from v.gateway call l one.outcome.note;
            happens = record {
              call = call;
              outcome = one.outcome;
              held = (alike.held l).0 held;
              happens = ap (λ (row : LineRow). outcome_of row event) (alike.lines l held) ∙ one.happens;
              notes_are = refl;
              room = subst (λ (n : ℕ). n + length (notes_from v.gateway call l one.outcome.note) ≤ last_number) (sym alike.count)
                  (subst (λ (notes : List SentNote). (w.gateway.link call).notes + length notes ≤ last_number) (notes_same one.outcome.note) one.room);
              after_is = refl;
            };
            after_is = refl;
          },
        ),
      )

-- ---- a restart

rows_restart : (r : Renaming) (w v : World) (call : ℕ) (t u : TermId) → OwnAlike r (with_gateway w (restarted w.gateway)) (with_gateway v (restarted v.gateway)) call t u
    → (o p : Option Row) → OptionalRowsAlike r t o p → OptionalRowsAlike r t (row_restarted t o) (row_restarted u p)
rows_restart r w v call (Line l) (Line m) own None None alike = tt
rows_restart r w v call (Line l) (Line m) own (Some one) (Some other) alike = record { place = inl (refl, refl); mode = refl; remote = tt }
rows_restart r w v call (Eph x) (Eph y) own o p alike = absurd (none_is_some call own.1)
rows_restart r w v call (Line l) (Eph y) own o p alike = absurd own
rows_restart r w v call (Eph x) (Line m) own o p alike = absurd own
rows_restart r w v call _ _ own _ _ alike = absurd alike

lines_own : (r : Renaming) (w v : World) (call : ℕ) (t u : TermId) → OwnAlike r (with_gateway w (restarted w.gateway)) (with_gateway v (restarted v.gateway)) call t u
    → OwnAlike r w v call t u
lines_own r w v call (Line l) (Line m) own = own
lines_own r w v call (Eph x) (Eph y) own = absurd (none_is_some call own.1)
lines_own r w v call _ _ own = absurd own

pub restarted_alike : (w v : World) (call : ℕ) (r : Renaming) (a b : Agent) → CallAlike r w v call a b
    → CallAlike r (with_gateway w (restarted w.gateway)) (with_gateway v (restarted v.gateway)) call a b
restarted_alike w v call r a b alike = record {
  renaming = alike.renaming;
  open_one = alike.open_one;
  open_other = alike.open_other;
  agents = alike.agents;
  association = ap (λ (n : ℕ). n + 1) alike.association;
  kept = tt;
  count = alike.count;
  held = alike.held;
  lines = λ l held. ap cleared (alike.lines l held);
  rows = λ t u own. rows_restart r w v call t u own (w.gateway.board.row t) (v.gateway.board.row u) (alike.rows t u (lines_own r w v call t u own));
  created = λ x e. absurd (none_is_some call e);
  created_back = λ y e. absurd (none_is_some call e);
  cuts = λ t u s x first second. refl;
  requests = alike.requests;
  replies = alike.replies;
  notes = alike.notes;
}
