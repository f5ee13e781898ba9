-- An event of a line of a shard happens on the same line of the merge, and raises the same note.
use Rattle.std.proofs.Common.{◌≡◌, ◌∙◌, ◌+◌, ◌++◌, ◌≤◌, ℕ, Bool, true, false, List, [], ◌∷◌, length, Option, Some, None, refl, sym, ap, subst, ◌==◌}
use Rattle.std.proofs.Common.{if◌then◌else◌}
use Rattle.mg_merge.proofs.Words.{CallLink, Contains-append_right, Gateway, LineEvent, LineOccurs, LineRow, Note, Reply, Script, SentNote, World, at_another}
use Rattle.mg_merge.proofs.Words.{last_number, not_both, notes_from, outcome_of, the_some, with_gateway, with_line, with_notes}
use Rattle.mg_merge.proofs.Events.AgentNames.{IsReplyWithin}
use Rattle.mg_merge.proofs.Events.AgentSteps.{Follows, another_number, added_to_both, follows_so}
use Rattle.mg_merge.proofs.Commands.RequestRuns.{same_outside}
use Rattle.mg_merge.proofs.Scopes.{Scope}
use Rattle.mg_merge.proofs.Events.Worlds.{IsContained, IsBeside, IsMerge}

-- the same notes, of a gateway in the same association that sent as many to the call
notes_same : (g h : Gateway) (call l : ℕ) (note : Option Note) → h.association ≡ g.association → h.link call ≡ g.link call
    → notes_from h call l note ≡ notes_from g call l note
notes_same g h call l None first second = refl
notes_same g h call l (Some note) first second =
    ap (λ (n : ℕ). record { call = call; association = n; number = (h.link call).notes + 1; line = l; note = note } ∷ none) first
    ∙ ap (λ (link : CallLink). record { call = call; association = g.association; number = link.notes + 1; line = l; note = note } ∷ none) second
  where
    none : List SentNote
    none = []

abbrev counted : CallLink → ℕ → CallLink
counted link count = record { last = link.last; notes = link.notes + count }

module _ (script : Script) (s : Scope) (w m : World) (contained : IsContained script s w) (along : IsBeside s w m) (merge : IsMerge m)
    (l : ℕ) (own_line : s.lines l ≡ true) (call : ℕ) (own : s.numbers call ≡ true) (row : LineRow) (sent : List SentNote) where
  abbrev changed : World → World
  changed x = record (with_gateway x (with_notes (with_line x.gateway l row) call (length sent))) { notes = sent ++ x.notes }

  changed_link : (c : ℕ) (answer : Reply) → ((changed w).gateway.link c).last ≡ Some answer → IsReplyWithin s answer
  changed_link c answer = go (c == call)
    where
      go : (test : Bool) → (if test then counted (w.gateway.link call) (length sent) else w.gateway.link c).last ≡ Some answer → IsReplyWithin s answer
      go true is = contained.link call answer is
      go false is = contained.link c answer is

  line_changes : Follows script s (changed w) m (λ after. after ≡ changed m)
  line_changes = record {
    merged = changed m;
    happens = refl;
    contained = assumption changed_link;
    along = assumption (
      λ (n : ℕ) (its : s.lines n ≡ true). ap (λ (x : LineRow). if n == l then row else x) (along.line n its),
      λ (c : ℕ) (its : s.numbers c ≡ true). ap (λ (x : CallLink). if c == call then counted x (length sent) else m.gateway.link c) (along.link call own)
          ∙ ap (λ (x : CallLink). if c == call then counted (w.gateway.link call) (length sent) else x) (along.link c its),
      added_to_both sent w.notes m.notes along.notes,
    );
    merge = assumption;
    others = assumption (
      same_outside s m.gateway.board,
      λ (n : ℕ) (other : s.lines n ≡ false). at_another l n row (m.gateway.line n) (λ is. not_both (ap s.lines is ∙ own_line) other),
      λ (c : ℕ) (other : s.numbers c ≡ false).
          at_another call c (counted (m.gateway.link call) (length sent)) (m.gateway.link c) (another_number s call c own other),
      Contains-append_right sent m.notes,
    );
  }

module _ (script : Script) (s : Scope) (w m : World) (contained : IsContained script s w) (along : IsBeside s w m) (merge : IsMerge m)
    (call : ℕ) (own : s.numbers call ≡ true) (l : ℕ) (event : LineEvent) (after : World) where
  pub line_follows : (w.gateway.holder l ≡ Some call) × LineOccurs w l event after
      → Follows script s after m (λ next. (m.gateway.holder l ≡ Some call) × LineOccurs m l event next)
  line_follows (held, x) =
      let h = x.happens in
      let mine_line : s.lines l ≡ true = (contained.holder l call held).0 in
      let same : h.call ≡ call = the_some h.call call (sym h.held ∙ held) in
      let mine_call : s.numbers h.call ≡ true = ap s.numbers same ∙ own in
      follows_so (x.after_is ∙ ap (λ (g : Gateway). record (with_gateway w g) { notes = x.sent ++ w.notes }) h.after_is)
      (λ merged is. (
        along.holder l mine_line ∙ held,
        record {
          gateway = with_notes (with_line m.gateway l h.outcome.row) h.call (length x.sent);
          sent = x.sent;
          happens = record {
            call = h.call;
            outcome = h.outcome;
            held = along.holder l mine_line ∙ h.held;
            happens = ap (λ (r : LineRow). outcome_of r event) (along.line l mine_line) ∙ h.happens;
            notes_are = h.notes_are ∙ sym (notes_same w.gateway m.gateway h.call l h.outcome.note along.association (along.link h.call mine_call));
            room = subst (λ (link : CallLink). link.notes + length x.sent ≤ last_number) (sym (along.link h.call mine_call)) h.room;
            after_is = refl;
          };
          after_is = is;
        },
      ))
      (line_changes script s w m contained along merge l mine_line h.call mine_call h.outcome.row x.sent)
