-- The notes of a request: their numbers, and how many they can be. The lines of the board stay while a request runs.
use Rattle.std.proofs.Common.{◌≡◌, ◌∙◌, ℕ, ◌+◌, ◌≤◌, List, [], ◌∷◌, ◌++◌, length, Option, Some, None, inl, inr, refl, sym, ap, arith, length-append}
use Rattle.std.proofs.lemmas.List.{map-append, length-map}
use Rattle.std.proofs.lemmas.List.Sums.{length-filter, count_by-le-length}
use Rattle.mg_model.specs.declared.failures.ChosenRefusal.{ChosenRefusal}
use Rattle.mg_model.specs.declared.failures.Failure.{Failure}
use Rattle.mg_model.specs.Gateway.{sent_notes}
use Rattle.mg_model.specs.LineEvents.{Note}
use Rattle.mg_model.specs.Messages.{RequestCommand, SentNote}
use Rattle.mg_model.specs.RequestRun.{LineDescriptors, RaisedNote, Running, RunsFrom, Succeeds, descriptors_for, raised, standing, note_from, item_at}
use Rattle.mg_model.specs.declared.items.Item.{Item}
use Rattle.requests.specs.declared.outcome.LineNote.{LineNote}
use Rattle.requests.specs.Connected.{has_line}
use Rattle.requests.specs.Views.{line_note, line_notes}
use Rattle.requests.proofs.CommandLemmas.{lines_stay}

-- one more note
pub sent_more : (call association last : ℕ) (notes : List RaisedNote) (n : RaisedNote) → sent_notes call association last (notes ++ n ∷ [])
    ≡ sent_notes call association last notes ++ record { call = call; association = association; number = last + length notes + 1; line = n.line; note = n.note } ∷ []
sent_more call association last [] n = ap (λ (m : ℕ). record { call = call; association = association; number = m + 1; line = n.line; note = n.note } ∷ []) (omega arith)
sent_more call association last (first ∷ more) n =
    ap (λ (sent : List SentNote). record { call = call; association = association; number = last + 1; line = first.line; note = first.note } ∷ sent)
    (sent_more call association (last + 1) more n
    ∙ ap (λ (m : ℕ). sent_notes call association (last + 1) more ++ record { call = call; association = association; number = m + 1; line = n.line; note = n.note } ∷ []) (omega arith))

-- one more of those that were raised
pub sent_step : (call association last number : ℕ) (yielded : List LineNote) (n : LineNote) (sent after : List SentNote) (note : SentNote)
    → number ≡ last + length yielded → sent ≡ sent_notes call association last (line_notes yielded)
    → note ≡ record { call = call; association = association; number = number + 1; line = n.line.0; note = n.note } → after ≡ sent ++ note ∷ []
    → after ≡ sent_notes call association last (line_notes (yielded ++ n ∷ []))
sent_step call association last number yielded n sent after note number_is sent_is note_is after_is =
    let numbers : number ≡ last + length (line_notes yielded) = rw length-map number_is in
    after_is ∙ ap (λ (s : List SentNote). s ++ note ∷ []) sent_is
    ∙ ap (λ (x : SentNote). sent_notes call association last (line_notes yielded) ++ x ∷ []) note_is
    ∙ ap (λ (m : ℕ). sent_notes call association last (line_notes yielded) ++ record { call = call; association = association; number = m + 1; line = n.line.0; note = n.note } ∷ []) numbers
    ∙ sym (sent_more call association last (line_notes yielded) (line_note n))
    ∙ ap (sent_notes call association last) (sym (map-append line_note yielded (n ∷ [])))

-- ---- how many they can be

one_at_most : (l : ℕ) (note : Option Note) → length (note_from l note) ≤ 1
one_at_most l None = omega arith
one_at_most l (Some note) = omega arith

raised_at_most : (r : Running) (d : Option LineDescriptors) (number : ℕ) → length (raised r d number) ≤ 1
raised_at_most r None number = omega arith
raised_at_most r (Some on) number = one_at_most on.line _

notes_after : (number : ℕ) (refusal : Option ChosenRefusal) (r : Running) (place : ℕ) (command : RequestCommand) (next : Running)
    → Succeeds r command place refusal number next → length next.notes ≤ length r.notes + 1
notes_after number refusal r place command next e =
    let item : Item = item_at r.results command in
    let one : length (raised r (descriptors_for command) number) ≤ 1 = raised_at_most r (descriptors_for command) number in
    let some : length (standing r command item) ≤ length r.notes = rw (length-filter) (count_by-le-length _ r.notes) in
    let both : length next.notes ≡ length (standing r command item) + length (raised r (descriptors_for command) number) =
    ap (λ (x : Running). length x.notes) e.next_is ∙ length-append (standing r command item) (raised r (descriptors_for command) number) in
    omega arith

pub notes_at_most : (number : ℕ) (refusal : Option ChosenRefusal) (r : Running) (place : ℕ) (commands : List RequestCommand) (end : Running) (failure : Option Failure)
    → RunsFrom number refusal r place commands end failure → length end.notes ≤ length r.notes + length commands
unfolding RunsFrom
notes_at_most number refusal r place [] end failure h = rw h.0 (omega arith)
notes_at_most number refusal r place (command ∷ more) end failure (inl h) =
    let later : length end.notes ≤ length h.0.notes + length more = notes_at_most number refusal h.0 (place + 1) more end failure h.2 in
    let now : length h.0.notes ≤ length r.notes + 1 = notes_after number refusal r place command h.0 h.1 in
    omega arith
notes_at_most number refusal r place (command ∷ more) end failure (inr h) = rw h.2 (omega arith)

-- ---- lines

pub lines_stay_through : (number : ℕ) (refusal : Option ChosenRefusal) (r : Running) (place : ℕ) (commands : List RequestCommand) (end : Running) (failure : Option Failure)
    → RunsFrom number refusal r place commands end failure → (l : ℕ) → has_line end.board l ≡ has_line r.board l
unfolding RunsFrom
lines_stay_through number refusal r place [] end failure h l = rw h.0 refl
lines_stay_through number refusal r place (command ∷ more) end failure (inl h) l =
    lines_stay_through number refusal h.0 (place + 1) more end failure h.2 l
    ∙ ap (λ (x : Running). has_line x.board l) h.1.next_is
    ∙ lines_stay r.board (item_at r.results command) h.1.board h.1.done h.1.executed l
lines_stay_through number refusal r place (command ∷ more) end failure (inr h) l = rw h.2 refl
