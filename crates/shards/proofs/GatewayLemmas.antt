-- What the gateway sends: a reply has the number of its request, and notes are numbered on.
use Rattle.std.proofs.Common.{◌≡◌, ◌∙◌, ◌+◌, ◌≤◌, ◌==◌, ℕ, suc, Bool, true, false, true≢false, List, [], ◌∷◌, length, Option, Some, None, if◌then◌else◌, refl, sym, ap, subst, arith}
use Rattle.std.specs.Option.{option_eq}
use Rattle.std.specs.Prelude.{nat_lt, not, option_map}
use Rattle.std.proofs.lemmas.Bool.{eqb-true}
use Rattle.mg_model.proofs.Cases.{the_some}
use Rattle.mg_names.specs.declared.identifiers.CallNo.{CallNo}
use Rattle.mg_model.specs.declared.failures.ChosenRefusal.{ChosenRefusal}
use Rattle.mg_model.specs.declared.line_events.LineEvent.{LineEvent}
use Rattle.mg_model.specs.Delivery.{Offer, fresh, kept, discard, offer_by}
use Rattle.mg_model.specs.Gateway.{Gateway, Happens, IsExecutedBy, IsKept, notes_from, sent_notes, numbered}
use Rattle.mg_model.specs.LineEvents.{Note}
use Rattle.mg_model.specs.Messages.{Request, Reply, SentNote}
use Rattle.mg_model.specs.RequestRun.{RaisedNote}
use Rattle.gateway.proofs.NoteLemmas.{notes_at_most}
use Rattle.shards.specs.Messages.{AreNumberedFrom, note_numbers}

-- ---- a line

-- the call that a test finds to be the holder
pub held : (holder : Option CallNo) (call : CallNo) → false ≡ not (option_eq (λ x y. x.0 == y.0) holder (Some call)) → option_map (λ c. c.0) holder ≡ Some call.0
held None call e = absurd (true≢false (sym e))
held (Some c) call e = by_test (c.0 == call.0) refl e
  where
    by_test : (test : Bool) → (c.0 == call.0) ≡ test → false ≡ not test → Some c.0 ≡ Some call.0
    by_test true same e = ap Some (eqb-true c.0 call.0 same)
    by_test false same e = absurd (true≢false (sym e))

from_line : (g : Gateway) (call line : ℕ) (raised : Option Note) (note : SentNote) → note ∷ [] ≡ notes_from g call line raised
    → note.number ≡ (g.link call).notes + 1
from_line g call line None note is = absurd (let e : 1 ≡ 0 = ap length is in omega (arith, e))
from_line g call line (Some raised) note is = ap (λ (notes : List SentNote). first notes) is
  where
    first : List SentNote → ℕ
    first [] = 0
    first (n ∷ more) = n.number

pub note_number : (g after : Gateway) (line : ℕ) (event : LineEvent) (note : SentNote) (call : ℕ) → Happens g line event after (note ∷ [])
    → g.holder line ≡ Some call → note.number ≡ (g.link call).notes + 1
note_number g after line event note call h held =
    from_line g h.call line h.outcome.note note h.notes_are ∙ ap (λ c. (g.link c).notes + 1) (the_some h.call call (sym h.held ∙ held))

-- ---- a request

sent_numbered : (call association count : ℕ) (raised : List RaisedNote) → AreNumberedFrom (count + 1) (note_numbers (sent_notes call association count raised))
sent_numbered call association count [] = tt
sent_numbered call association count (note ∷ more) = (refl, sent_numbered call association (count + 1) more)

pub length_sent : (call association count : ℕ) (raised : List RaisedNote) → length (sent_notes call association count raised) ≡ length raised
length_sent call association count [] = refl
length_sent call association count (note ∷ more) = ap suc (length_sent call association (count + 1) more)

module _ (g after : Gateway) (request : Request) (chosen : Option ChosenRefusal) (answer : Reply) (notes : List SentNote)
    (e : IsExecutedBy g request chosen after answer notes) where
  pub reply_number : answer.number ≡ request.number
  reply_number = ap (λ (r : Reply). r.number) e.reply_is

  pub notes_numbered : AreNumberedFrom ((g.link request.call).notes + 1) (note_numbers notes)
  notes_numbered = subst (λ (n : List SentNote). AreNumberedFrom ((g.link request.call).notes + 1) (note_numbers n)) (sym e.notes_are)
      (sent_numbered request.call request.association (g.link request.call).notes e.end.notes)

  pub few_notes : length notes ≤ length request.commands
  few_notes =
      let most : length e.end.notes ≤ 0 + length request.commands = notes_at_most request.number chosen _ 0 request.commands e.end e.failure e.runs in
      subst (λ n. n ≤ length request.commands) (sym (ap length e.notes_are ∙ length_sent request.call request.association (g.link request.call).notes e.end.notes)) (omega (arith, most))

-- a kept reply is that to the number that it is kept under
abbrev the_reply : Offer Reply → ℕ
the_reply (kept answer) = answer.number
the_reply fresh = 0
the_reply discard = 0

abbrev is_kept : Offer Reply → Bool
is_kept (kept answer) = true
is_kept fresh = false
is_kept discard = false

not_kept : (o : Offer Reply) (answer : Reply) → is_kept o ≡ false → o ≡ kept answer → ⊥
not_kept o answer other is = true≢false (sym (ap is_kept is) ∙ other)

by_kept : (last : Option Reply) (number : ℕ) (answer : Reply) → offer_by (numbered last) number ≡ kept answer → answer.number ≡ number
by_kept None number answer is = absurd (not_kept (if number == 0 then discard else fresh) answer (by_zero (number == 0)) is)
  where
    by_zero : (test : Bool) → is_kept (if test then discard else fresh) ≡ false
    by_zero true = refl
    by_zero false = refl
by_kept (Some last) number answer is = by_order (nat_lt last.number number) is
  where
    by_number : (test : Bool) → (number == last.number) ≡ test → (if test then kept last else discard) ≡ kept answer → answer.number ≡ number
    by_number true same here = sym (ap the_reply here) ∙ sym (eqb-true number last.number same)
    by_number false other here = absurd (not_kept discard answer refl here)

    by_order : (later : Bool) → (if later then fresh else if number == last.number then kept last else discard) ≡ kept answer → answer.number ≡ number
    by_order true here = absurd (not_kept fresh answer refl here)
    by_order false here = by_number (number == last.number) refl here

kept_number : (retired same : Bool) (last : Option Reply) (number : ℕ) (answer : Reply)
    → (if retired then discard else if same then offer_by (numbered last) number else discard) ≡ kept answer → answer.number ≡ number
kept_number true same last number answer is = absurd (not_kept discard answer refl is)
kept_number false true last number answer is = by_kept last number answer is
kept_number false false last number answer is = absurd (not_kept discard answer refl is)

pub reply_kept : (g : Gateway) (request : Request) (answer : Reply) → IsKept g request answer → answer.number ≡ request.number
reply_kept g request answer is = kept_number (g.retired request.call) (request.association == g.association) (g.link request.call).last request.number answer is
