-- A call at rest takes the note of what its receiver does, where the list of the line names it.
use Rattle.std.proofs.Common.{◌≡◌, ◌∙◌, ◌+◌, ◌<◌, ◌≤◌, ◌++◌, ◌==◌, ℕ, zero, suc, Bool, true, false, List, [], ◌∷◌, Option, Some, None, option_map, refl, sym}
use Rattle.std.proofs.Common.{ap, subst, arith, inl, inr}
use Rattle.std.specs.Prelude.{◌&&◌, Contains, if◌then◌else◌, nat_lt, not}
use Rattle.std.specs.List.{list_any}
use Rattle.std.proofs.lemmas.Bool.{and_from, eq-eqb, eqb-true, lt-ltb}
use Rattle.mg_model.specs.declared.line_events.Hook.{Hook}
use Rattle.mg_model.specs.declared.line_events.LineEvent.TheVariants as event
use Rattle.mg_model.specs.Agent.{Agent, resting, entered, entered_or_stays, inbox_of, is_resting, line_in}
use Rattle.mg_model.specs.Agent.{may_accept, noted, same_number, target_of}
use Rattle.mg_model.specs.Delivery.{arrival, arrives_new, is_new, is_old, was_seen}
use Rattle.mg_model.specs.Gateway.{notes_from}
use Rattle.mg_model.specs.LineEvents.{LineRow, Note, Outcome, detected, is_hook, kind_of, same_hook, stays}
use Rattle.mg_model.specs.Messages.{SentNote}
use Rattle.mg_model.specs.Numbers.{last_number}
use Rattle.mg_model.specs.Script.{Script}
use Rattle.mg_model.specs.Tables.{below, line_places, state_of, target_in}
use Rattle.mg_model.specs.World.{World, LineOccurs, Runs, agent_steps, note, on_a_line}
use Rattle.mg_model.proofs.Cases.{false_not_true, where_true}
use Rattle.mg_model.proofs.Single.{first_in, first_or_later, later_in, none_in}
use Rattle.mg_safety.proofs.Agents.NoteSound.{accepting}
use Rattle.mg_safety.proofs.GoingOn.Entered.{Enters, enters_state}
use Rattle.mg_safety.proofs.GoingOn.Turned.{hooked_by, now, turned, turns}

-- ---- the line of a call

pub line_found : (a : Agent) (i : ℕ) (slots : List ℕ) → Contains slots i → ((j : ℕ) → Contains slots j → a.lines j ≡ a.lines i → j ≡ i)
    → line_in a (a.lines i) slots ≡ Some i
line_found a i [] there once = absurd (none_in i there)
line_found a i (j ∷ more) there once = by_first (a.lines j == a.lines i) refl (line_found a i more)
  where
    by_first : (test : Bool) → (a.lines j == a.lines i) ≡ test
        → (Contains more i → ((k : ℕ) → Contains more k → a.lines k ≡ a.lines i → k ≡ i) → line_in a (a.lines i) more ≡ Some i)
        → (if test then Some j else line_in a (a.lines i) more) ≡ Some i
    by_first true same later = ap Some (once j (first_in j more) (eqb-true (a.lines j) (a.lines i) same))
    by_first false other later = elim (first_or_later j more i there) [
      | inl here ↦ absurd (false_not_true (sym other ∙ eq-eqb (a.lines j) (a.lines i) (ap a.lines here)))
      | inr rest ↦ later rest (λ k among same. once k (later_in j more k among) same)
    ]

-- the places of the script's lines, which are four at most
kept_below : (n x : ℕ) (xs : List ℕ) (i : ℕ) → x < n → Contains (x ∷ below n xs) i → Contains (below n (x ∷ xs)) i
kept_below n x xs i within there =
    subst (λ (list : List ℕ). Contains list i) (sym (where_true (nat_lt x n) (x ∷ below n xs) [] (lt-ltb x n within))) there

pub is_place : (n i : ℕ) → n ≤ 4 → i < n → Contains (below n (0 ∷ 1 ∷ 2 ∷ 3 ∷ [])) i
is_place n zero few within = kept_below n 0 (1 ∷ 2 ∷ 3 ∷ []) 0 within (first_in 0 (below n (1 ∷ 2 ∷ 3 ∷ [])))
is_place n (suc zero) few within =
    kept_below n 0 (1 ∷ 2 ∷ 3 ∷ []) 1 (omega (arith, within)) (later_in 0 (below n (1 ∷ 2 ∷ 3 ∷ [])) 1
    (kept_below n 1 (2 ∷ 3 ∷ []) 1 within (first_in 1 (below n (2 ∷ 3 ∷ [])))))
is_place n (suc (suc zero)) few within =
    kept_below n 0 (1 ∷ 2 ∷ 3 ∷ []) 2 (omega (arith, within)) (later_in 0 (below n (1 ∷ 2 ∷ 3 ∷ [])) 2
    (kept_below n 1 (2 ∷ 3 ∷ []) 2 (omega (arith, within)) (later_in 1 (below n (2 ∷ 3 ∷ [])) 2
    (kept_below n 2 (3 ∷ []) 2 within (first_in 2 (below n (3 ∷ [])))))))
is_place n (suc (suc (suc zero))) few within =
    kept_below n 0 (1 ∷ 2 ∷ 3 ∷ []) 3 (omega (arith, within)) (later_in 0 (below n (1 ∷ 2 ∷ 3 ∷ [])) 3
    (kept_below n 1 (2 ∷ 3 ∷ []) 3 (omega (arith, within)) (later_in 1 (below n (2 ∷ 3 ∷ [])) 3
    (kept_below n 2 (3 ∷ []) 3 (omega (arith, within)) (later_in 2 (below n (3 ∷ [])) 3
    (kept_below n 3 [] 3 within (first_in 3 (below n []))))))))
is_place n (suc (suc (suc (suc i)))) few within = absurd (omega (arith, few, within))

-- ---- the note of what the list names

-- a call at rest that takes the next note of its line
pub record CanTake (script : Script) (w : World) (call i target : ℕ) (a : Agent) : Type 0 where
  pub there : w.agent call ≡ Some a
  pub call_is : a.call ≡ call
  pub held : w.gateway.holder (a.lines i) ≡ Some call
  pub rests : a.phase ≡ resting
  pub goes_on : (state_of script a.state).is_end ≡ false
  pub current : a.association ≡ w.gateway.association
  pub unseen : (n : ℕ) → (w.gateway.link call).notes < n → a.accepted n ≡ false
  pub place : line_in a (a.lines i) (line_places script) ≡ Some i
  pub room : a.next ≤ last_number

is_arrival : (number : ℕ) (seen : ℕ → Bool) (association own : ℕ) → association ≡ own → seen number ≡ false
    → is_new (arrival (record { association = own; accepted = seen }) association number) ≡ true
is_arrival number seen association own same unseen =
    ap (λ (test : Bool). is_new (if test then (if seen number then was_seen else arrives_new) else is_old)) (eq-eqb association own same)
    ∙ ap (λ (test : Bool). is_new (if test then was_seen else arrives_new)) unseen

module _ (script : Script) (w : World) (call i target q : ℕ) (a : Agent) (hook : Hook) (can : CanTake script w call i target a)
    (other : same_hook (w.gateway.line (a.lines i)).hook hook ≡ false)
    (named : list_any (is_hook hook) (w.gateway.line (a.lines i)).list ≡ true) (request : (w.gateway.line (a.lines i)).request ≡ Some q)
    (expects : a.expected i ≡ Some q) (leads : target_in (state_of script a.state).on i (kind_of hook) ≡ Some target)
    (space : (w.gateway.link call).notes + 1 ≤ last_number) where
  abbrev pub row : LineRow
  row = w.gateway.line (a.lines i)

  abbrev pub count : ℕ
  count = (w.gateway.link call).notes + 1

  abbrev its_note : Note
  its_note = record { kind = kind_of hook; request = q; method = None; symbols = [] }

  abbrev sent : SentNote
  sent = record { call = call; association = w.gateway.association; number = count; line = a.lines i; note = its_note }

  abbrev pub outcome : Outcome
  outcome = detected (now row hook) (kind_of hook)

  abbrev pub raised : World
  raised = turned w call (a.lines i) outcome

  pub raises : (w.gateway.holder (a.lines i) ≡ Some call) × LineOccurs w (a.lines i) (event.Hook hook) raised
  raises = turns w call (a.lines i) hook outcome can.held
      (hooked_by row hook other ∙ where_true (list_any (is_hook hook) row.list) (Some outcome) (Some (stays (now row hook))) named) space

  note_is : outcome.note ≡ Some its_note
  note_is = ap (option_map (λ (number : ℕ). record { kind = kind_of hook; request = number; method = None; symbols = [] })) request

  was_sent : Contains raised.notes sent
  was_sent = subst (λ (o : Option Note). Contains (notes_from w.gateway call (a.lines i) o ++ w.notes) sent) (sym note_is) (first_in sent w.notes)

  may : may_accept script a sent ≡ true
  may = and_from (call == a.call) (is_resting a.phase && not (state_of script a.state).is_end && is_new (arrival (inbox_of a) w.gateway.association count))
      (eq-eqb call a.call (sym can.call_is))
      (and_from (is_resting a.phase && not (state_of script a.state).is_end) (is_new (arrival (inbox_of a) w.gateway.association count))
      (and_from (is_resting a.phase) (not (state_of script a.state).is_end) (ap is_resting can.rests) (ap not can.goes_on))
      (is_arrival count a.accepted w.gateway.association a.association (sym can.current) (can.unseen count (omega (arith)))))

  target_is : target_of script a (line_in a (a.lines i) (line_places script)) its_note ≡ Some target
  target_is =
      ap (λ (o : Option ℕ). target_of script a o its_note) can.place
      ∙ ap (λ (test : Bool). if test then target_in (state_of script a.state).on i (kind_of hook) else None)
      (ap (λ (o : Option ℕ). same_number o q) expects ∙ eq-eqb q q refl)
      ∙ leads

  abbrev pub into : Enters (entered script (accepting a count) target) target
  into = enters_state script (accepting a count) can.room target

  takes : noted script a (line_places script) sent ≡ Some into.agent
  takes =
      ap (λ (test : Bool). if test
      then entered_or_stays script (accepting a count) (target_of script a (line_in a (a.lines i) (line_places script)) its_note)
      else None) may
      ∙ ap (entered_or_stays script (accepting a count)) target_is ∙ into.is

  pub its_run : Runs script (on_a_line call (a.lines i) (event.Hook hook) ∷ note call count ∷ []) w (agent_steps raised call into.agent)
  unfolding Runs
  its_run = (
    raised,
    (
      raises,
      (
        agent_steps raised call into.agent,
        ((sent, (was_sent, refl, refl), record { before = a; agent = into.agent; open_call = can.there; steps = takes; after_is = refl }), refl),
      ),
    ),
  )
