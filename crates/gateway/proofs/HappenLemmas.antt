-- An event of a line on a gateway: when it can't happen, and what it leaves where it does.
use Rattle.std.proofs.Common.{◌≡◌, ◌∙◌, ℕ, ◌==◌, ◌+◌, ◌≤◌, Bool, true, false, if◌then◌else◌, List, [], ◌∷◌, length, Option, Some, None, is_some, option_map, Result, Ok, Err, refl, sym, ap, subst, arith, rules, true≢false}
use Rattle.std.proofs.lemmas.Bool.{eqb-true}
use Rattle.mg_model.specs.Numbers.{last_number}
use Rattle.mg_model.specs.declared.line_events.LineEvent.{LineEvent}
use Rattle.mg_model.specs.Gateway.{Gateway, Happens, outcome_of, notes_from}
use Rattle.mg_model.specs.LineEvents.{LineRow, Note, Outcome}
use Rattle.mg_model.specs.Messages.{SentNote}
use Rattle.mg_model.proofs.Cases.{same_itself}
use Rattle.line_events.specs.declared.fault.LineFault.{LineFault}
use Rattle.line_events.specs.Raising.{is_raised}
use Rattle.requests.specs.Connected.{Connected, board_in, line_in, has_line, answer_where, lines_after}
use Rattle.gateway.specs.Answers.{CannotOccur, IsSame, SameOpen}
use Rattle.gateway.specs.Calls.{OpenCall, call_entry, call_in, open_entry, is_retired_in, line_entry, link_of, holder_of, with_call, counting}
use Rattle.gateway.specs.Creators.{creator_on}
use Rattle.gateway.specs.GatewayValue.{GatewayValue, AreTied, is_held_by, has_line_among, gateway_of, holder_in, is_open}
use Rattle.gateway.proofs.TieLemmas.{Entry, same_retired}

some_is : {X : Type 0} (a b : X) → Some a ≡ Some b → a ≡ b
some_is a b e = cc

held_entry : (o : Option (Option ℕ)) (call : ℕ) → Some call ≡ holder_of o → o ≡ Some (Some call)
held_entry None call e = cc
held_entry (Some holder) call e = ap Some (sym e)

pub there_held : (w : GatewayValue) → AreTied w → (l call : ℕ) → Some call ≡ holder_in w l → has_line (board_in w.connected) l ≡ true
there_held w tied l call e = tied.lines l ∙ ap is_some (held_entry (line_entry w.holders l) call e)

pub open_held : (w : GatewayValue) → AreTied w → (l call : ℕ) → Some call ≡ holder_in w l → call_in w.calls call ≡ None → ⊥
open_held w tied l call e closed =
    true≢false (sym (held_by (holder_in w l) e) ∙ tied.holders l call ∙ ap (λ (o : Option OpenCall). has_line_among o l) closed)
  where
    held_by : (holder : Option ℕ) → Some call ≡ holder → is_held_by holder call ≡ true
    held_by None e = cc
    held_by (Some other) e = ap (λ (n : ℕ). n == call) (sym (some_is call other e)) ∙ same_itself call

-- ---- what can't happen

pub cannot_unheld : (w : GatewayValue) (l : ℕ) (event : LineEvent) → None ≡ holder_in w l → CannotOccur w l event
unfolding gateway_of
cannot_unheld w l event e after notes h = let k : None ≡ Some h.call = e ∙ h.held in cc

pub cannot_none : (w : GatewayValue) (l : ℕ) (event : LineEvent) → outcome_of (line_in w.connected l) event ≡ None → CannotOccur w l event
unfolding gateway_of
cannot_none w l event e after notes h = let k : None ≡ Some h.outcome = sym e ∙ h.happens in cc

one_note : (g : Gateway) (call l : ℕ) (note : Option Note) → is_some note ≡ true → length (notes_from g call l note) ≡ 1
one_note g call l None e = absurd (search rules)
one_note g call l (Some note) e = refl

pub cannot_full : (w : GatewayValue) (l : ℕ) (event : LineEvent) (call : ℕ) → Some call ≡ holder_in w l → last_number ≤ (link_of (call_in w.calls call)).notes
    → is_raised (outcome_of (line_in w.connected l) event) ≡ true → CannotOccur w l event
unfolding gateway_of
cannot_full w l event call e full raised after notes h =
    let g : Gateway = gateway_of w in
    let same : call ≡ h.call = some_is call h.call (e ∙ h.held) in
    let noted : is_some h.outcome.note ≡ true = sym (ap is_raised h.happens) ∙ raised in
    let one : length notes ≡ 1 = ap length h.notes_are ∙ one_note g h.call l h.outcome.note noted in
    let at_call : last_number ≤ (g.link h.call).notes = subst (λ (n : ℕ). last_number ≤ (link_of (call_in w.calls n)).notes) same full in
    absurd (omega (arith, h.room))

none_answered : (there : Bool) (o : Option Outcome) (fault : LineFault) → there ≡ true → Err fault ≡ answer_where there o → o ≡ None
none_answered true None fault e h = refl
none_answered true (Some outcome) fault e h = cc
none_answered false o fault e h = cc

none_after : (rows : ℕ → LineRow) (l : ℕ) (there : Bool) (other : ℕ) → lines_after there rows l None other ≡ rows other
none_after rows l false other = refl
none_after rows l true other = by_test (other == l) refl
  where
    by_test : (same : Bool) → (other == l) ≡ same → (if same then rows l else rows other) ≡ rows other
    by_test true e = ap rows (sym (eqb-true other l e))
    by_test false e = refl

abbrev connected_to : GatewayValue → Connected → GatewayValue
connected_to w c = record { association = w.association; connected = c; holders = w.holders; calls = w.calls; creators = w.creators }

pub cannot_answered : (w : GatewayValue) (new : Connected) (l : ℕ) (event : LineEvent) (call : ℕ) (fault : LineFault) → AreTied w → Some call ≡ holder_in w l
    → Err fault ≡ answer_where (has_line (board_in w.connected) l) (outcome_of (line_in w.connected l) event)
    → board_in new ≡ board_in w.connected
    → line_in new ≡ lines_after (has_line (board_in w.connected) l) (line_in w.connected) l (outcome_of (line_in w.connected l) event)
    → CannotOccur w l event × IsSame w (connected_to w new)
unfolding gateway_of is_open
cannot_answered w new l event call fault tied held answered board lines =
    let nothing : outcome_of (line_in w.connected l) event ≡ None =
    none_answered _ _ fault (there_held w tied l call held) answered in
    let rows : line_in new ≡ line_in w.connected =
    lines ∙ ap (λ (o : Option Outcome). lines_after (has_line (board_in w.connected) l) (line_in w.connected) l o) nothing
    ∙ (λ i other. none_after (line_in w.connected) l (has_line (board_in w.connected) l) other i) in
    (cannot_none w l event nothing, (λ i. record (gateway_of w) { board = board i; line = rows i; creator = creator_on (board i) w.creators }, λ c. refl))

-- ---- what happens

ok_is : (r : Result (Option Note) LineFault) (a b : Option Note) → r ≡ Ok a → r ≡ Ok b → a ≡ b
ok_is r a b e h = cc

outcome_answered : (there : Bool) (o : Option Outcome) (note : Option Note) → Ok note ≡ answer_where there o
    → (there ≡ true) × ((outcome : Outcome) × ((o ≡ Some outcome) × (outcome.note ≡ note)))
outcome_answered false o told h = cc
outcome_answered true None told h = cc
outcome_answered true (Some outcome) note h = (refl, (outcome, (refl, ok_is (Ok outcome.note) outcome.note note refl (sym h))))

pub raised_answered : (there : Bool) (o : Option Outcome) (found : Option Note) (note : Note) → found ≡ Some note → Ok found ≡ answer_where there o → is_raised o ≡ true
raised_answered there o found note e h =
    let told = outcome_answered there o found h in
    ap is_raised told.1.1.0 ∙ ap is_some told.1.1.1 ∙ ap is_some e

-- the gateway after: the row of the line and the link of the call changed
abbrev with_both : GatewayValue → Connected → List (ℕ × Option OpenCall) → GatewayValue
with_both w c calls = record { association = w.association; connected = c; holders = w.holders; calls = calls; creators = w.creators }

happens_is : (w : GatewayValue) (new : Connected) (calls : List (ℕ × Option OpenCall)) (l : ℕ) (event : LineEvent) (call : ℕ) (note : Option Note) (sent : List SentNote)
    → Some call ≡ holder_in w l
    → Ok note ≡ answer_where (has_line (board_in w.connected) l) (outcome_of (line_in w.connected l) event)
    → board_in new ≡ board_in w.connected
    → line_in new ≡ lines_after (has_line (board_in w.connected) l) (line_in w.connected) l (outcome_of (line_in w.connected l) event)
    → sent ≡ notes_from (gateway_of w) call l note → (link_of (call_in w.calls call)).notes + length sent ≤ last_number
    → ((n : ℕ) → link_of (call_in calls n) ≡ (if n == call then record { last = (link_of (call_in w.calls call)).last; notes = (link_of (call_in w.calls call)).notes + length sent } else link_of (call_in w.calls n)))
    → ((n : ℕ) → is_retired_in calls n ≡ is_retired_in w.calls n)
    → Happens (gateway_of w) l event (gateway_of (with_both w new calls)) sent
unfolding gateway_of
happens_is w new calls l event call note sent held answered board lines sent_are room links retired =
    let found = outcome_answered _ _ note answered in
    let outcome : Outcome = found.1.0 in
    let rows : line_in new ≡ lines_after true (line_in w.connected) l (Some outcome) =
    lines ∙ ap (λ (o : Option Outcome). lines_after (has_line (board_in w.connected) l) (line_in w.connected) l o) found.1.1.0
    ∙ ap (λ (there : Bool). lines_after there (line_in w.connected) l (Some outcome)) found.0 in
    record {
      call = call;
      outcome = outcome;
      held = sym held;
      happens = found.1.1.0;
      notes_are = sent_are ∙ ap (notes_from (gateway_of w) call l) (sym found.1.1.1);
      room = room;
      after_is = λ i. record (gateway_of w) { board = board i; line = rows i; creator = creator_on (board i) w.creators; link = λ n. links n i; retired = λ n. retired n i };
    }

links_same : (calls : ℕ → Option OpenCall) (call n : ℕ) (same : Bool) → (n == call) ≡ same
    → link_of (calls n) ≡ (if same then record { last = (link_of (calls call)).last; notes = (link_of (calls call)).notes + 0 } else link_of (calls n))
links_same calls call n true e = ap (λ (m : ℕ). link_of (calls m)) (eqb-true n call e)
    ∙ ap (λ (m : ℕ). record { last = (link_of (calls call)).last; notes = m }) (omega arith)
links_same calls call n false e = refl

pub silent_event : (w : GatewayValue) (new : Connected) (l : ℕ) (event : LineEvent) (call : ℕ) (found : Option Note) → found ≡ None → Some call ≡ holder_in w l
    → Ok found ≡ answer_where (has_line (board_in w.connected) l) (outcome_of (line_in w.connected l) event)
    → board_in new ≡ board_in w.connected
    → line_in new ≡ lines_after (has_line (board_in w.connected) l) (line_in w.connected) l (outcome_of (line_in w.connected l) event)
    → (link_of (call_in w.calls call)).notes ≤ last_number
    → (Happens (gateway_of w) l event (gateway_of (connected_to w new)) []) × SameOpen w (connected_to w new)
unfolding is_open
silent_event w new l event call found nothing held answered board lines few = (
  happens_is w new w.calls l event call found [] held answered board lines (ap (notes_from (gateway_of w) call l) (sym nothing)) (omega arith)
      (λ n. links_same (call_in w.calls) call n (n == call) refl) (λ n. refl),
  λ c. refl,
)

links_counted : (entries : ℕ → Entry) (call : ℕ) (state : OpenCall) (last : ℕ) (n : ℕ) (same : Bool) → open_entry (entries call) ≡ Some state → last ≡ state.notes
    → link_of (open_entry (if same then option_map (option_map (counting (last + 1))) (entries call) else entries n))
    ≡ (if same then record { last = (link_of (open_entry (entries call))).last; notes = (link_of (open_entry (entries call))).notes + 1 } else link_of (open_entry (entries n)))
links_counted entries call state last n true e k = by_state (entries call) e
  where
    by_state : (o : Entry) → open_entry o ≡ Some state
        → link_of (open_entry (option_map (option_map (counting (last + 1))) o)) ≡ record { last = (link_of (open_entry o)).last; notes = (link_of (open_entry o)).notes + 1 }
    by_state None e = cc
    by_state (Some None) e = cc
    by_state (Some (Some c)) e = let same : c ≡ state = cc in
        ap (λ (m : ℕ). record { last = c.last; notes = m + 1 }) (k ∙ ap (λ (x : OpenCall). x.notes) (sym same))
links_counted entries call state last n false e k = refl

pub noted_event : (w : GatewayValue) (new : Connected) (calls : List (ℕ × Option OpenCall)) (l : ℕ) (event : LineEvent) (call : ℕ) (state : OpenCall) (last : ℕ) (found : Option Note) (note : Note) (sent : SentNote)
    → found ≡ Some note → Some call ≡ holder_in w l → Ok found ≡ answer_where (has_line (board_in w.connected) l) (outcome_of (line_in w.connected l) event)
    → board_in new ≡ board_in w.connected
    → line_in new ≡ lines_after (has_line (board_in w.connected) l) (line_in w.connected) l (outcome_of (line_in w.connected l) event)
    → call_in w.calls call ≡ Some state → last ≡ state.notes → last + 1 ≤ last_number
    → sent ≡ record { call = call; association = w.association; number = last + 1; line = l; note = note }
    → ((n : ℕ) → call_entry calls n ≡ with_call (call_entry w.calls) call (counting (last + 1)) n)
    → (Happens (gateway_of w) l event (gateway_of (with_both w new calls)) (sent ∷ []))
unfolding gateway_of
noted_event w new calls l event call state last found note sent found_is held answered board lines is_state last_is room sent_is changed =
    let last_link : last ≡ (link_of (call_in w.calls call)).notes = last_is ∙ ap (λ (o : Option OpenCall). (link_of o).notes) (sym is_state) in
    happens_is w new calls l event call found (sent ∷ []) held answered board lines
    (ap (λ (x : SentNote). x ∷ []) sent_is
    ∙ ap (λ (n : ℕ). record { call = call; association = w.association; number = n + 1; line = l; note = note } ∷ []) last_link
    ∙ ap (notes_from (gateway_of w) call l) (sym found_is))
    (omega arith)
    (λ n. ap (λ (e : Entry). link_of (open_entry e)) (changed n) ∙ links_counted (call_entry w.calls) call state last n (n == call) is_state last_is)
    (same_retired (call_entry w.calls) (call_entry calls) call (counting (last + 1)) changed)
