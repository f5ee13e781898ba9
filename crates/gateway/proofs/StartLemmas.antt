-- A gateway that starts, and one whose call was opened.
use Rattle.std.proofs.Common.{◌≡◌, ◌∙◌, ℕ, ◌==◌, ◌&&◌, ◌||◌, Bool, true, false, not, if◌then◌else◌, List, [], ◌∷◌, Option, Some, None, is_some, Result, Ok, Err, refl, sym, ap, rules, true≢false}
use Rattle.std.specs.List.{list_all}
use Rattle.std.proofs.lemmas.Bool.{eqb-true, and_parts}
use Rattle.mg_names.specs.declared.identifiers.LineNo.{LineNo}
use Rattle.mg_names.specs.declared.identifiers.TermId.{TermId}
use Rattle.mg_names.specs.declared.identifiers.TermId.TheVariants.{Line, Eph}
use Rattle.mg_model.specs.declared.rows.Row.{Row}
use Rattle.mg_model.specs.Board.{Board, place_in}
use Rattle.mg_model.specs.Gateway.{CallLink}
use Rattle.mg_model.specs.Memory.{IsOrNoMemory}
use Rattle.mg_model.specs.LineEvents.{LineRow, new_line}
use Rattle.contexts.specs.BoardValue.{names_line, started}
use Rattle.contexts.specs.BoardValue as board_value
use Rattle.requests.specs.Connected.{board_in, line_in, has_line, is_idle, opened_line}
use Rattle.requests.specs.Idle.{idle_row}
use Rattle.gateway.specs.declared.fault.OpenFault.{OpenFault}
use Rattle.gateway.specs.declared.fault.OpenFault.TheVariants.{NoMemory, UnknownLine, Taken}
use Rattle.gateway.specs.Calls.{OpenCall, call_entry, open_entry, is_retired_entry, line_entry, link_of, holder_of, new_call}
use Rattle.gateway.specs.Openings.{first_gateway, inactive_row, rows_opened, board_opened, lines_opened, opened, is_free, are_there, has_twice, opening_on, is_memory}
use Rattle.gateway.specs.Standby.{rows_idled, board_idled, lines_armed, ShowsOpened}
use Rattle.gateway.specs.Creators.{creator_at, creator_on}
use Rattle.gateway.specs.GatewayValue.{GatewayValue, AreTied, is_held_by, has_line_among, gateway_of, holder_in, is_open, is_taken}

-- ---- a gateway that starts

nobody_in : (n : ℕ) → call_entry [] n ≡ None
unfolding call_entry
nobody_in n = refl

no_call_in : (calls : List (ℕ × Option OpenCall)) → calls ≡ [] → (n : ℕ) → call_entry calls n ≡ None
no_call_in calls e n = ap (λ (cs : List (ℕ × Option OpenCall)). call_entry cs n) e ∙ nobody_in n

nobody_noted : (creators : List (ℕ × ℕ)) → creators ≡ [] → (k : ℕ) → creator_at creators k ≡ None
unfolding creator_at
nobody_noted creators e k = ap (λ (cs : List (ℕ × ℕ)). creator_at cs k) e

none_is_not : {X : Type 0} (x : X) → None ≡ Some x → ⊥
none_is_not x e = cc

abbrev free_entry : Bool → Option (Option ℕ)
free_entry among = if among then Some None else None

started_there : (class : ℕ → Bool) (lines : List LineNo) (l : ℕ) (among : Bool) → names_line lines l ≡ among → has_line (board_value.opened class (started lines)) l ≡ is_some (free_entry among)
started_there class lines l true e = rw e refl
started_there class lines l false e = rw e refl

nobody_holds : (among : Bool) → holder_of (free_entry among) ≡ None
nobody_holds true = refl
nobody_holds false = refl

pub starts_tied : (w : GatewayValue) (class : ℕ → Bool) (lines : List LineNo) → board_in w.connected ≡ board_value.opened class (started lines) → w.calls ≡ []
    → w.creators ≡ [] → ((l : ℕ) → line_entry w.holders l ≡ (if names_line lines l then Some None else None)) → AreTied w
starts_tied w class lines board calls creators entries = record {
  links = λ n c e. absurd (none_is_not c (sym (ap open_entry (no_call_in w.calls calls n)) ∙ e));
  lines = λ l. ap (λ (b : Board). has_line b l) board ∙ started_there class lines l (names_line lines l) refl ∙ ap is_some (sym (entries l));
  holders = λ l call. ap (λ (e : Option (Option ℕ)). is_held_by (holder_of e) call) (entries l) ∙ ap (λ (h : Option ℕ). is_held_by h call) (nobody_holds (names_line lines l))
      ∙ sym (ap (λ (e : Option (Option OpenCall)). has_line_among (open_entry e) l) (no_call_in w.calls calls call));
  created = λ k call e. absurd (none_is_not call (sym (nobody_noted w.creators creators k) ∙ e));
  settled = λ k. rw board refl;
}

pub first_is : (w : GatewayValue) (class : ℕ → Bool) (lines : List LineNo) → w.association ≡ 1 → board_in w.connected ≡ board_value.opened class (started lines) → line_in w.connected ≡ (λ l. new_line)
    → w.calls ≡ [] → ((l : ℕ) → line_entry w.holders l ≡ (if names_line lines l then Some None else None))
    → gateway_of w ≡ first_gateway class lines
unfolding gateway_of
first_is w class lines association board rows calls entries = λ i. record {
  association = association i;
  board = board i;
  line = rows i;
  holder = λ l. (ap holder_of (entries l) ∙ nobody_holds (names_line lines l)) i;
  creator = creator_on (board i) w.creators;
  link = λ call. link_of (open_entry (no_call_in w.calls calls call i));
  retired = λ call. is_retired_entry (no_call_in w.calls calls call i);
}

pub none_open : (w : GatewayValue) → w.calls ≡ [] → (call : ℕ) → is_open w call ≡ false
unfolding is_open
none_open w calls call = ap (λ (e : Option (Option OpenCall)). is_some (open_entry e)) (no_call_in w.calls calls call)

-- ---- what is answered to an opening

pub or_no_memory : (r expected : Result (Unit {0}) OpenFault) → r ≡ expected → IsOrNoMemory is_memory r expected
or_no_memory (Ok done) expected e = sym e
or_no_memory (Err NoMemory) expected e = tt
or_no_memory (Err UnknownLine) expected e = sym e
or_no_memory (Err Taken) expected e = sym e

-- where a call can be opened
pub record CanOpen (b : Board) (holder : ℕ → Option ℕ) (is_taken : Bool) (lines : List LineNo) : Type 0 where
  pub there : are_there b lines ≡ true
  pub new : is_taken ≡ false
  pub free : list_all (is_free b holder) lines ≡ true

abbrev answer_by : Bool → Bool → Bool → Bool → Result (Unit {0}) OpenFault
answer_by there already free twice =
    if not there then Err UnknownLine else if already then Err Taken else if not (free && not twice) then Err Taken else Ok tt

pub can_open : (b : Board) (holder : ℕ → Option ℕ) (is_taken : Bool) (lines : List LineNo) → opening_on b holder is_taken lines ≡ Ok tt → CanOpen b holder is_taken lines
can_open b holder is_taken lines h = by_tests (are_there b lines) is_taken (list_all (is_free b holder) lines) (has_twice lines) refl refl refl h
  where
    by_tests : (there already free twice : Bool) → are_there b lines ≡ there → is_taken ≡ already → list_all (is_free b holder) lines ≡ free
        → answer_by there already free twice ≡ Ok (tt {0})
        → CanOpen b holder is_taken lines
    by_tests true false true twice t o f h = record { there = t; new = o; free = f }
    by_tests false already free twice t o f h = cc
    by_tests true true free twice t o f h = cc
    by_tests true false false twice t o f h = cc

-- ---- what an opening leaves

pub all_among : (test : ℕ → Bool) (lines : List LineNo) (n : ℕ) → list_all (λ (l : LineNo). test l.0) lines ≡ true → names_line lines n ≡ true → test n ≡ true
all_among test [] n all among = absurd (search rules)
all_among test (l ∷ lines) n all among =
    let both = and_parts (test l.0) (list_all (λ (l : LineNo). test l.0) lines) all in
    by_first both.0 (n == l.0) refl (all_among test lines n both.1)
  where
    by_first : test l.0 ≡ true → (same : Bool) → (n == l.0) ≡ same → (names_line lines n ≡ true → test n ≡ true) → test n ≡ true
    by_first first true e later = ap test (eqb-true n l.0 e) ∙ first
    by_first first false e later = later (sym (ap (λ (b : Bool). b || names_line lines n) e) ∙ among)

idle_inactive : (row : Option Row) → (is_some row && (place_in row == 0)) ≡ true → idle_row row ≡ inactive_row row
idle_inactive None e = refl
idle_inactive (Some row) e = rw e refl

abbrev pub free_number : Board → (ℕ → Option ℕ) → ℕ → Bool
free_number b holder n = is_idle b n && not (is_some (holder n))

idled_is : (b : Board) (holder : ℕ → Option ℕ) (lines : List LineNo) → list_all (is_free b holder) lines ≡ true → (t : TermId)
    → rows_idled lines b.row t ≡ rows_opened lines b.row t
idled_is b holder lines free (Line l) = by_test (names_line lines l.0) refl
  where
    by_test : (among : Bool) → names_line lines l.0 ≡ among
        → (if among then idle_row (b.row (Line l)) else b.row (Line l)) ≡ (if among then inactive_row (b.row (Line l)) else b.row (Line l))
    by_test true e = idle_inactive (b.row (Line l)) (and_parts (is_idle b l.0) _ (all_among (free_number b holder) lines l.0 free e)).0
    by_test false e = refl
idled_is b holder lines free (Eph k) = refl

armed_is : (b : Board) (lines : List LineNo) → are_there b lines ≡ true → (rows : ℕ → LineRow) (n : ℕ) → lines_armed b lines rows n ≡ lines_opened lines rows n
armed_is b lines there rows n = by_test (names_line lines n) refl (has_line b n) refl
  where
    by_test : (among : Bool) → names_line lines n ≡ among → (is_there : Bool) → has_line b n ≡ is_there
        → (if is_there && among then opened_line (rows n) else rows n) ≡ (if among then opened_line (rows n) else rows n)
    by_test true e true h = refl
    by_test true e false h = absurd (true≢false (sym (all_among (has_line b) lines n there e) ∙ h))
    by_test false e true h = refl
    by_test false e false h = refl

pub held_is : (w : GatewayValue) → AreTied w → (lines : List LineNo) → are_there (board_in w.connected) lines ≡ true → (call n : ℕ)
    → holder_of (if names_line lines n && is_some (line_entry w.holders n) then Some (Some call) else line_entry w.holders n)
    ≡ (if names_line lines n then Some call else holder_in w n)
held_is w tied lines there call n = by_test (names_line lines n) refl (is_some (line_entry w.holders n)) refl
  where
    by_test : (among : Bool) → names_line lines n ≡ among → (listed : Bool) → is_some (line_entry w.holders n) ≡ listed
        → holder_of (if among && listed then Some (Some call) else line_entry w.holders n) ≡ (if among then Some call else holder_in w n)
    by_test true e true h = refl
    by_test true e false h = absurd (true≢false (sym (all_among (has_line (board_in w.connected)) lines n there e) ∙ tied.lines n ∙ h))
    by_test false e true h = refl
    by_test false e false h = refl

abbrev linked : Bool → CallLink → CallLink
linked new link = if new then record { last = None; notes = 0 } else link

link_opened : (state : OpenCall) (association : ℕ) (lines : List LineNo) (e : Option (Option OpenCall)) (new : Bool) → state ≡ new_call association lines
    → link_of (open_entry (if new then Some (Some state) else e)) ≡ linked new (link_of (open_entry e))
link_opened state association lines e true is = ap (λ (c : OpenCall). link_of (Some c)) is
link_opened state association lines e false is = refl

pub not_taken : (e : Option (Option OpenCall)) → is_some e ≡ false → e ≡ None
not_taken None h = refl
not_taken (Some entry) h = absurd (search rules)

retired_opened : (state : OpenCall) (entries : ℕ → Option (Option OpenCall)) (call c : ℕ) (new : Bool) → (c == call) ≡ new → is_some (entries call) ≡ false
    → is_retired_entry (if new then Some (Some state) else entries c) ≡ is_retired_entry (entries c)
retired_opened state entries call c true e free =
    sym (ap is_retired_entry (ap entries (eqb-true c call e) ∙ not_taken (entries call) free))
retired_opened state entries call c false e free = refl

-- where a call was opened on lines of which its state has a copy
pub record IsOpened (w new : GatewayValue) (call : ℕ) (lines : List LineNo) : Type 0 where
  pub association : new.association ≡ w.association
  pub shows : ShowsOpened w.connected lines new.connected
  pub holders : (l : ℕ) → line_entry new.holders l ≡ (if names_line lines l && is_some (line_entry w.holders l) then Some (Some call) else line_entry w.holders l)
  pub state : OpenCall
  pub state_is : state ≡ new_call w.association lines
  pub calls : (n : ℕ) → call_entry new.calls n ≡ (if n == call then Some (Some state) else call_entry w.calls n)
  pub creators : new.creators ≡ w.creators

pub opened_is : (w new : GatewayValue) (call : ℕ) (lines : List LineNo) → AreTied w
    → opening_on (board_in w.connected) (holder_in w) (is_taken w call) lines ≡ Ok tt → IsOpened w new call lines → gateway_of new ≡ opened (gateway_of w) call lines
unfolding gateway_of is_taken
opened_is w new call lines tied answer done =
    let can : CanOpen (board_in w.connected) (holder_in w) (is_taken w call) lines = can_open (board_in w.connected) (holder_in w) (is_taken w call) lines answer in
    let idled : board_idled lines (board_in w.connected) ≡ board_opened lines (board_in w.connected) =
    λ i. record (board_in w.connected) { row = λ t. idled_is (board_in w.connected) (holder_in w) lines can.free t i } in
    let armed : lines_armed (board_in w.connected) lines (line_in w.connected) ≡ lines_opened lines (line_in w.connected) =
    λ i n. armed_is (board_in w.connected) lines can.there (line_in w.connected) n i in
    let board : board_in new.connected ≡ board_opened lines (board_in w.connected) = done.shows.board ∙ idled in
    let rows : line_in new.connected ≡ lines_opened lines (line_in w.connected) = done.shows.rows ∙ armed in
    λ i. record {
      association = done.association i;
      board = board i;
      line = rows i;
      holder = λ l. (ap holder_of (done.holders l) ∙ held_is w tied lines can.there call l) i;
      creator = creator_on (board i) (done.creators i);
      link = λ c. (ap (λ (e : Option (Option OpenCall)). link_of (open_entry e)) (done.calls c)
          ∙ link_opened done.state w.association lines (call_entry w.calls c) (c == call) done.state_is) i;
      retired = λ c. (ap is_retired_entry (done.calls c) ∙ retired_opened done.state (call_entry w.calls) call c (c == call) refl can.new) i;
    }

some_opened : (state : OpenCall) (e : Option (Option OpenCall)) (new : Bool) → is_some (open_entry (if new then Some (Some state) else e)) ≡ (new || is_some (open_entry e))
some_opened state e true = refl
some_opened state e false = refl

pub open_after : (w new : GatewayValue) (call : ℕ) (state : OpenCall) → ((n : ℕ) → call_entry new.calls n ≡ (if n == call then Some (Some state) else call_entry w.calls n))
    → (other : ℕ) → is_open new other ≡ ((other == call) || is_open w other)
unfolding is_open
open_after w new call state calls other =
    ap (λ (e : Option (Option OpenCall)). is_some (open_entry e)) (calls other) ∙ some_opened state (call_entry w.calls other) (other == call)
