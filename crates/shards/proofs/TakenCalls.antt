-- A call doesn't open on a new gateway on which others of a list are open: then it has what one of them has, or a line twice.
use Rattle.std.proofs.Common.{◌≡◌, ◌∙◌, ◌⊎◌, inl, inr, ℕ, ◌+◌, ◌<◌, ◌++◌, Bool, true, false, true≢false, List, [], ◌∷◌, length, map, take, drop, Option, Some, None, Result, Ok, Err, if◌then◌else◌, refl, sym, subst, ap, arith}
use Rattle.std.specs.Prelude.{◌==◌, ◌||◌, ◌&&◌, not, Contains, is_some, option_map}
use Rattle.std.specs.List.{list_all, flat_map}
use Rattle.std.proofs.lemmas.Bool.{eq-eqb}
use Rattle.std.proofs.lemmas.List.{append_assoc, take-append-drop}
use Rattle.std.proofs.lemmas.List.Elements.{Contains-append_cases, Contains-append_right}
use Rattle.std.proofs.lemmas.List.Folds.{list_any-append}
use Rattle.mg_names.specs.declared.identifiers.LineNo.{LineNo}
use Rattle.mg_names.specs.declared.identifiers.TermId.TheVariants.{Line}
use Rattle.mg_model.specs.declared.rows.Row.{Row}
use Rattle.mg_model.specs.Board.{Board, null_row, place_in}
use Rattle.mg_model.specs.Gateway.{Gateway}
use Rattle.mg_model.specs.Script.{Script}
use Rattle.mg_model.specs.World.{Opened}
use Rattle.mg_model.proofs.Single.{only_one}
use Rattle.contexts.specs.BoardValue.{names_line}
use Rattle.requests.specs.Connected.{has_line, is_idle}
use Rattle.gateway.specs.GatewayValue.{GatewayValue, gateway_of, is_taken}
use Rattle.gateway.specs.declared.fault.OpenFault.{OpenFault}
use Rattle.gateway.specs.declared.fault.OpenFault.TheVariants as fault
use Rattle.gateway.specs.Openings.{are_free, are_there, first_gateway, has_twice, inactive_row, is_free, opened, opening}
use Rattle.agent.specs.AgentValue.{agent_of}
use Rattle.systems.specs.Openings.{line_at}
use Rattle.systems.specs.Systems.{System, agent_in}
use Rattle.systems.proofs.LineLists.{named}
use Rattle.systems.proofs.OpenedCalls.{IsOpened, calls_opened}
use Rattle.shards.proofs.ShownBegins.{used_number}
use Rattle.shards.specs.Opening.{AreOpenedOn, AreOpenedRecords, IsOpenedOne, IsTakenAfter, call_of, system_of}
use Rattle.shards.specs.Shards.{opened_as}
use Rattle.shards.specs.CallTable.{record_in}
use Rattle.shards.specs.declared.fault.OpenFault as shard_fault
use Rattle.shards.specs.declared.fault.OpenFault.TheVariants as why_not
use Rattle.shards.specs.declared.opened.OpenedCall.{OpenedCall}
use Rattle.shards.specs.declared.call_record.CallRecord.{CallRecord}

-- ---- lists

in_map : (calls : List OpenedCall) (o : Opened) → Contains (map opened_as calls) o → (one : OpenedCall) × (Contains calls one × (opened_as one ≡ o))
in_map [] o among = absurd (let below : among.0 < 0 = among.1 in omega (arith, below))
in_map (one ∷ calls) o among = elim (Contains-append_cases (opened_as one ∷ []) (map opened_as calls) o among) [
  | inl here ↦ (one, ((0, omega arith, refl), only_one (opened_as one) o here))
  | inr later ↦ (let found = in_map calls o later in (found.0, (Contains-append_right (one ∷ []) calls found.0 found.1.0, found.1.1)))
]

first_false : (a b : Bool) → (a && b) ≡ false → (a ≡ false) ⊎ ((a ≡ true) × (b ≡ false))
first_false true b is = inr (refl, is)
first_false false b is = inl refl

-- a line that isn't free is one of them
not_free : (b : Board) (holder : ℕ → Option ℕ) (lines : List LineNo) → list_all (is_free b holder) lines ≡ false
    → (l : LineNo) × ((names_line lines l.0 ≡ true) × (is_free b holder l ≡ false))
not_free b holder [] is = absurd (true≢false is)
not_free b holder (l ∷ lines) is = elim (first_false (is_free b holder l) (list_all (is_free b holder) lines) is) [
  | inl taken ↦ (l, (ap (λ (same : Bool). same || names_line lines l.0) (eq-eqb l.0 l.0 refl), taken))
  | inr rest ↦ (let found = not_free b holder lines rest.1 in (found.0, (either (found.0.0 == l.0) (names_line lines found.0.0) found.1.0, found.1.1)))
]
  where
    either : (a b : Bool) → b ≡ true → (a || b) ≡ true
    either true b is = refl
    either false b is = is

all_there : (b : Board) (lines : List LineNo) → ((l : ℕ) → names_line lines l ≡ true → has_line b l ≡ true) → are_there b lines ≡ true
all_there b [] there = refl
all_there b (l ∷ lines) there =
    both (has_line b l.0) (are_there b lines) (there l.0 (ap (λ (same : Bool). same || names_line lines l.0) (eq-eqb l.0 l.0 refl)))
    (all_there b lines (λ n is. there n (either (n == l.0) (names_line lines n) is)))
  where
    both : (a b : Bool) → a ≡ true → b ≡ true → (a && b) ≡ true
    both true b first second = second
    both false b first second = first

    either : (a b : Bool) → b ≡ true → (a || b) ≡ true
    either true b is = refl
    either false b is = is

-- ---- the lines of a new gateway, while calls open on it

abbrev pub lines_of : List OpenedCall → List LineNo
lines_of calls = flat_map (λ (one : OpenedCall). one.lines.items) calls

-- the lines of these calls are there
abbrev pub AreThere : List OpenedCall → Gateway → Type 0
AreThere calls g = (one : OpenedCall) → Contains calls one → (l : ℕ) → names_line one.lines.items l ≡ true → has_line g.board l ≡ true

names_each : (calls : List OpenedCall) (one : OpenedCall) → Contains calls one → (l : ℕ) → names_line one.lines.items l ≡ true → names_line (lines_of calls) l ≡ true
names_each [] one among l is = absurd (let below : among.0 < 0 = among.1 in omega (arith, below))
names_each (first ∷ calls) one among l is =
    list_any-append (λ (x : LineNo). l == x.0) first.lines.items (lines_of calls) ∙ elim (Contains-append_cases (first ∷ []) calls one among) [
      | inl here ↦ left (names_line (lines_of calls) l) (subst (λ (x : OpenedCall). names_line x.lines.items l ≡ true) (sym (only_one first one here)) is)
      | inr later ↦ right (names_line first.lines.items l) (names_each calls one later l is)
    ]
  where
    left : (b : Bool) → names_line first.lines.items l ≡ true → (names_line first.lines.items l || b) ≡ true
    left b is = ap (λ (a : Bool). a || b) is

    right : (a : Bool) → names_line (lines_of calls) l ≡ true → (a || names_line (lines_of calls) l) ≡ true
    right true is = refl
    right false is = is

pub there_at_first : (calls : List OpenedCall) (class : ℕ → Bool) (g : Gateway) (lines : List LineNo) → lines ≡ lines_of calls → g ≡ first_gateway class lines → AreThere calls g
there_at_first calls class g lines all same one among l is =
    ap (λ (x : Gateway). has_line x.board l) same ∙ row_there (names_line lines l) (ap (λ (ls : List LineNo). names_line ls l) all ∙ names_each calls one among l is)
  where
    row_there : (b : Bool) → b ≡ true → is_some (if b then Some null_row else None) ≡ true
    row_there true is = refl
    row_there false is = absurd (true≢false (sym is))

pub there_after : (calls : List OpenedCall) (g h : Gateway) (call : ℕ) (lines : List LineNo) → h ≡ opened g call lines → AreThere calls g → AreThere calls h
there_after calls g h call lines same there one among l is =
    ap (λ (x : Gateway). has_line x.board l) same ∙ still (names_line lines l) (g.board.row (Line (record { 0 = l }))) ∙ there one among l is
  where
    still : (b : Bool) (row : Option Row) → is_some (if b then inactive_row row else row) ≡ is_some row
    still false row = refl
    still true None = refl
    still true (Some row) = refl

-- ---- a call that doesn't open

-- each call has as many lines as the script
abbrev pub HaveAllLines : Script → List OpenedCall → Type 0
HaveAllLines script calls = (one : OpenedCall) → Contains calls one → length one.lines.items ≡ length script.lines

pub one_more_has_all : (script : Script) (calls : List OpenedCall) (one : OpenedCall) → HaveAllLines script calls → length one.lines.items ≡ length script.lines
    → HaveAllLines script (calls ++ one ∷ [])
one_more_has_all script calls one have has other among = elim (Contains-append_cases calls (one ∷ []) other among) [
  | inl before ↦ have other before
  | inr here ↦ subst (λ (x : OpenedCall). length x.lines.items ≡ length script.lines) (only_one one other here) has
]

module _ (script : Script) (calls : List OpenedCall) (first stride : ℕ) (g : GatewayValue) (entries : List (ℕ × CallRecord))
    (x : AreOpenedOn script calls first stride g entries) (have : HaveAllLines script calls) (one : OpenedCall)
    (there : (l : ℕ) → names_line one.lines.items l ≡ true → has_line (gateway_of g).board l ≡ true) where
  abbrev system : System
  system = system_of script g entries

  abbrev o : IsOpened script x.done system
  o = calls_opened script x.done system x.opened

  abbrev Taken : Type 0
  Taken = IsTakenAfter calls one

  -- an opened call is one of those before it
  is_before : (opened : Opened) → Contains x.done opened → (earlier : OpenedCall) × (Contains calls earlier × (opened_as earlier ≡ opened))
  is_before opened among = in_map calls opened (x.has opened among)

  -- a call of this number is open
  number_taken : is_taken g one.call.0 ≡ true → Taken
  number_taken taken = elim (used_number g one.call.0 taken) [
    | inl stands ↦ by_record (record_in entries one.call.0) refl (o.are_open one.call.0 ∙ stands)
    | inr retired ↦ absurd (true≢false (sym retired ∙ ap (λ (of : ℕ → Bool). of one.call.0) o.is_opening.gateway.none_retired))
  ]
    where
      by_record : (call_record : Option CallRecord) → record_in entries one.call.0 ≡ call_record → is_some (option_map (call_of script) (record_in entries one.call.0)) ≡ true → Taken
      by_record None at there = absurd (true≢false (sym there ∙ ap (λ (s : Option CallRecord). is_some (option_map (call_of script) s)) at))
      by_record (Some t) at there =
          let opening = o.is_opening.agents.no_other one.call.0 (agent_of t.agent) (ap (λ (s : Option CallRecord). option_map agent_in (option_map (call_of script) s)) at) in
          let earlier = is_before opening.0 opening.1 in
          inl (earlier.0, earlier.1.0, inl (ap (λ (of : Opened). of.call) earlier.1.1 ∙ opening.2))

  -- a line that is there stands in the null context
  idle : (l : ℕ) → has_line (gateway_of g).board l ≡ true → is_idle (gateway_of g).board l ≡ true
  idle l is = by_row ((gateway_of g).board.row (Line (record { 0 = l }))) is (o.is_opening.lines.others_null l)
    where
      by_row : (row : Option Row) → is_some row ≡ true → ((r : Row) → row ≡ Some r → r ≡ null_row) → (is_some row && (place_in row == 0)) ≡ true
      by_row None there null = absurd (true≢false (sym there))
      by_row (Some r) there null = ap (λ (y : Row). place_in (Some y) == 0) (null r refl)

  -- a line that isn't free is held by a call
  line_taken : list_all (is_free (gateway_of g).board (gateway_of g).holder) one.lines.items ≡ false → Taken
  line_taken is = by_holder ((gateway_of g).holder line) refl (both_so (is_idle (gateway_of g).board line) (not (is_some ((gateway_of g).holder line)))
      (idle line (there line found.1.0)) found.1.1)
    where
      found : (l : LineNo) × ((names_line one.lines.items l.0 ≡ true) × (is_free (gateway_of g).board (gateway_of g).holder l ≡ false))
      found = not_free (gateway_of g).board (gateway_of g).holder one.lines.items is

      line : ℕ
      line = found.0.0

      both_so : (a b : Bool) → a ≡ true → (a && b) ≡ false → b ≡ false
      both_so true b first neither = neither
      both_so false b first neither = absurd (true≢false (sym first))

      by_holder : (holder : Option ℕ) → (gateway_of g).holder line ≡ holder → not (is_some ((gateway_of g).holder line)) ≡ false → Taken
      by_holder None at held = absurd (true≢false (sym (ap (λ (h : Option ℕ). not (is_some h)) at) ∙ held))
      by_holder (Some c) at held =
          let by = (o.is_opening.lines.held line c).0 at in
          let earlier = is_before by.one by.among in
          let same : line_at earlier.0.lines.items by.i ≡ line = ap (λ (of : Opened). of.lines by.i) earlier.1.1 ∙ by.is_line in
          let within : by.i < length earlier.0.lines.items = subst (λ n. by.i < n) (sym (have earlier.0 earlier.1.0)) by.within in
          inl (
            earlier.0,
            earlier.1.0,
            inr (record {
              line = line;
              of_one = subst (λ n. names_line earlier.0.lines.items n ≡ true) same (named earlier.0.lines.items by.i within);
              of_other = found.1.0;
            }),
          )

  pub taken_after : (why : OpenFault) → opening (gateway_of g) (is_taken g one.call.0) one.lines.items ≡ Err why → Taken
  taken_after why is = by_tests (are_there (gateway_of g).board one.lines.items) (is_taken g one.call.0) (are_free (gateway_of g).board (gateway_of g).holder one.lines.items)
      (all_there (gateway_of g).board one.lines.items there) number_taken lines_taken is
    where
      lines_taken : are_free (gateway_of g).board (gateway_of g).holder one.lines.items ≡ false → Taken
      lines_taken not_all = elim (first_false (list_all (is_free (gateway_of g).board (gateway_of g).holder) one.lines.items) (not (has_twice one.lines.items)) not_all) [
        | inl some ↦ line_taken some
        | inr twice ↦ inr (double (has_twice one.lines.items) twice.1)
      ]
        where
          double : (b : Bool) → not b ≡ false → b ≡ true
          double true is = refl
          double false is = absurd (true≢false is)

      is_fine : Result (Unit {0}) OpenFault → Bool
      is_fine (Ok done) = true
      is_fine (Err fault) = false

      by_tests : (all_are taken free : Bool) → all_are ≡ true → (taken ≡ true → Taken) → (free ≡ false → Taken)
          → (if not all_are then Err fault.UnknownLine else if taken then Err fault.Taken else if not free then Err fault.Taken else Ok (tt {0})) ≡ Err why → Taken
      by_tests true true free all by_number by_lines answer = by_number refl
      by_tests true false false all by_number by_lines answer = by_lines refl
      by_tests true false true all by_number by_lines answer = absurd (true≢false (ap is_fine answer))
      by_tests false taken free all by_number by_lines answer = absurd (true≢false (sym all))

-- ---- the answer

parts_at : (calls : List OpenedCall) (i : ℕ) (one : OpenedCall) → take i calls ++ one ∷ [] ≡ take (i + 1) calls → calls ≡ take i calls ++ one ∷ drop (i + 1) calls
parts_at calls i one here =
    sym (take-append-drop (i + 1) calls) ∙ ap (λ front. front ++ drop (i + 1) calls) (sym here) ∙ append_assoc (take i calls) (one ∷ []) (drop (i + 1) calls)

module _ (script : Script) (calls : List OpenedCall) (i : ℕ) (first stride : ℕ) (g h : GatewayValue) (old new : List (ℕ × CallRecord)) (one : OpenedCall)
    (among : Contains calls one) (here : take i calls ++ one ∷ [] ≡ take (i + 1) calls) (x : AreOpenedOn script (take i calls) first stride g old)
    (have : HaveAllLines script (take i calls)) (there : AreThere calls (gateway_of g)) where
  pub not_opened : (why : shard_fault.OpenFault) → IsOpenedOne script g h old new one (Err why) → AreOpenedRecords script calls first stride (Err why)
  not_opened why_not.WrongLines wrong = record { one = one; among = among; wrong = wrong }
  not_opened why_not.Taken is = record {
    before = take i calls;
    one = one;
    later = drop (i + 1) calls;
    parts = parts_at calls i one here;
    taken = taken_after script (take i calls) first stride g old x have one (there one among) is.0 is.1;
  }
  not_opened why_not.NoMemory is = tt
