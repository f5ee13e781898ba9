-- The world that opens with these calls of a script of two lines, on lines that differ; and a world after the first line of a call went off
-- hook.
use Rattle.std.proofs.Common.{eqb-true, eq-eqb, ◌≡◌, ◌∙◌, ◌+◌, ◌<◌, ◌==◌, ℕ, Bool, true, false, List, [], ◌∷◌, length, Option, Some, None, option_map, refl, sym, ap, arith, inl, inr, true≢false}
use Rattle.std.proofs.lemmas.Bool.{or_left, or_right}
use Rattle.std.proofs.lemmas.Grind.{common_steps}
use Rattle.std.specs.Prelude.{◌⊎◌, ◌||◌, Contains, find}
use Rattle.mg_examples.proofs.Words.{TermId, Eph, Row, Agent, Board, null_row, place_in, place_of, IsSettled, null, Gateway, LineRow, Script, World, Opened}
use Rattle.mg_examples.proofs.Words.{AreDistinct, with_gateway, opened, with_line, with_notes, outcome_of, row_restarted, board_restarted, new_line, IsLineOf}
use Rattle.mg_examples.proofs.Words.{LineOccurs, IsOpening, armed_line}
use Rattle.mg_names.specs.declared.identifiers.TermId.TheVariants.{Line}
use Rattle.mg_model.specs.declared.line_events.Hook.TheVariants as hooks
use Rattle.mg_model.specs.declared.line_events.LineEvent.TheVariants as event
use Rattle.mg_examples.specs.Talk.{call, off_hook}
use Rattle.mg_model.proofs.Cases.{none_is_some, the_some}
use Rattle.mg_model.proofs.Single.{only_one}
use Rattle.mg_model.proofs.OpenedLines.{opened_lines}
use Rattle.mg_examples.proofs.Finding.{found_in, finds_only}
use Rattle.mg_examples.proofs.PointFacts.{below_two}

-- ---- the world

-- a line is one of the two of a call
abbrev is_its : ℕ → Opened → Bool
is_its l one = (l == one.lines 0) || (l == one.lines 1)

abbrev is_call : ℕ → Opened → Bool
is_call number one = number == one.call

-- the call that has a line
abbrev pub user_of : List Opened → ℕ → Option Opened
user_of calls l = find (is_its l) calls

abbrev row_if : Option Opened → Option Row
row_if None = None
row_if (Some one) = Some null_row

abbrev pub line_if : Option Opened → LineRow
line_if None = new_line
line_if (Some one) = armed_line

abbrev rows : List Opened → TermId → Option Row
rows calls (Line l) = row_if (user_of calls l.0)
rows calls (Eph k) = None

abbrev pub board : List Opened → Board
board calls = record { row = rows calls; cut = λ t u. false; used_context = λ n. false; used_ephemeral = λ n. false; class = λ n. true }

in_null : (o : Option Opened) → place_in (row_if o) ≡ null
in_null None = refl
in_null (Some one) = refl

pub all_null : (calls : List Opened) (t : TermId) → place_of (board calls) t ≡ null
all_null calls (Line l) = in_null (user_of calls l.0)
all_null calls (Eph k) = refl

-- nothing stands, and no number is barred
pub opening_settled : (calls : List Opened) → IsSettled (board calls) (board calls)
opening_settled calls = record {
  row = refl;
  cut = refl;
  class = refl;
  contexts = λ n. (λ h. absurd (true≢false (sym h)), λ there. absurd (there.0 (sym there.1.1 ∙ all_null calls there.1.0)));
  ephemerals = λ k. refl;
}

null_again : (l : ℕ) (o : Option Opened) → place_in (row_restarted (Line (record { 0 = l })) (row_if o)) ≡ null
null_again l None = refl
null_again l (Some one) = refl

all_null_again : (calls : List Opened) (t : TermId) → place_of (board_restarted (board calls)) t ≡ null
all_null_again calls (Line l) = null_again l.0 (user_of calls l.0)
all_null_again calls (Eph k) = refl

pub restart_settled : (calls : List Opened) → IsSettled (board_restarted (board calls)) (board_restarted (board calls))
restart_settled calls = record {
  row = refl;
  cut = refl;
  class = refl;
  contexts = λ n. (λ h. absurd (true≢false (sym h)), λ there. absurd (there.0 (sym there.1.1 ∙ all_null_again calls there.1.0)));
  ephemerals = λ k. refl;
}

abbrev pub gateway : List Opened → Gateway
gateway calls = record {
  association = 1;
  board = board calls;
  line = λ l. line_if (user_of calls l);
  holder = λ l. option_map (λ (one : Opened). one.call) (user_of calls l);
  creator = λ k. None;
  link = λ c. record { last = None; notes = 0 };
  retired = λ c. false;
}

abbrev pub agent : Script → Opened → Agent
agent script one = opened script one.call one.lines

abbrev pub opened_world : Script → List Opened → World
opened_world script calls = record {
  gateway = gateway calls;
  agent = λ number. option_map (agent script) (find (is_call number) calls);
  requests = [];
  replies = [];
  notes = [];
}

-- ---- it is an opening

has_its_lines : (one : Opened) (i : ℕ) → i < 2 → is_its (one.lines i) one ≡ true
has_its_lines one =
    below_two (λ i. is_its (one.lines i) one ≡ true) (or_left (one.lines 0 == one.lines 0) (one.lines 0 == one.lines 1) (eq-eqb (one.lines 0) (one.lines 0) refl))
    (or_right (one.lines 1 == one.lines 0) (one.lines 1 == one.lines 1) (eq-eqb (one.lines 1) (one.lines 1) refl))

place_of_its : (one : Opened) (l : ℕ) → is_its l one ≡ true → (i : ℕ) × (i < 2) × (one.lines i ≡ l)
place_of_its one l is = elim (either l (one.lines 0) (one.lines 1) is) [
  | inl first ↦ (0, omega (arith), sym first)
  | inr second ↦ (1, omega (arith), sym second)
]
  where
    either : (l a b : ℕ) → ((l == a) || (l == b)) ≡ true → (l ≡ a) ⊎ (l ≡ b)
    either l a b is = grind (arith, common_steps)

null_or_none : (user : Option Opened) (row : Row) → row_if user ≡ Some row → row ≡ null_row
null_or_none None row e = absurd (none_is_some row e)
null_or_none (Some one) row e = the_some row null_row (sym e)

-- what is read of an option is read of what it has
read_of : {A : Type 0} (f : Opened → A) (o : Option Opened) (x : A) → option_map f o ≡ Some x → (one : Opened) × (o ≡ Some one) × (f one ≡ x)
read_of f None x e = absurd (none_is_some x e)
read_of f (Some one) x e = (one, refl, the_some (f one) x e)

module _ (script : Script) (two : length script.lines ≡ 2) (calls : List Opened) (distinct : AreDistinct script calls) where
  below : (i : ℕ) → i < length script.lines → i < 2
  below i within = omega (arith, within, two)

  -- a call is found by its lines and by its number
  by_line : (one : Opened) → Contains calls one → (i : ℕ) → i < length script.lines → user_of calls (one.lines i) ≡ Some one
  by_line one there i within = finds_only (is_its (one.lines i)) one (has_its_lines one i (below i within)) calls there only
    where
      only : (other : Opened) → Contains calls other → is_its (one.lines i) other ≡ true → other ≡ one
      only other too is =
          let at = place_of_its other (one.lines i) is in
          let inside : at.0 < 2 = at.1 in
          (distinct.lines_differ other one too there at.0 i (omega (arith, inside, two)) within at.2).0

  by_number : (one : Opened) → Contains calls one → find (is_call one.call) calls ≡ Some one
  by_number one there = finds_only (is_call one.call) one (eq-eqb one.call one.call refl) calls there
      (λ other too is. distinct.calls_differ other one too there (sym (eqb-true one.call other.call is)))

  held_by : (l number : ℕ) → (gateway calls).holder l ≡ Some number → IsLineOf script calls l number
  held_by l number e =
      let user = read_of (λ (one : Opened). one.call) (user_of calls l) number e in
      let found = found_in (is_its l) user.0 calls user.1 in
      let at = place_of_its user.0 l found.1 in
      let inside : at.0 < 2 = at.1 in
      record { one = user.0; i = at.0; among = found.0; is_call = user.2; within = omega (arith, inside, two); is_line = at.2 }

  open_by : (number : ℕ) (a : Agent) → (opened_world script calls).agent number ≡ Some a → (one : Opened) × Contains calls one × (one.call ≡ number)
  open_by number a e =
      let user = read_of (agent script) (find (is_call number) calls) a e in
      let found = found_in (is_call number) user.0 calls user.1 in
      (user.0, found.0, sym (eqb-true number user.0.call found.1))

  pub opens : IsOpening script calls (opened_world script calls)
  opens = record {
    distinct = distinct;
    lines = opened_lines script calls (gateway calls)
        (λ one there i within. ap row_if (by_line one there i within))
        (λ one there i within. ap line_if (by_line one there i within))
        (λ one there i within. ap (option_map (λ (who : Opened). who.call)) (by_line one there i within))
        (λ l row e. null_or_none (user_of calls l) row e)
        held_by;
    gateway = record {
      association = refl;
      no_ephemeral = λ k. refl;
      nothing_cut = refl;
      no_context_given = refl;
      no_ephemeral_given = refl;
      no_creator = refl;
      no_reply_kept = refl;
      none_retired = refl;
    };
    agents = record { opened = λ one there. ap (option_map (agent script)) (by_number one there); no_other = open_by };
    messages = record { no_request = refl; no_answer = refl; no_note = refl };
  }

-- a line that a call holds is in the null context and armed
pub held_row : (calls : List Opened) (l number : ℕ) → (gateway calls).holder l ≡ Some number → (board calls).row (Line (record { 0 = l })) ≡ Some null_row
held_row calls l number e = of_user (user_of calls l) e
  where
    of_user : (user : Option Opened) → option_map (λ (one : Opened). one.call) user ≡ Some number → row_if user ≡ Some null_row
    of_user None none = absurd (none_is_some number none)
    of_user (Some one) is = refl

pub held_line : (calls : List Opened) (l number : ℕ) → (gateway calls).holder l ≡ Some number → (gateway calls).line l ≡ armed_line
held_line calls l number e = of_user (user_of calls l) e
  where
    of_user : (user : Option Opened) → option_map (λ (one : Opened). one.call) user ≡ Some number → line_if user ≡ armed_line
    of_user None none = absurd (none_is_some number none)
    of_user (Some one) is = refl

-- ---- the calls of an opening differ

-- a call alone
pub one_call : (script : Script) → length script.lines ≡ 2 → AreDistinct script (call ∷ [])
one_call script two = record {
  calls_differ = λ who other there too same. sym (only_one call who there) ∙ only_one call other too;
  lines_differ = λ who other there too i j within inside same. (
    sym (only_one call who there) ∙ only_one call other too,
    same_place i j (ap (λ (x : Opened). x.lines i) (only_one call who there) ∙ same ∙ sym (ap (λ (x : Opened). x.lines j) (only_one call other too))),
  );
}
  where
    same_place : (i j : ℕ) → i + 1 ≡ j + 1 → i ≡ j
    same_place i j e = omega (arith, e)

-- ---- the first line of a call goes off hook

abbrev pub off : LineRow
off = record armed_line { hook = hooks.Off }

abbrev off_hook_gateway : Gateway → Opened → Gateway
off_hook_gateway g one = with_notes (with_line g (one.lines 0) off) one.call 1

abbrev pub off_hook_world : World → Opened → World
off_hook_world w one = record (with_gateway w (off_hook_gateway w.gateway one)) { notes = off_hook one ∷ w.notes }

-- the line is held by the call, armed and on hook, in association 1, and no note to the call was sent
pub record IsWaiting (g : Gateway) (one : Opened) : Type 0 where
  pub association : g.association ≡ 1
  pub held : g.holder (one.lines 0) ≡ Some one.call
  pub is_armed : g.line (one.lines 0) ≡ armed_line
  pub none_sent : (g.link one.call).notes ≡ 0

pub goes_off : (w : World) (one : Opened) → IsWaiting w.gateway one
    → (w.gateway.holder (one.lines 0) ≡ Some one.call) × LineOccurs w (one.lines 0) (event.Hook hooks.Off) (off_hook_world w one)
goes_off w one waiting = (
  waiting.held,
  record {
    gateway = off_hook_gateway w.gateway one;
    sent = off_hook one ∷ [];
    happens = record {
      call = one.call;
      outcome = record { row = off; note = Some (off_hook one).note };
      held = waiting.held;
      happens = ap (λ row. outcome_of row (event.Hook hooks.Off)) waiting.is_armed;
      notes_are = rw (waiting.association, waiting.none_sent) refl;
      room = let none = waiting.none_sent in omega (arith, none);
      after_is = refl;
    };
    after_is = refl;
  },
)
