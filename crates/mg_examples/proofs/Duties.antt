-- What an obligation asks of the points of entries of two lines is computed: a test of a row and a link for each duty but that of the steps, and that the
-- duty is met where the test passes.
use Rattle.std.proofs.Common.{◌≡◌, ◌∙◌, ◌<◌, ◌==◌, ℕ, Bool, true, false, if◌then◌else◌, List, [], length, Option, Some, None, refl, sym, ap, subst, inl, inr}
use Rattle.std.proofs.lemmas.Bool.{and_from, and_parts}
use Rattle.std.specs.Prelude.{◌⊎◌, ◌&&◌, ◌||◌, not, IsTrue, unwrap_or}
use Rattle.mg_examples.proofs.Words.{ContextValue, Free, LinkPhase, Sent, Answered, Failed, Resting, EventsName, Ephemeral, Unset, Spot, Absent, Null}
use Rattle.mg_examples.proofs.Words.{In, Configuration, Entry, IsCovered, Claim, ComesBefore, CreatedUnbound, EndedCleared, Holds, JoinedMarked, NamesLive}
use Rattle.mg_examples.proofs.Words.{NoneBroken, OfPoint, OpeningCovered, ResetCovered, StepCovered, obligation_of, Script, opening, reset, steps_of, is_marked}
use Rattle.mg_examples.proofs.Words.{state_of, is_null, Asks, Duty, IsCleared, NamesStep, entry_named, point_named, names_unbound, is_armed_list, items_of}
use Rattle.mg_model.specs.declared.commands.Termination.TheVariants.{Line}
use Rattle.mg_model.specs.declared.faults.Fault.{Fault}
use Rattle.mg_model.proofs.Cases.{denied, false_not_true}
use Rattle.mg_examples.specs.EntriesOfTwo.{Place, list_at}
use Rattle.mg_examples.specs.Needed.{BreaksOnly}
use Rattle.mg_examples.proofs.EntriesOfTwo.{HasTwoLines}
use Rattle.mg_examples.proofs.EntryRows.{EntryRow, by_rows, point_at, reread, rows_pass}
use Rattle.mg_examples.proofs.PointFacts.{EachCovered, EachPoint, at_points, below_two, first_stands, is_stale, none_joined, steps_covered, two_marked}

-- ---- the tests

abbrev pub is_sent : LinkPhase → Bool
is_sent Sent = true
is_sent Answered = false
is_sent Failed = false
is_sent Resting = false

abbrev pub is_resting : LinkPhase → Bool
is_resting Resting = true
is_resting Sent = false
is_resting Answered = false
is_resting Failed = false

abbrev marks_both : Script → ℕ → Bool
marks_both script state = is_marked (state_of script state).talk 0 1 && is_marked (state_of script state).talk 1 0

abbrev is_waiting : Script → EventsName → Place → Bool
is_waiting script list place = is_null place.spot && is_armed_list (items_of script (list_at place list))

abbrev pub meets : Script → Duty → EntryRow → LinkPhase → Bool
meets script JoinedMarked r link = is_null r.second.spot || marks_both script r.state
meets script EndedCleared r link =
    not (is_resting link && (state_of script r.state).is_end) || (is_waiting script r.list r.first && is_waiting script r.list r.second)
meets script CreatedUnbound r link = not (is_sent link) || names_unbound script (point_at r link)
meets script NamesLive r link = not (is_sent link || is_resting link) || not (is_stale (unwrap_or r.value Free))
meets script (StepCovered s) r link = false

-- ---- what they say

either_true : (p q : Bool) → IsTrue (p || q) → IsTrue p ⊎ IsTrue q
either_true true q h = inl refl
either_true false q h = inr h

denies : (p : Bool) → IsTrue (not p) → IsTrue p → ⊥
denies true h is = false_not_true h
denies false h is = false_not_true is

null_is : (spot : Spot) → IsTrue (is_null spot) → spot ≡ Null
null_is Null h = refl
null_is Absent h = absurd (false_not_true h)
null_is (In j) h = absurd (false_not_true h)

-- what a point of a row says of what the row has
record Says (r : EntryRow) (link : LinkPhase) (c : Configuration) : Type 0 where
  at : (c.state ≡ r.state) × (c.link ≡ link)
  first : (c.spot (Line 0) ≡ r.first.spot) × (c.events 0 ≡ list_at r.first r.list) × (c.plays 0 ≡ false)
  second : (c.spot (Line 1) ≡ r.second.spot) × (c.events 1 ≡ list_at r.second r.list) × (c.plays 1 ≡ false)
  context : (j : ℕ) → c.context j ≡ (if j == 0 then unwrap_or r.value Free else Free)
  ephemeral : (k : ℕ) → (c.spot (Ephemeral k) ≡ Absent) × (c.remote k ≡ Unset)

free_there : (test : Bool) → Free ≡ (if test then Free else Free)
free_there true = refl
free_there false = refl

says : (r : EntryRow) (link : LinkPhase) → Says r link (point_at r link)
says r link = by_value r.value
  where
    by_value : (value : Option ContextValue) → Says (record r { value = value }) link (point_at (record r { value = value }) link)
    by_value None = record {
      at = (refl, refl);
      first = (refl, refl, refl);
      second = (refl, refl, refl);
      context = λ j. free_there (j == 0);
      ephemeral = λ k. (refl, refl);
    }
    by_value (Some value) = record {
      at = (refl, refl);
      first = (refl, refl, refl);
      second = (refl, refl, refl);
      context = λ j. refl;
      ephemeral = λ k. (refl, refl);
    }

module _ (script : Script) (two : HasTwoLines script) (r : EntryRow) (link : LinkPhase) where
  abbrev its : Configuration
  its = point_at r link

  marked_so : IsTrue (meets script JoinedMarked r link) → Asks script [] JoinedMarked its
  marked_so h = elim (either_true (is_null r.second.spot) (marks_both script r.state) h) [
    | inl null ↦ none_joined script its two.lines ((says r link).second.0 ∙ null_is r.second.spot null)
    | inr both ↦ two_marked script its two.lines (subst (λ n. IsTrue (marks_both script n)) (sym (says r link).at.0) both)
  ]

  -- a fact of both lines is one of each line of the script
  of_lines : (P : ℕ → Type 0) → P 0 → P 1 → (i : ℕ) → i < length script.lines → P i
  of_lines P first second i within = below_two P first second i (subst (λ n. i < n) two.lines within)

  cleared_so : IsTrue (meets script EndedCleared r link) → Asks script [] EndedCleared its
  cleared_so h rests ends = elim (either_true (not (is_resting link && is_end r.state)) both_wait h) [
    | inl goes_on ↦ absurd (denies (is_resting link && is_end r.state) goes_on
        (and_from (is_resting link) (is_end r.state) (ap is_resting (sym (says r link).at.1 ∙ rests)) (sym (ap is_end (says r link).at.0) ∙ ends)))
    | inr waits ↦ cleared (and_parts (is_waiting script r.list r.first) (is_waiting script r.list r.second) waits)
  ]
    where
      both_wait : Bool
      both_wait = is_waiting script r.list r.first && is_waiting script r.list r.second

      is_end : ℕ → Bool
      is_end state = (state_of script state).is_end

      is_armed : EventsName → Bool
      is_armed list = is_armed_list (items_of script list)

      cleared : IsTrue (is_waiting script r.list r.first) × IsTrue (is_waiting script r.list r.second) → IsCleared script its
      cleared both =
          let said = says r link in
          let first = and_parts (is_null r.first.spot) (is_armed_list (items_of script (list_at r.first r.list))) both.0 in
          let second = and_parts (is_null r.second.spot) (is_armed_list (items_of script (list_at r.second r.list))) both.1 in
          record {
            in_null = of_lines (λ i. its.spot (Line i) ≡ Null) (said.first.0 ∙ null_is r.first.spot first.0) (said.second.0 ∙ null_is r.second.spot second.0);
            silent = of_lines (λ i. its.plays i ≡ false) said.first.2 said.second.2;
            armed = of_lines (λ i. IsTrue (is_armed_list (items_of script (its.events i)))) (ap is_armed said.first.1 ∙ first.1) (ap is_armed said.second.1 ∙ second.1);
            no_ephemeral = λ k. ((says r link).ephemeral k).0;
          }

  unbound_so : IsTrue (meets script CreatedUnbound r link) → Asks script [] CreatedUnbound its
  unbound_so h sends = elim (either_true (not (is_sent link)) (names_unbound script its) h) [
    | inl other ↦ absurd (denies (is_sent link) other (ap is_sent (sym (says r link).at.1 ∙ sends)))
    | inr unbound ↦ unbound
  ]

  live_so : IsTrue (meets script NamesLive r link) → Asks script [] NamesLive its
  live_so h asks = elim (either_true (not (is_asked link)) (not (is_stale (unwrap_or r.value Free))) h) [
    | inl other ↦ absurd (denies (is_asked link) other (asked asks))
    | inr live ↦ first_stands its (unwrap_or r.value Free) (denied (is_stale (unwrap_or r.value Free)) live) (says r link).context
        (λ k. ((says r link).ephemeral k).1) asks
  ]
    where
      is_asked : LinkPhase → Bool
      is_asked phase = is_sent phase || is_resting phase

      asked : (its.link ≡ Sent) ⊎ (its.link ≡ Resting) → IsTrue (is_asked link)
      asked (inl sends) = ap is_asked (sym (says r link).at.1 ∙ sends)
      asked (inr rests) = ap is_asked (sym (says r link).at.1 ∙ rests)

meets_so : (script : Script) → HasTwoLines script → (entries : List Entry) (duty : Duty) (r : EntryRow) (link : LinkPhase) → IsTrue (meets script duty r link)
    → Asks script entries duty (point_at r link)
meets_so script two entries JoinedMarked r link h = marked_so script two r link h
meets_so script two entries EndedCleared r link h = cleared_so script two r link h
meets_so script two entries CreatedUnbound r link h = unbound_so script two r link h
meets_so script two entries NamesLive r link h = live_so script two r link h
meets_so script two entries (StepCovered s) r link h = absurd (false_not_true h)

-- ---- certificates

-- each step of each point leads to what is covered
abbrev pub Stepped : Script → List Entry → Type 0
Stepped script entries = EachPoint (λ c. EachCovered entries (steps_of script c)) entries

-- the entries of two lines, with what is covered
pub record Closed (script : Script) (entries : List Entry) : Type 0 where
  pub two : HasTwoLines script
  pub reads : reread entries ≡ entries
  pub opening : IsCovered entries (opening script)
  pub reset : IsCovered entries (reset script)
  pub stepped : Stepped script entries

-- a duty that the entries meet at each of their points
pub each_meets : (script : Script) → HasTwoLines script → (every front : List Entry) (duty : Duty) → reread front ≡ front
    → IsTrue (rows_pass (meets script duty) front) → EachPoint (Asks script every duty) front
each_meets script two every front duty reads h = by_rows (Asks script every duty) (meets script duty) (meets_so script two every duty) front reads h

pub holds : (script : Script) (entries : List Entry) → HasTwoLines script → reread entries ≡ entries → (duty : Duty)
    → IsTrue (rows_pass (meets script duty) entries) → (e p : ℕ) → Holds script entries (OfPoint e p duty)
holds script entries two reads duty h e p = at_points (Asks script entries duty) entries (each_meets script two entries entries duty reads h) e p

pub all_hold : (script : Script) (entries : List Entry) → Closed script entries → IsTrue (rows_pass (meets script JoinedMarked) entries)
    → IsTrue (rows_pass (meets script EndedCleared) entries) → IsTrue (rows_pass (meets script CreatedUnbound) entries)
    → IsTrue (rows_pass (meets script NamesLive) entries) → NoneBroken script entries
all_hold script entries closed joined ended created named OpeningCovered = closed.opening
all_hold script entries closed joined ended created named ResetCovered = closed.reset
all_hold script entries closed joined ended created named (OfPoint e p JoinedMarked) = holds script entries closed.two closed.reads JoinedMarked joined e p
all_hold script entries closed joined ended created named (OfPoint e p EndedCleared) = holds script entries closed.two closed.reads EndedCleared ended e p
all_hold script entries closed joined ended created named (OfPoint e p CreatedUnbound) = holds script entries closed.two closed.reads CreatedUnbound created e p
all_hold script entries closed joined ended created named (OfPoint e p NamesLive) = holds script entries closed.two closed.reads NamesLive named e p
all_hold script entries closed joined ended created named (OfPoint e p (StepCovered s)) = steps_covered script entries closed.stepped e p s

-- a claim is broken, and every one of another obligation holds, and every one before it
pub breaks_only : (script : Script) (entries : List Entry) (claim : Claim) (fault : Fault) → (fault.obligation ≡ obligation_of claim)
    → (fault.entry ≡ entry_named claim) × (fault.point ≡ point_named claim) × NamesStep script entries claim fault.step
    → (Holds script entries claim → ⊥)
    → ((other : Claim) → (obligation_of other ≡ obligation_of claim → ⊥) ⊎ ComesBefore other claim → Holds script entries other)
    → BreaksOnly script entries fault
breaks_only script entries claim fault is named broken others = record {
  first = record {
    claim = claim;
    broken = broken;
    before = λ earlier before. others earlier (inr before);
    obligation = is;
    entry = named.0;
    point = named.1;
    step = named.2;
  };
  others = λ other differs. others other (inl (λ same. differs (same ∙ sym is)));
}
