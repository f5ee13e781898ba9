-- The obligation that ended calls are cleared is needed: under the script and the entries of `specs/Unarmed` only that at rest in `done` a line
-- isn't armed is wrong. The run: the gateway restarts, the call hears of it, and ends with lines that report nothing.
use Rattle.std.proofs.Common.{◌≡◌, List, [], ◌∷◌, refl, sym, ap, arith, true≢false, None, inl, inr}
use Rattle.std.specs.Prelude.{unwrap_or, ◌⊎◌}
use Rattle.std.specs.List.{All}
use Rattle.mg_examples.proofs.Words.{Answered, Resting, Empty, Armed, Agent, heard, passed, numbered, restarted, ListItem, Claim, OpeningCovered, ResetCovered}
use Rattle.mg_examples.proofs.Words.{OfPoint, JoinedMarked, EndedCleared, CreatedUnbound, NamesLive, StepCovered, Holds, obligation_of, ComesBefore, opening}
use Rattle.mg_examples.proofs.Words.{reset, Event, Restart, World, hear, pass, IsGood, with_gateway, agent_steps, IsScript, IsEntryOf, EndedIsCleared, is_empty}
use Rattle.mg_names.specs.declared.obligations.Obligation.TheVariants as obligation
use Rattle.mg_model.specs.World.{Runs}
use Rattle.mg_examples.specs.Needed.{IsNeeded, fault_at}
use Rattle.mg_examples.proofs.PointFacts.{Below, EachPoint, EachCovered, steps_covered, one_point, two_points, ◌▹◌}
use Rattle.mg_examples.proofs.EntriesOfTwo.{HasTwoLines, unused_formed}
use Rattle.mg_examples.specs.Unarmed.{unarmed, ended, resting_idle, unarmed_entries}
use Rattle.mg_examples.specs.Talk.{call}
use Rattle.mg_examples.proofs.TwoLinesOpening.{gateway, agent, opened_world, opens, one_call}
use Rattle.mg_examples.proofs.FirstFaults.{holds_before, place_before}
use Rattle.mg_examples.proofs.Duties.{is_resting, Stepped, each_meets, holds, breaks_only}
use Rattle.mg_examples.proofs.EntryRows.{reread, all_entries, row_formed, row_in, covered_by, lands}
use Rattle.mg_examples.proofs.QuietStates.{is_accepted}

-- ---- the script and the entries are accepted

two : HasTwoLines unarmed
two = record { lines = refl; ephemerals = refl }

accepted : IsScript unarmed
accepted = is_accepted unarmed (omega (arith)) (omega (arith)) (omega (arith)) refl

reads : reread unarmed_entries ≡ unarmed_entries
reads = refl

listed : All (IsEntryOf unarmed) unarmed_entries
listed = all_entries unarmed two unarmed_entries reads refl

-- ---- the obligations that hold

-- the reply is taken in `done`
all_covered : Stepped unarmed unarmed_entries
unfolding Below EachPoint EachCovered
all_covered = one_point tt ▹ two_points (lands unarmed_entries reads 1 1 refl, tt) tt ▹ tt

-- while its reply counts as outstanding a call isn't at rest
is_answered : Answered ≡ Resting → ⊥
is_answered e = true≢false (sym (ap is_resting e))

-- every claim of another obligation holds, and so does every one that comes before the first that is broken
others : (other : Claim) → (obligation_of other ≡ obligation.EndedCleared → ⊥) ⊎ ComesBefore other (OfPoint 1 1 EndedCleared) → Holds unarmed unarmed_entries other
unfolding Below
others OpeningCovered h = covered_by unarmed_entries reads 0 0 refl (opening unarmed) refl (unused_formed 0 Resting Armed)
others ResetCovered h = covered_by unarmed_entries reads 1 0 refl (reset unarmed) refl (unused_formed 1 Answered Empty)
others (OfPoint e p JoinedMarked) h = holds unarmed unarmed_entries two reads JoinedMarked refl e p
others (OfPoint e p EndedCleared) (inl differs) = absurd (differs refl)
others (OfPoint e p EndedCleared) (inr before) =
    holds_before (EndedIsCleared unarmed) (resting_idle ∷ []) ended [] 1
    (each_meets unarmed two unarmed_entries (resting_idle ∷ []) EndedCleared refl refl)
    ((λ formed rests ends. absurd (is_answered rests)), tt) e p (place_before e p 1 0 1 1 before)
others (OfPoint e p CreatedUnbound) h = holds unarmed unarmed_entries two reads CreatedUnbound refl e p
others (OfPoint e p NamesLive) h = holds unarmed unarmed_entries two reads NamesLive refl e p
others (OfPoint e p (StepCovered s)) h = steps_covered unarmed unarmed_entries all_covered e p s

-- ---- the one that is broken

broken : Holds unarmed unarmed_entries (OfPoint 1 1 EndedCleared) → ⊥
broken holds =
    let cleared = holds ended refl (numbered ended 1) (omega (arith), refl, row_formed (row_in unarmed_entries 1) Resting refl) refl refl in
    true≢false (sym (cleared.armed 0 (omega (arith))))

-- ---- the run

abbrev w0 : World
w0 = opened_world unarmed (call ∷ [])

abbrev w1 : World
w1 = with_gateway w0 (restarted (gateway (call ∷ [])))

abbrev told : Agent
told = unwrap_or (heard unarmed (agent unarmed call) 2) (agent unarmed call)

abbrev w2 : World
w2 = agent_steps w1 7 told

abbrev at_rest : Agent
at_rest = unwrap_or (passed unarmed told) told

abbrev w3 : World
w3 = agent_steps w2 7 at_rest

abbrev events : List Event
events = Restart ∷ hear 7 2 ∷ pass 7 ∷ []

run : Runs unarmed events w0 w3
unfolding Runs
run = (
  w1,
  (
    (omega (arith), refl),
    (
      w2,
      (
        (omega (arith), record { before = agent unarmed call; agent = told; open_call = refl; steps = refl; after_is = refl }),
        (w3, (record { before = told; agent = at_rest; open_call = refl; steps = refl; after_is = refl }, refl)),
      ),
    ),
  ),
)

-- line 1 has an empty list
bad : IsGood unarmed w3 → ⊥
bad good =
    let cleared = good.ended 7 at_rest refl (record { is_end = refl; at_rest = refl; current = refl }) in
    true≢false (ap (λ (list : List ListItem). is_empty list) (cleared.is_armed 0 (omega (arith))))

pub clear_needed : IsNeeded unarmed unarmed_entries (fault_at obligation.EndedCleared 1 1 None)
clear_needed = record {
  accepted = accepted;
  listed = listed;
  breaks = breaks_only unarmed unarmed_entries (OfPoint 1 1 EndedCleared) (fault_at obligation.EndedCleared 1 1 None) refl (refl, refl, refl) broken others;
  ends = record { calls = call ∷ []; events = events; opening = w0; end = w3; opens = opens unarmed refl (call ∷ []) (one_call unarmed refl); runs = run; bad = bad };
}
