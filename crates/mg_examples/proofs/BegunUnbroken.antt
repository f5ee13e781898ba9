-- The script in which a call ends where its line goes off hook, and talks where its timer ends first: it is accepted, and its entries break no
-- obligation.
use Rattle.std.proofs.Common.{◌≡◌, refl, arith}
use Rattle.std.specs.List.{All}
use Rattle.mg_examples.proofs.Words.{Answered, Failed, Resting, Empty, Armed, IsScript, IsEntryOf, IsCovered, NoneBroken, opening, reset, with_link}
use Rattle.mg_examples.specs.BegunTalk.{renewing, renewing_entries}
use Rattle.mg_examples.proofs.EntriesOfTwo.{HasTwoLines, unused_formed}
use Rattle.mg_examples.proofs.PointFacts.{EachCovered, still_formed, one_point, two_points, ◌▹◌, Below, EachPoint}
use Rattle.mg_examples.proofs.TalkEntries.{after_first, after_second, first_formed, second_formed}
use Rattle.mg_examples.proofs.Duties.{Stepped, all_hold}
use Rattle.mg_examples.proofs.EntryRows.{reread, all_entries, covered_by, lands}
use Rattle.mg_examples.proofs.QuietStates.{is_accepted}

-- ---- the script

two : HasTwoLines renewing
two = record { lines = refl; ephemerals = refl }

pub accepted : IsScript renewing
accepted = is_accepted renewing (omega (arith)) (omega (arith)) (omega (arith)) refl

-- ---- the entries

reads : reread renewing_entries ≡ renewing_entries
reads = refl

pub listed : All (IsEntryOf renewing) renewing_entries
listed = all_entries renewing two renewing_entries reads refl

-- a refusal of the second command of `talk`, and the whole request
refused_second : IsCovered renewing_entries (with_link after_first Failed)
refused_second = covered_by renewing_entries reads 2 0 refl (with_link after_first Failed) refl (still_formed after_first 1 Failed first_formed)

executed_both : IsCovered renewing_entries (with_link after_second Answered)
executed_both = covered_by renewing_entries reads 3 0 refl (with_link after_second Answered) refl (still_formed after_second 1 Answered second_formed)

-- a call in `ready` ends or asks to talk; its request is refused or executed, and else a call comes to rest
all_stepped : Stepped renewing renewing_entries
unfolding Below EachPoint EachCovered
all_stepped =
    one_point (lands renewing_entries reads 7 0 refl, (lands renewing_entries reads 1 0 refl, tt))
    ▹ two_points (lands renewing_entries reads 1 1 refl, (refused_second, (executed_both, tt))) (lands renewing_entries reads 5 0 refl, tt)
    ▹ one_point (lands renewing_entries reads 6 0 refl, tt)
    ▹ two_points (lands renewing_entries reads 3 1 refl, tt) tt
    ▹ two_points (lands renewing_entries reads 4 1 refl, tt) tt
    ▹ two_points (lands renewing_entries reads 5 1 refl, tt) tt
    ▹ two_points (lands renewing_entries reads 6 1 refl, tt) tt
    ▹ two_points (lands renewing_entries reads 7 1 refl, tt) tt
    ▹ tt

pub none_broken : NoneBroken renewing renewing_entries
none_broken = all_hold renewing renewing_entries (record {
  two = two;
  reads = reads;
  opening = covered_by renewing_entries reads 0 0 refl (opening renewing) refl (unused_formed 0 Resting Armed);
  reset = covered_by renewing_entries reads 4 0 refl (reset renewing) refl (unused_formed 2 Answered Empty);
  stepped = all_stepped;
}) refl refl refl refl
