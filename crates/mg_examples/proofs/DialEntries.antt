-- The script that waits for a number is accepted, and its entries break no obligation.
use Rattle.std.proofs.Common.{◌≡◌, refl, arith}
use Rattle.std.specs.List.{All}
use Rattle.mg_examples.proofs.Words.{Answered, Armed, Configuration, Empty, IsCovered, IsEntryOf, IsScript, NoneBroken, Resting}
use Rattle.mg_examples.proofs.Words.{numbered, opening, reset, with_link}
use Rattle.mg_model.specs.Effects.{effect}
use Rattle.mg_examples.specs.Dials.{asks_keys, dial_entries, dials, not_asked}
use Rattle.mg_examples.proofs.Duties.{Stepped, all_hold}
use Rattle.mg_examples.proofs.EntriesOfTwo.{HasTwoLines, pairs_uncut, unused_formed}
use Rattle.mg_examples.proofs.EntryRows.{all_entries, covered_by, lands, reread}
use Rattle.mg_examples.proofs.PointFacts.{Below, EachCovered, EachPoint, one_point, plain_formed, two_points, ◌▹◌}
use Rattle.mg_examples.proofs.QuietStates.{is_accepted}

two : HasTwoLines dials
two = record { lines = refl; ephemerals = refl }

pub accepted : IsScript dials
accepted = is_accepted dials (omega (arith)) (omega (arith)) (omega (arith)) refl

reads : reread dial_entries ≡ dial_entries
reads = refl

pub listed : All (IsEntryOf dials) dial_entries
listed = all_entries dials two dial_entries reads refl

-- ---- steps

-- after the request of `dial`
abbrev asked : Configuration
asked = with_link (effect dials (numbered not_asked 0) asks_keys) Answered

asked_covered : IsCovered dial_entries asked
asked_covered =
    covered_by dial_entries reads 3 0 refl asked refl
    (plain_formed asked (λ j. refl) (record { mode = λ k. refl; remote = λ k. refl; uncut = pairs_uncut }))

-- a call in `idle` goes off hook or comes to rest; one in `dial` is refused or executed, or has a number; and one in `stopped` comes to rest
all_stepped : Stepped dials dial_entries
unfolding Below EachPoint EachCovered
all_stepped =
    two_points (lands dial_entries reads 0 1 refl, tt) tt
    ▹ one_point (lands dial_entries reads 2 0 refl, tt)
    ▹ two_points (lands dial_entries reads 2 1 refl, (asked_covered, tt)) (lands dial_entries reads 4 0 refl, tt)
    ▹ two_points (lands dial_entries reads 3 1 refl, tt) (lands dial_entries reads 5 0 refl, tt)
    ▹ two_points (lands dial_entries reads 4 1 refl, tt) tt
    ▹ two_points (lands dial_entries reads 5 1 refl, tt) tt
    ▹ tt

pub none_broken : NoneBroken dials dial_entries
none_broken = all_hold dials dial_entries (record {
  two = two;
  reads = reads;
  opening = covered_by dial_entries reads 1 0 refl (opening dials) refl (unused_formed 0 Resting Armed);
  reset = covered_by dial_entries reads 0 0 refl (reset dials) refl (unused_formed 0 Answered Empty);
  stepped = all_stepped;
}) refl refl refl refl
