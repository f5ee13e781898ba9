-- The entries that hold all that is reachable where line a goes off hook in `idle`: their steps lead to such entries, `talk` creates no name that
-- is bound, and no name is stale.
use Rattle.std.proofs.Common.{◌≡◌, ◌∙◌, ℕ, List, [], Some, None, true, false, refl, sym, ap, true≢false}
use Rattle.std.specs.List.{All}
use Rattle.std.specs.Prelude.{◌==◌, ◌||◌, if◌then◌else◌}
use Rattle.mg_examples.proofs.Words.{Free, Live, SendReceive, Answered, Failed, Resting, Command, AddLine, Empty, Armed, IsEntryOf, Configuration, IsWellFormed}
use Rattle.mg_examples.proofs.Words.{is_live, value_of, IsCovered, numbered, CreatedAreUnbound, Script, with_link, opening, reset, Pair}
use Rattle.mg_model.specs.Effects.{effect}
use Rattle.mg_examples.specs.TwoLines.{calling}
use Rattle.mg_examples.specs.TalkEntries.{sent, reachable}
use Rattle.mg_examples.proofs.EntriesOfTwo.{pairs_uncut, is_first_settled, HasTwoLines, either_way, unused_formed}
use Rattle.mg_examples.proofs.PointFacts.{plain_formed, EachCovered, still_formed, one_point, two_points, ◌▹◌, Below, EachPoint}
use Rattle.mg_examples.proofs.Duties.{is_sent, Stepped, Closed}
use Rattle.mg_examples.proofs.EntryRows.{reread, all_entries, covered_by, lands}

-- ---- entries

pub reads : reread reachable ≡ reachable
reads = refl

pub two : (marks : List Pair) → HasTwoLines (calling marks)
two marks = record { lines = refl; ephemerals = refl }

-- they are entries of the script, whatever it marks
pub all_listed : (marks : List Pair) → All (IsEntryOf (calling marks)) reachable
all_listed marks = all_entries (calling marks) (two marks) reachable reads refl

-- ---- the commands

abbrev first : Command
first = AddLine true 0 0 record { mode = Some SendReceive; events = None; signals = None }

abbrev second : Command
second = AddLine false 0 1 record { mode = Some SendReceive; events = None; signals = None }

abbrev pub asked : Configuration
asked = numbered sent 0

abbrev pub after_first : Configuration
after_first = effect (calling []) asked first

abbrev pub after_second : Configuration
after_second = effect (calling []) after_first second

is_second_settled : (j : ℕ)
    → is_live (value_of (if j == 0 then Live else value_of (if j == 0 then Live else (if j == 0 then Free else Free)) ((0 == j) || false))
    ((0 == j) || ((0 == j) || false)))
    ≡ ((0 == j) || ((0 == j) || false))
is_second_settled =
    either_way (λ test turned.
    is_live (value_of (if test then Live else value_of (if test then Live else (if test then Free else Free)) (turned || false)) (turned || (turned || false)))
    ≡ (turned || (turned || false))) refl refl

pub first_formed : IsWellFormed after_first
first_formed = plain_formed after_first is_first_settled (record { mode = λ k. refl; remote = λ k. refl; uncut = pairs_uncut })

pub second_formed : IsWellFormed after_second
second_formed = plain_formed after_second is_second_settled (record { mode = λ k. refl; remote = λ k. refl; uncut = pairs_uncut })

-- ---- steps

-- a refusal of the second command, and the whole request
pub refused_second : IsCovered reachable (with_link after_first Failed)
refused_second = covered_by reachable reads 3 0 refl (with_link after_first Failed) refl (still_formed after_first 1 Failed first_formed)

pub executed_both : IsCovered reachable (with_link after_second Answered)
executed_both = covered_by reachable reads 4 0 refl (with_link after_second Answered) refl (still_formed after_second 1 Answered second_formed)

-- where no request is sent, no created name is asked about
pub not_sent : (script : Script) (c : Configuration) → is_sent c.link ≡ false → CreatedAreUnbound script c
not_sent script c other sent = absurd (true≢false (sym (ap is_sent sent) ∙ other))

-- a call in `idle` goes off hook or comes to rest; one in `talk` is refused or executed, and one in `stopped` comes to rest
pub all_stepped : (marks : List Pair) → Stepped (calling marks) reachable
unfolding Below EachPoint EachCovered
all_stepped marks =
    two_points (lands reachable reads 0 1 refl, tt) tt
    ▹ one_point (lands reachable reads 2 0 refl, tt)
    ▹ two_points (lands reachable reads 2 1 refl, (refused_second, (executed_both, tt))) (lands reachable reads 5 0 refl, tt)
    ▹ one_point (lands reachable reads 6 0 refl, tt)
    ▹ two_points (lands reachable reads 4 1 refl, tt) tt
    ▹ two_points (lands reachable reads 5 1 refl, tt) tt
    ▹ two_points (lands reachable reads 6 1 refl, tt) tt
    ▹ tt

pub closed : (marks : List Pair) → Closed (calling marks) reachable
closed marks = record {
  two = two marks;
  reads = reads;
  opening = covered_by reachable reads 1 0 refl (opening (calling marks)) refl (unused_formed 0 Resting Armed);
  reset = covered_by reachable reads 0 0 refl (reset (calling marks)) refl (unused_formed 0 Answered Empty);
  stepped = all_stepped marks;
}
