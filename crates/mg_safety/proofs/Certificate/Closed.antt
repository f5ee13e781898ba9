-- Where no obligation is broken, the configurations that stand in the certificate are closed under steps, and each of them is safe.
use Rattle.mg_safety.proofs.Words.{◌≡◌, ◌∙◌, ℕ, List, Some, ap, Contains, slice_get, All, All-contains, Configuration, Entry, IsPointOf, OpeningCovered, IsCovered, opening, reset}
use Rattle.mg_safety.proofs.Words.{ResetCovered, OfPoint, JoinedMarked, EndedCleared, CreatedUnbound, NamesLive, StepCovered, Script, steps_of, IsEntryOf}
use Rattle.std.proofs.lemmas.Option.{slice_get-get_or}
use Rattle.mg_safety.proofs.Invariant.Sound.{IsOfScript}
use Rattle.mg_safety.proofs.InvariantWords.{Stands, NoneBrokenIsClosed}
use Rattle.mg_safety.proofs.Certificate.OfSteps.{of_opening, of_reset, of_steps, LeadsToOne}
use Rattle.mg_safety.proofs.Certificate.Points.{is_point}

-- what a list has stands in it at its place
contained_at : {A : Type 0} (xs : List A) (x : A) (among : Contains xs x) → slice_get xs among.0 ≡ Some x
contained_at xs x among = slice_get-get_or xs among.0 x among.1 ∙ ap (λ y. Some y) among.2

-- a configuration is the point with some number in the entry at some place
record IsPointIn (entries : List Entry) (c : Configuration) : Type 0 where
  place : ℕ
  number : ℕ
  entry : Entry
  at : slice_get entries place ≡ Some entry
  point : IsPointOf entry number c

point_in : (script : Script) (entries : List Entry) → All (IsEntryOf script) entries → (c : Configuration) → Stands script (IsCovered entries) c → IsPointIn entries c
point_in script entries of_entries c stands =
    let entry = stands.covered.0 in
    let among = stands.covered.1.0 in
    let point = is_point script entry c (All-contains (IsEntryOf script) entries entry of_entries among) stands.of_script stands.covered.1.1 in
    record {
      place = among.0;
      number = point.0;
      entry = entry;
      at = contained_at entries entry among;
      point = point.1;
    }

-- what an entry has is well formed
stands_in : (script : Script) (entries : List Entry) (c : Configuration) → IsOfScript script c → IsCovered entries c → Stands script (IsCovered entries) c
stands_in script entries c of_script covered = record { of_script = of_script; formed = covered.1.1.1; covered = covered }

pub closed : NoneBrokenIsClosed
closed script entries is of_entries none = record {
  opening = stands_in script entries (opening script) (of_opening script) (none OpeningCovered);
  reset = stands_in script entries (reset script) (of_reset script) (none ResetCovered);
  marked = λ c stands. let p = point_in script entries of_entries c stands in none (OfPoint p.place p.number JoinedMarked) p.entry p.at c p.point;
  cleared = λ c stands. let p = point_in script entries of_entries c stands in none (OfPoint p.place p.number EndedCleared) p.entry p.at c p.point;
  unbound = λ c stands. let p = point_in script entries of_entries c stands in none (OfPoint p.place p.number CreatedUnbound) p.entry p.at c p.point;
  live = λ c stands. let p = point_in script entries of_entries c stands in none (OfPoint p.place p.number NamesLive) p.entry p.at c p.point;
  steps = λ c step stands among.
      let p = point_in script entries of_entries c stands in
      stands_in script entries step.1 (All-contains (LeadsToOne script) (steps_of script c) step (of_steps script is c stands.of_script) among)
      (none (OfPoint p.place p.number (StepCovered among.0)) p.entry p.at c p.point step (contained_at (steps_of script c) step among));
}
