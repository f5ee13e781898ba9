-- The lines of a call of the plan, one after the other: each has the events behind those of the lines before it, and tells what its shard shows.
use Rattle.std.proofs.Common.{◌≡◌, ◌∙◌, ◌+◌, ◌<◌, ◌≤◌, ◌++◌, ◌⊎◌, inl, inr, ℕ, Bool, Some, List, [], ◌∷◌, length, get_or, take, if◌then◌else◌, refl, sym, ap, subst, arith}
use Rattle.std.specs.Prelude.{◌%◌, Contains}
use Rattle.std.proofs.lemmas.Bool.{cases_eq, eq-eqb, ne_eqb}
use Rattle.std.proofs.lemmas.List.{take_all, take_more}
use Rattle.std.proofs.lemmas.List.Elements.{Contains-append_cases, Contains-append_left, Contains-push}
use Rattle.mg_model.proofs.Single.{none_in, only_one}
use Rattle.mg_model.specs.declared.events.Event.{Event}
use Rattle.mg_model.specs.declared.events.Event.TheVariants.{OfCall}
use Rattle.mg_model.specs.Numbers.{plan_calls}
use Rattle.mg_model.specs.Script.{Script}
use Rattle.mg_model.specs.World.{World, is_of_call}
use Rattle.run_shards.specs.Shards.{IsWorldOf, ShardValue}
use Rattle.run_shards.specs.Standings.{StandsAs}
use Rattle.run_shards.specs.Standing.{Standing}
use Rattle.run_account.specs.FinalStates.{AreAllOf, IsLineOf, Leaves, counted}
use Rattle.run_account.specs.FinalState.{HaveLines, IsLeftBy, IsOpenAs, call_of}
use Rattle.run_shards.specs.Parts.{of_call}
use Rattle.run_shards.specs.ReportLines.{phase_standing, phase_text}
use Rattle.run_shards.specs.Line.{Line}
use Rattle.run_account.proofs.Passed.{passed_among, some_in}
use Rattle.run_account.proofs.StandingWords.{standing_word}

-- ---- a call that is open

pub open_as : (script : Script) (v : ShardValue) (w : World) (number association : ℕ) (s : Standing) (l : Line) → IsWorldOf v w → StandsAs w number s
    → association ≡ v.gateway.association → number ≡ call_of l → l.state ≡ s.state → l.phase ≡ phase_standing script s association → IsOpenAs script w l
open_as script v w number association s l is stands now of state phase = record {
  agent = stands.agent;
  open_call = subst (λ (n : ℕ). w.agent n ≡ Some stands.agent) of stands.open_call;
  state = state ∙ stands.state;
  phase = ap phase_text phase ∙ standing_word script v w number association s is stands now;
}

-- ---- one line after the other

pub record IsCounted (script : Script) (v : ShardValue) (trail : List Event) (call place least : ℕ) (l : Line) : Type 0 where
  pub own : l.call ≡ call
  pub within : call_of l % plan_calls ≡ l.call
  pub below : call_of l < least
  pub events : l.events ≡ counted (call_of l) place trail
  pub leaves : Leaves script v trail l

-- one of these lines tells of the call with this number
abbrev pub HasLine : ℕ → List Line → Type 0
HasLine number lines = (l : Line) × Contains lines l × (call_of l ≡ number)

-- up to a place in the transcripts, of calls whose numbers are below this one. Each of them to which something happened has its line
pub record AreLeftSoFar (script : Script) (v : ShardValue) (trail : List Event) (call place least : ℕ) (lines : List Line) : Type 0 where
  pub each : (l : Line) → Contains lines l → IsCounted script v trail call place least l
  pub none : (number : ℕ) → least ≤ number → counted number place trail ≡ 0
  pub told : (number : ℕ) → 0 < counted number place trail → HasLine number lines

module _ (script : Script) (v : ShardValue) (trail : List Event) (call : ℕ) where
  pub none_left : AreLeftSoFar script v trail call 0 0 []
  none_left = record { each = λ l among. absurd (none_in l among); none = λ number above. refl; told = λ number some. absurd (omega (arith, some)) }

  -- of another call no event is added
  others : (number place events next other : ℕ) → AreAllOf trail number place events next → (number ≡ other → ⊥) → counted other next trail ≡ counted other place trail
  others number place events next other all differ =
      all other
      ∙ ap (λ (same : Bool). counted other place trail + (if same then events else 0)) (ne_eqb number other differ)
      ∙ (let same : counted other place trail + 0 ≡ counted other place trail = omega arith in same)

  -- and of the same so many
  own_too : (number place events next : ℕ) → AreAllOf trail number place events next → counted number place trail ≡ 0 → counted number next trail ≡ events
  own_too number place events next all none =
      all number
      ∙ ap (λ (same : Bool). counted number place trail + (if same then events else 0)) (eq-eqb number number refl)
      ∙ ap (λ (n : ℕ). n + events) none
      ∙ (let same : 0 + events ≡ events = omega arith in same)

  pub left_more : (place least next number : ℕ) (lines : List Line) (l : Line) → AreLeftSoFar script v trail call place least lines → IsLineOf call l
      → number ≡ call_of l → least ≤ number → AreAllOf trail number place l.events next → Leaves script v trail l
      → AreLeftSoFar script v trail call next (number + 1) (lines ++ l ∷ [])
  left_more place least next number lines l so_far line of above all leaves = record {
    each = λ x among. elim (Contains-append_cases lines (l ∷ []) x among) [
      | inl before ↦ earlier x (so_far.each x before)
      | inr here ↦ subst (IsCounted script v trail call next (number + 1)) (only_one l x here) last
    ];
    none = λ other past. others number place l.events next other all (λ same. omega (arith, same, past)) ∙ so_far.none other (omega (arith, above, past));
    told = λ other some. by_call other some (cases_eq number other);
  }
    where
      by_call : (other : ℕ) → 0 < counted other next trail → (number ≡ other) ⊎ (number ≡ other → ⊥) → HasLine other (lines ++ l ∷ [])
      by_call other some (inl is) = (l, Contains-push lines l, sym of ∙ is)
      by_call other some (inr differ) =
          let was = so_far.told other (omega (arith, some, others number place l.events next other all differ)) in
          (was.0, Contains-append_left lines (l ∷ []) was.0 was.1, was.2)

      earlier : (x : Line) → IsCounted script v trail call place least x → IsCounted script v trail call next (number + 1) x
      earlier x was = record {
        own = was.own;
        within = was.within;
        below = omega (arith, was.below, above);
        events = was.events ∙ sym (others number place l.events next (call_of x) all (λ same. omega (arith, same, was.below, above)));
        leaves = was.leaves;
      }

      last : IsCounted script v trail call next (number + 1) l
      last = record {
        own = line.of_call;
        within = line.within;
        below = omega (arith, of);
        events = sym (own_too number place l.events next all (so_far.none number above)) ∙ ap (λ (n : ℕ). counted n next trail) of;
        leaves = leaves;
      }

  -- the line at a place
  pub left_next : (place least next number above i : ℕ) (lines : List Line) (d : Line) → i < length lines
      → AreLeftSoFar script v trail call place least (take i lines) → IsLineOf call (get_or lines i d) → number ≡ call_of (get_or lines i d) → least ≤ number
      → AreAllOf trail number place (get_or lines i d).events next → Leaves script v trail (get_or lines i d) → number + 1 ≡ above
      → AreLeftSoFar script v trail call next above (take (i + 1) lines)
  left_next place least next number above i lines d within so_far line of below all leaves is =
      subst (λ (ls : List Line). AreLeftSoFar script v trail call next above ls) (sym (take_more lines i d within))
      (subst (λ (n : ℕ). AreLeftSoFar script v trail call next n (take i lines ++ get_or lines i d ∷ [])) is
      (left_more place least next number (take i lines) (get_or lines i d) so_far line of below all leaves))

  -- the transcripts end at the place, or before it
  pub all_left : (place least : ℕ) (lines : List Line) → AreLeftSoFar script v trail call place least lines → length trail ≤ place
      → (l : Line) → Contains lines l → (l.call ≡ call) × IsLeftBy script v trail l
  all_left place least lines so_far whole l among =
      let is = so_far.each l among in (
        is.own,
        record {
          within = is.within;
          events = is.events ∙ ap (λ (events : List Event). length (of_call (call_of l) events)) (take_all place trail (omega (arith, whole)));
          left = is.leaves;
        },
      )

  -- so each call in them has its line
  pub all_have_lines : (place least : ℕ) (lines : List Line) → AreLeftSoFar script v trail call place least lines → length trail ≤ place → HaveLines trail lines
  all_have_lines place least lines so_far whole number happens among =
      so_far.told number.0 (omega (
        arith,
        some_in (of_call number.0 trail) (OfCall number happens) (passed_among (is_of_call number.0) trail (OfCall number happens) among (eq-eqb number.0 number.0 refl)),
        ap (λ (events : List Event). length (of_call number.0 events)) (take_all place trail (omega (arith, whole))),
      ))
