-- The lines in front of one that tells otherwise: how many events they tell, and that their numbers are below the next one.
use Rattle.std.proofs.Common.{◌≡◌, ◌∙◌, ◌+◌, ◌<◌, ◌≤◌, ◌⊎◌, inl, inr, ℕ, List, [], length, get_or, take, drop, sym, ap, subst, arith}
use Rattle.std.specs.Prelude.{Contains}
use Rattle.std.proofs.lemmas.List.{take_more}
use Rattle.std.proofs.lemmas.List.Sums.{sum_by_more}
use Rattle.std.proofs.lemmas.List.Elements.{Contains-push}
use Rattle.mg_model.specs.declared.events.Event.{Event}
use Rattle.mg_model.specs.Script.{Script}
use Rattle.run_shards.specs.Shards.{ShardValue}
use Rattle.run_shards.specs.Disagreements.{last_number}
use Rattle.run_account.specs.Comparing.{last_place}
use Rattle.run_account.specs.FinalState.{call_of}
use Rattle.run_account.specs.OtherLines.{AreUnlike, HasUnlike, IsInterrupted, IsLeftOtherwise, IsUnlike, events_told, a_line_is, left_otherwise, not_above, numbers_end, other_events, too_long}
use Rattle.run_shards.specs.Line.{Line}
use Rattle.run_account.proofs.DifferingTrails.{split_at}

-- each number below this one isn't above that of some line
abbrev pub IsBelow : (least : ℕ) → List Line → Type 0
IsBelow least lines = (number : ℕ) → number < least → (earlier : Line) × (Contains lines earlier × (number ≤ call_of earlier))

pub below_none : IsBelow 0 []
below_none number below = absurd (omega (arith, below))

-- with the line at a place
pub told_next : (lines : List Line) (i place : ℕ) (d : Line) → i < length lines → place ≡ events_told (take i lines)
    → place + (get_or lines i d).events ≡ events_told (take (i + 1) lines)
told_next lines i place d within so_far =
    ap (λ (n : ℕ). n + (get_or lines i d).events) so_far ∙ sym (sum_by_more (λ (l : Line). l.events) lines i d within)

pub below_next : (lines : List Line) (i number above : ℕ) (d : Line) → i < length lines → number ≡ call_of (get_or lines i d) → number + 1 ≡ above
    → IsBelow above (take (i + 1) lines)
below_next lines i number above d within of is other below =
    subst (λ (ls : List Line). (earlier : Line) × (Contains ls earlier × (other ≤ call_of earlier))) (sym (take_more lines i d within))
    (get_or lines i d, (Contains-push (take i lines) (get_or lines i d), omega (arith, of, is, below)))

-- the line at a place tells otherwise
pub unlike_at : (script : Script) (v : ShardValue) (trail : List Event) (call : ℕ) (lines : List Line) (i : ℕ) (d : Line) → i < length lines
    → IsUnlike script v trail call (take i lines) (get_or lines i d) → HasUnlike script v trail call lines
unlike_at script v trail call lines i d within unlike = record {
  front = take i lines;
  line = get_or lines i d;
  back = drop (i + 1) lines;
  parts = split_at lines i d within;
  unlike = unlike;
}

module _ (script : Script) (v : ShardValue) (trail : List Event) (call : ℕ) (lines : List Line) (i place number : ℕ) (d : Line) (within : i < length lines)
    (of : number ≡ call_of (get_or lines i d)) (told : place ≡ events_told (take i lines)) where
  -- not so many events are its call's, or there are too many
  pub interrupted : IsInterrupted trail number place (get_or lines i d).events ⊎ (last_place < length trail) → AreUnlike script v trail call lines
  interrupted (inr long) = too_long long
  interrupted (inl stops) =
      a_line_is (unlike_at script v trail call lines i d within
      (other_events (subst (λ (n : ℕ). IsInterrupted trail (call_of (get_or lines i d)) n (get_or lines i d).events) told
      (subst (λ (n : ℕ). IsInterrupted trail n place (get_or lines i d).events) of stops))))

  -- no number is above its own
  pub last_one : last_number ≤ number → AreUnlike script v trail call lines
  last_one last = a_line_is (unlike_at script v trail call lines i d within (numbers_end (omega (arith, of, last))))

  -- its number isn't above that of the line before it
  pub not_rising : (least : ℕ) → IsBelow least (take i lines) → number < least → AreUnlike script v trail call lines
  not_rising least below under =
      let before = below number under in
      a_line_is (unlike_at script v trail call lines i d within (not_above before.0 before.1.0 (omega (arith, before.1.1, of))))

  -- it is left otherwise behind its events
  pub otherwise : (next : ℕ) → next ≡ place + (get_or lines i d).events → IsLeftOtherwise script v trail next (get_or lines i d)
      → AreUnlike script v trail call lines
  otherwise next behind left =
      a_line_is (unlike_at script v trail call lines i d within
      (left_otherwise (subst (λ (n : ℕ). IsLeftOtherwise script v trail n (get_or lines i d))
      (behind ∙ ap (λ (n : ℕ). n + (get_or lines i d).events) told) left)))
