-- The script whose last state asks for 37 commands is accepted, and its entries break no obligation; and where a call is in that state, at most two moves lead
-- it to its end, whatever has come of its request. Its commands set nothing, so that nothing has to be followed from one to the next.
use Rattle.std.proofs.Common.{◌≡◌, ◌∙◌, ◌==◌, ◌++◌, ◌+◌, ◌≤◌, ℕ, zero, suc, Bool, true, if◌then◌else◌, List, [], ◌∷◌, length, None}
use Rattle.std.proofs.Common.{ap, arith, inl, inr, refl, subst, sym}
use Rattle.std.proofs.Math.Path.{fun_ext}
use Rattle.std.proofs.lemmas.Bool.{eqb-true}
use Rattle.std.proofs.lemmas.List.Elements.{All-contains, All-from_recursion}
use Rattle.std.specs.List.{All}
use Rattle.std.specs.Prelude.{Contains}
use Rattle.mg_model.specs.declared.commands.Termination.TheVariants.{Line}
use Rattle.mg_model.specs.declared.steps.StepName.TheVariants.{Reply}
use Rattle.mg_model.specs.Agent.{awaits_reply}
use Rattle.mg_model.specs.Effects.{effect, is_legal}
use Rattle.mg_model.specs.Messages.{Request}
use Rattle.mg_model.specs.Steps.{executed, execution, refusals}
use Rattle.mg_model.proofs.Cases.{by_test, false_not_true, where_true}
use Rattle.mg_model.proofs.Single.{first_in, only_one}
use Rattle.mg_safety.specs.Ending.{Brings, undisturbed}
use Rattle.mg_safety.specs.Followed.{IsLinkOf}
use Rattle.mg_examples.proofs.Words.{Answered, Armed, Configuration, Empty, Entry, Failed, IsCovered, IsEntryOf, IsScript, LinkPhase, Mode, NoneBroken, Null}
use Rattle.mg_examples.proofs.Words.{Allows, Ephemeral, Resting, Sent, Termination, EventsName, is_null, is_same, numbered, opening, reset, spots, with_link}
use Rattle.mg_examples.specs.FewCommandsAreNeeded.{asks_much, much_entries, not_answered, repeated, sets_nothing}
use Rattle.mg_examples.proofs.Duties.{Stepped, all_hold}
use Rattle.mg_examples.proofs.EntriesOfTwo.{HasTwoLines, unused_formed}
use Rattle.mg_examples.proofs.EntryRows.{all_entries, covered_by, lands, reread}
use Rattle.mg_examples.proofs.PointFacts.{Below, EachCovered, EachPoint, one_point, two_points, ◌▹◌}
use Rattle.mg_examples.proofs.QuietStates.{is_accepted}

-- ---- a command that sets nothing

is_line_a : (t : Termination) → is_same t (Line 0) ≡ true → t ≡ Line 0
is_line_a (Line i) e = ap Line (eqb-true i 0 e)
is_line_a (Ephemeral k) e = absurd (false_not_true e)

-- a function that is changed at one place to what it was there is as it was
kept_where : {A B : Type 0} (f : A → B) (one : A) (test : A → Bool) → ((x : A) → test x ≡ true → x ≡ one) → (λ x. if test x then f one else f x) ≡ f
kept_where f one test same = fun_ext (λ x. by_test (λ y. y ≡ f x) (f one) (f x) (test x) (λ is. ap f (sym (same x is))) (λ other. refl))

abbrev with_values : Configuration → (Termination → Mode) → (ℕ → EventsName) → (ℕ → Bool) → Configuration
with_values c mode events plays = record c { mode = mode; events = events; plays = plays }

same_values : (c : Configuration) (mode was_mode : Termination → Mode) (events was_events : ℕ → EventsName) (plays was_plays : ℕ → Bool)
    → mode ≡ was_mode → events ≡ was_events → plays ≡ was_plays → with_values c mode events plays ≡ with_values c was_mode was_events was_plays
same_values c mode was_mode events was_events plays was_plays p q r = cc

stays_so : (c : Configuration) → effect asks_much c sets_nothing ≡ c
stays_so c =
    same_values c (λ t. if is_same t (Line 0) then c.mode (Line 0) else c.mode t) c.mode (λ i. if i == 0 then c.events 0 else c.events i) c.events
    (λ i. if i == 0 then c.plays 0 else c.plays i) c.plays
    (kept_where c.mode (Line 0) (λ t. is_same t (Line 0)) is_line_a)
    (kept_where c.events 0 (λ i. i == 0) (λ i is. eqb-true i 0 is))
    (kept_where c.plays 0 (λ i. i == 0) (λ i is. eqb-true i 0 is))

-- a request of so many of them changes nothing, where line a is in the null context
done_so : (n : ℕ) (c : Configuration) → is_legal c sets_nothing ≡ true → undisturbed asks_much c (repeated n sets_nothing) ≡ with_link c Answered
done_so zero c legal = refl
done_so (suc n) c legal =
    where_true (is_legal c sets_nothing) (undisturbed asks_much (effect asks_much c sets_nothing) (repeated n sets_nothing)) (with_link c Failed) legal
    ∙ ap (λ (d : Configuration). undisturbed asks_much d (repeated n sets_nothing)) (stays_so c)
    ∙ done_so n c legal

-- ---- the entries

two : HasTwoLines asks_much
two = record { lines = refl; ephemerals = refl }

pub accepted : IsScript asks_much
accepted = is_accepted asks_much (omega (arith)) (omega (arith)) (omega (arith)) refl

reads : reread much_entries ≡ much_entries
reads = refl

pub listed : All (IsEntryOf asks_much) much_entries
listed = all_entries asks_much two much_entries reads refl

-- each refusal of so many such commands, and the whole request, lead to what is covered
each_covered : (c : Configuration) → is_legal c sets_nothing ≡ true → IsCovered much_entries (with_link c Failed)
    → IsCovered much_entries (with_link c Answered) → (n place : ℕ)
    → EachCovered much_entries (refusals asks_much c place (repeated n sets_nothing) ++ execution (executed asks_much c (repeated n sets_nothing)))
unfolding EachCovered
each_covered c legal failed answered zero place = (answered, tt)
each_covered c legal failed answered (suc n) place = (
  failed,
  subst (λ (test : Bool). Rest test (effect asks_much c sets_nothing)) (sym legal)
      (subst (Rest true) (sym (stays_so c)) (each_covered c legal failed answered n (place + 1))),
)
  where
    Rest : Bool → Configuration → Type 0
    Rest test d =
        EachCovered much_entries ((if test then refusals asks_much d (place + 1) (repeated n sets_nothing) else [])
        ++ execution (if test then executed asks_much d (repeated n sets_nothing) else None))

all_stepped : Stepped asks_much much_entries
unfolding Below EachPoint EachCovered
all_stepped =
    two_points (lands much_entries reads 0 1 refl, tt) tt
    ▹ one_point (lands much_entries reads 2 0 refl, tt)
    ▹ two_points
    (each_covered (numbered not_answered 0) refl (lands much_entries reads 2 1 refl) (lands much_entries reads 3 0 refl) 37 0)
    (lands much_entries reads 4 0 refl, tt)
    ▹ two_points (lands much_entries reads 3 1 refl, tt) tt
    ▹ two_points (lands much_entries reads 4 1 refl, tt) tt
    ▹ tt

pub none_broken : NoneBroken asks_much much_entries
none_broken = all_hold asks_much much_entries (record {
  two = two;
  reads = reads;
  opening = covered_by much_entries reads 1 0 refl (opening asks_much) refl (unused_formed 0 Resting Armed);
  reset = covered_by much_entries reads 0 0 refl (reset asks_much) refl (unused_formed 0 Answered Empty);
  stepped = all_stepped;
}) refl refl refl refl

-- ---- the way to its end

abbrev HasNullLine : Entry → Type 0
HasNullLine entry = Contains entry.components (spots (Line 0) (Null ∷ []))

each_null : All HasNullLine much_entries
each_null =
    All-from_recursion HasNullLine much_entries
    ((1, omega (arith), refl), ((1, omega (arith), refl), ((1, omega (arith), refl), ((1, omega (arith), refl), ((1, omega (arith), refl), tt)))))

-- line a is in the null context wherever the entries have a call
in_null : (c : Configuration) → IsCovered much_entries c → c.spot (Line 0) ≡ Null
in_null c covered =
    let its = All-contains HasNullLine much_entries covered.0 each_null covered.1.0 in
    sym (only_one Null (c.spot (Line 0)) (All-contains (Allows c) covered.0.components (spots (Line 0) (Null ∷ [])) covered.1.1.2 its))

-- a way of at most two moves from a configuration to an end
pub record ShortWay (c : Configuration) : Type 0 where
  pub way : List Configuration
  pub brings : Brings asks_much way c
  pub short : length way ≤ 2

abbrev in_ends : Configuration → LinkPhase → Configuration
in_ends c link = record c { state = 1; link = link }

-- the request is executed, and its reply leads to rest, where the call is at its end
from_sent : (c : Configuration) → is_legal c sets_nothing ≡ true → ShortWay (in_ends c Sent)
unfolding Brings
from_sent c legal = record {
  way = in_ends c Answered ∷ in_ends c Resting ∷ [];
  brings = (sym (done_so 37 (in_ends c Sent) legal), ((Reply, (refl, first_in (Reply, in_ends c Resting) [])), (refl, refl)));
  short = omega (arith);
}

-- so does a reply that is kept already
from_answered : (c : Configuration) → ShortWay (in_ends c Answered)
unfolding Brings
from_answered c = record {
  way = in_ends c Resting ∷ [];
  brings = ((Reply, (refl, first_in (Reply, in_ends c Resting) [])), (refl, refl));
  short = omega (arith);
}

-- one with a failure leads to `done`, whose request is empty
abbrev in_done : Configuration → LinkPhase → Configuration
in_done c link = record c { state = 2; link = link }

from_failed : (c : Configuration) → ShortWay (in_ends c Failed)
unfolding Brings
from_failed c = record {
  way = in_done c Answered ∷ in_done c Resting ∷ [];
  brings = ((Reply, (refl, first_in (Reply, in_done c Answered) [])), ((Reply, (refl, first_in (Reply, in_done c Resting) [])), (refl, refl)));
  short = omega (arith);
}

from_link : (c : Configuration) (request : Request) → is_legal c sets_nothing ≡ true → IsLinkOf (awaits_reply request) c.link → ShortWay (in_ends c c.link)
from_link c request legal (inl sent) = subst (λ (link : LinkPhase). ShortWay (in_ends c link)) (sym sent) (from_sent c legal)
from_link c request legal (inr (inl answered)) = subst (λ (link : LinkPhase). ShortWay (in_ends c link)) (sym answered) (from_answered c)
from_link c request legal (inr (inr failed)) = subst (λ (link : LinkPhase). ShortWay (in_ends c link)) (sym failed) (from_failed c)

-- whatever the entries have of a call that waits in `ends`
pub short_way : (c : Configuration) (request : Request) → IsCovered much_entries c → c.state ≡ 1 → IsLinkOf (awaits_reply request) c.link → ShortWay c
short_way c request covered state link =
    subst (λ (s : ℕ). ShortWay (record c { state = s })) (sym state) (from_link c request (ap is_null (in_null c covered)) link)
