-- Where the walk of a shard along the trails stops, its history isn't what its calls went through; where it doesn't stop before their ends, it is.
use Rattle.std.proofs.Common.{◌≡◌, ◌∙◌, ◌+◌, ◌<◌, ◌≤◌, ◌++◌, ◌⊎◌, inl, inr, ℕ, zero, suc, Bool, true, false, List, [], ◌∷◌, Some, length, take, drop, get_or, replicate, if◌then◌else◌, refl, sym, ap, subst, add-one, drop-cons, arith}
use Rattle.std.specs.Prelude.{◌%◌, slice_get, slice_index_or}
use Rattle.std.proofs.lemmas.Bool.{eq-eqb}
use Rattle.std.proofs.lemmas.List.{length-append, take-append-drop}
use Rattle.std.proofs.lemmas.List.Elements.{filter-append}
use Rattle.mg_model.specs.declared.events.Event.{Event}
use Rattle.mg_model.specs.declared.events.Event.TheVariants.{OfCall, Restart}
use Rattle.mg_model.specs.Numbers.{plan_calls}
use Rattle.run_account.specs.Comparing.{AgreesIn, DiffersIn, Follows, IsAtEnd, IsCompared, Strays, StraysIn, place_at, trail_at}
use Rattle.run_account.specs.Runs.{is_within, within}

-- ---- places in lists

-- the element at a place, with what stands before and behind it
pub split_at : {A : Type 0} (xs : List A) (i : ℕ) (d : A) → i < length xs → xs ≡ take i xs ++ get_or xs i d ∷ drop (i + 1) xs
split_at {A} xs i d within =
    sym (take-append-drop i xs)
    ∙ ap (λ (rest : List A). take i xs ++ rest)
    (drop-cons xs i d within ∙ ap (λ (k : ℕ). get_or xs i d ∷ drop k xs) (sym (add-one i)))

-- all places are at the beginning
pub none_yet : (n number : ℕ) → place_at (replicate n 0) number ≡ 0
none_yet zero number = refl
none_yet (suc n) zero = refl
none_yet (suc n) (suc number) = none_yet n number

behind : (before : List Event) (event : Event) (after : List Event) → slice_get (before ++ event ∷ after) (length before) ≡ Some event
behind [] event after = refl
behind (first ∷ before) event after = behind before event after

abbrev rest_of : List Event → List Event
rest_of [] = []
rest_of (first ∷ more) = more

-- where all in front of an event are taken, it is the next one
place_is : (before : List Event) (place : ℕ) (event : Event) (after : List Event) → take place (before ++ event ∷ after) ≡ before → place ≡ length before
place_is [] zero event after is = refl
place_is [] (suc place) event after is = absurd (omega (arith, ap (λ (events : List Event). length events) is))
place_is (first ∷ before) zero event after is = absurd (omega (arith, ap (λ (events : List Event). length events) is))
place_is (first ∷ before) (suc place) event after is = ap suc (place_is before place event after (ap rest_of is))

next_there : (trail before : List Event) (place : ℕ) (event : Event) (after : List Event) → trail ≡ before ++ event ∷ after → take place trail ≡ before
    → slice_get trail place ≡ Some event
next_there trail before place event after whole taken =
    let here : place ≡ length before = place_is before place event after (subst (λ (events : List Event). take place events ≡ before) whole taken) in
    ap (slice_get trail) here ∙ ap (λ (events : List Event). slice_get events (length before)) whole ∙ behind before event after

-- where all is taken, nothing is left
all_taken : (place : ℕ) (trail : List Event) → take place trail ≡ trail → length trail ≤ place
all_taken place [] is = omega arith
all_taken zero (first ∷ more) is = absurd (omega (arith, ap (λ (events : List Event). length events) is))
all_taken (suc place) (first ∷ more) is = omega (arith, all_taken place more (ap rest_of is))

some_there : (before : List Event) (event : Event) (after : List Event) → before ++ event ∷ after ≡ [] → ⊥
some_there before event after none =
    omega (arith, ap (λ (events : List Event). length events) none, length-append before (event ∷ after))

-- ---- the events of one call of the plan

within_parts : (number : ℕ) (history before after : List Event) (event : Event) → history ≡ before ++ event ∷ after → is_within number event ≡ true
    → within number history ≡ within number before ++ event ∷ within number after
within_parts number history before after event parts is =
    ap (within number) parts
    ∙ filter-append (is_within number) before (event ∷ after)
    ∙ ap (λ (test : Bool). within number before ++ (if test then event ∷ within number after else within number after)) is

-- ---- what strays, at its place

pub stray_at : (count shard : ℕ) (history : List Event) (trails : List (List Event)) (old places : List ℕ) (i : ℕ) (d : Event) → i < length history
    → Follows count shard (take i history) trails old places → Strays count shard (get_or history i d) trails places
    → StraysIn count shard history trails old
stray_at count shard history trails old places i d within followed strays = record {
  before = take i history;
  event = get_or history i d;
  after = drop (i + 1) history;
  places = places;
  parts = split_at history i d within;
  followed = followed;
  strays = strays;
}

-- ---- the walk of a shard, from where nothing was gone along

module _ (count shard : ℕ) (trails : List (List Event)) (old : List ℕ) (begin : (number : ℕ) → place_at old number ≡ 0) where
  so_far : (number : ℕ) (history : List Event) (places : List ℕ) → Follows count shard history trails old places
      → take (place_at places number) (trail_at trails number) ≡ within number history
  so_far number history places followed =
      followed.followed number
      ∙ ap (λ (place : ℕ). take place (trail_at trails number) ++ within number history) (begin number)

  -- where they agree, the event behind those that were gone along is the next one of its trail
  is_next : (number : ℕ) (history before after : List Event) (event : Event) (places : List ℕ) → history ≡ before ++ event ∷ after
      → is_within number event ≡ true → number % count ≡ shard → Follows count shard before trails old places → AgreesIn count shard history trails
      → slice_get (trail_at trails number) (place_at places number) ≡ Some event
  is_next number history before after event places parts is own follows agrees =
      next_there (trail_at trails number) (within number before) (place_at places number) event (within number after)
      (agrees.whole number own ∙ within_parts number history before after event parts is)
      (so_far number before places follows)

  -- where they agree, an event is of a call of this shard
  is_own : (number : ℕ) (history before after : List Event) (event : Event) → history ≡ before ++ event ∷ after
      → is_within number event ≡ true → AgreesIn count shard history trails → (number % count ≡ shard → ⊥) → ⊥
  is_own number history before after event parts is agrees other =
      some_there (within number before) event (within number after)
      (sym (within_parts number history before after event parts is) ∙ agrees.own number other)

  pub stray_differs : (history : List Event) → StraysIn count shard history trails old → DiffersIn count shard history trails
  stray_differs history stray = by_event stray.event stray.parts stray.strays
    where
      by_event : (event : Event) → history ≡ stray.before ++ event ∷ stray.after
          → Strays count shard event trails stray.places → DiffersIn count shard history trails
      by_event Restart parts never = absurd never
      by_event (OfCall call happens) parts (inl none) = inr (inl none)
      by_event (OfCall call happens) parts (inr (inl other)) =
          let number = call.0 % plan_calls in
          inl (λ agrees. is_own number history stray.before stray.after (OfCall call happens) parts (eq-eqb number number refl) agrees other)
      by_event (OfCall call happens) parts (inr (inr (inl not_next))) =
          let number = call.0 % plan_calls in
          let is : is_within number (OfCall call happens) ≡ true = eq-eqb number number refl in
          inl (λ agrees. is_own number history stray.before stray.after (OfCall call happens) parts is agrees
          (λ own. not_next (is_next number history stray.before stray.after (OfCall call happens) stray.places parts is own stray.followed agrees)))
      by_event (OfCall call happens) parts (inr (inr (inr long))) = inr (inr (call.0 % plan_calls, long))

  pub end_differs : (history : List Event) (places : List ℕ) → Follows count shard history trails old places
      → (count ≡ 0) ⊎ (IsAtEnd count shard trails places → ⊥) → DiffersIn count shard history trails
  end_differs history places followed (inl none) = inr (inl none)
  end_differs history places followed (inr no_end) =
      inl (λ agrees. no_end (λ number below own. all_taken (place_at places number) (trail_at trails number)
      (so_far number history places followed ∙ sym (agrees.whole number own))))

  pub end_agrees : (history : List Event) (places : List ℕ) → Follows count shard history trails old places → IsAtEnd count shard trails places
      → AgreesIn count shard history trails
  end_agrees history places followed at_end = record {
    whole = λ number own. sym (take_whole (place_at places number) trails number (λ below. at_end number below own)) ∙ so_far number history places followed;
    own = followed.own;
  }
    where
      take_long : (place : ℕ) (trail : List Event) → length trail ≤ place → take place trail ≡ trail
      take_long zero [] long = refl
      take_long (suc place) [] long = refl
      take_long zero (first ∷ more) long = absurd (omega (arith, long))
      take_long (suc place) (first ∷ more) long = ap (λ (events : List Event). first ∷ events) (take_long place more (omega (arith, long)))

      take_whole : (place : ℕ) (trails : List (List Event)) (number : ℕ) → (number < length trails → length (slice_index_or trails number []) ≤ place)
          → take place (slice_index_or trails number []) ≡ slice_index_or trails number []
      take_whole place [] number long = take_long place [] (omega arith)
      take_whole place (trail ∷ more) zero long = take_long place trail (long (omega arith))
      take_whole place (trail ∷ more) (suc number) long = take_whole place more number (λ below. long (omega (arith, below)))

  -- what the walk answers, at its end
  pub end_compared : (history : List Event) (places : List ℕ) → Follows count shard history trails old places → (at_end : Bool)
      → (at_end ≡ true → IsAtEnd count shard trails places) → (at_end ≡ false → (count ≡ 0) ⊎ (IsAtEnd count shard trails places → ⊥))
      → IsCompared count shard history trails at_end
  end_compared history places followed true ends goes_on = end_agrees history places followed (ends refl)
  end_compared history places followed false ends goes_on = end_differs history places followed (goes_on refl)
