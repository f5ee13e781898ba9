-- Places while calls come back to them: those of a list, one after the other, and those of one queue after the other.
use Rattle.std.proofs.Common.{◌≡◌, ◌∙◌, ◌<◌, ◌≤◌, ◌++◌, ℕ, Bool, true, false, List, [], ◌∷◌, length, set, All, Option, Some, None, OnOk, Result, Ok, Err, refl, sym, ap, subst}
use Rattle.std.specs.Prelude.{◌==◌, if◌then◌else◌, slice_index_or}
use Rattle.std.specs.List.{flat_map}
use Rattle.std.specs.Option.{option_or}
use Rattle.std.proofs.lemmas.Bool.{eqb-true, eqb-false}
use Rattle.std.proofs.lemmas.List.{append-nil, append_assoc, get_or-set_same, get_or-set_other}
use Rattle.std.proofs.lemmas.List.Elements.{All-nil, All-push, All-same}
use Rattle.handover.specs.declared.hand.NumberedItem.{NumberedItem}
use Rattle.call_queues.specs.Passing.{IsAllBack}
use Rattle.call_queues.specs.Seating.{AreSeated, IsPastLast, all_done, last_with}
use Rattle.call_queues.specs.declared.queue_owner.QueueOwner.{QueueOwner}

-- what holds whatever came of a call
pub whatever : {A E : Type 0} (r : Result A E) (P : Type 0) → P → OnOk r P
whatever (Ok x) P holds = holds
whatever (Err e) P holds = tt

-- ---- options

or_none : {T : Type 0} (o : Option T) → o ≡ option_or o None
or_none None = refl
or_none (Some x) = refl

or_assoc : {T : Type 0} (a b c : Option T) → option_or (option_or a b) c ≡ option_or a (option_or b c)
or_assoc None b c = refl
or_assoc (Some x) b c = refl

-- ---- one list behind another

-- the last with a number is that of the second one, where it has one
last_append : {T : Type 0} (number : ℕ) (items more : List (NumberedItem T))
    → last_with number (items ++ more) ≡ option_or (last_with number more) (last_with number items)
last_append number [] more = or_none (last_with number more)
last_append {T} number (item ∷ items) more =
    let here : Option T = if item.number == number then Some item.load else None in
    ap (λ (o : Option T). option_or o here) (last_append number items more)
    ∙ or_assoc (last_with number more) (last_with number items) here

pub none_seated : {T : Type 0} (old : List (Option T)) → AreSeated [] old old
none_seated old number = refl

pub both_seated : {T : Type 0} (items more : List (NumberedItem T)) (old now new : List (Option T)) → AreSeated items old now → AreSeated more now new
    → AreSeated (items ++ more) old new
both_seated {T} items more old now new first second number =
    let before : Option T = slice_index_or old number None in
    second number ∙ ap (λ (o : Option T). option_or (last_with number more) o) (first number)
    ∙ sym (or_assoc (last_with number more) (last_with number items) before)
    ∙ ap (λ (o : Option T). option_or o before) (sym (last_append number items more))

-- ---- one item

one_seated : {T : Type 0} (now : List (Option T)) (item : NumberedItem T) → item.number < length now
    → AreSeated (item ∷ []) now (set now item.number (Some item.load))
one_seated {T} now item within number = by_test (item.number == number) refl
  where
    by_test : (test : Bool) → (item.number == number) ≡ test → slice_index_or (set now item.number (Some item.load)) number None
        ≡ option_or (if test then Some item.load else None) (slice_index_or now number None)
    by_test true is =
        subst (λ (n : ℕ). slice_index_or (set now item.number (Some item.load)) n None ≡ Some item.load) (eqb-true item.number number is)
        (get_or-set_same now item.number (Some item.load) None within)
    by_test false is =
        get_or-set_other now item.number number (Some item.load) None (λ same. eqb-false item.number number is (sym same))

module _ {T : Type 0} where
  -- those of these that aren't left are seated
  pub record SeatedSoFar (items left : List (NumberedItem T)) (old now : List (Option T)) : Type 0 where
    pub front : List (NumberedItem T)
    pub parts : items ≡ front ++ left
    pub seated : AreSeated front old now

  pub none_so_far : (items left : List (NumberedItem T)) (old : List (Option T)) → left ≡ items → SeatedSoFar items left old old
  none_so_far items left old all = record { front = []; parts = sym all; seated = none_seated old }

  pub one_so_far : (items before after : List (NumberedItem T)) (old now : List (Option T)) (item : NumberedItem T) → item.number < length now
      → before ≡ item ∷ after → SeatedSoFar items before old now → SeatedSoFar items after old (set now item.number (Some item.load))
  one_so_far items before after old now item within step was = record {
    front = was.front ++ item ∷ [];
    parts = was.parts ∙ ap (λ (left : List (NumberedItem T)). was.front ++ left) step ∙ sym (append_assoc was.front (item ∷ []) after);
    seated = both_seated was.front (item ∷ []) old now (set now item.number (Some item.load)) was.seated (one_seated now item within);
  }

  pub all_so_far : (items left : List (NumberedItem T)) (old now : List (Option T)) → left ≡ [] → SeatedSoFar items left old now
      → AreSeated items old now
  all_so_far items left old now none so_far =
      subst (λ (front : List (NumberedItem T)). AreSeated front old now)
      (sym (so_far.parts ∙ ap (λ (rest : List (NumberedItem T)). so_far.front ++ rest) none ∙ append-nil so_far.front)) so_far.seated

  pub past_last : (items before after : List (NumberedItem T)) (old now : List (Option T)) (item : NumberedItem T) → length old ≤ item.number
      → before ≡ item ∷ after → SeatedSoFar items before old now → IsPastLast items old now
  past_last items before after old now item past step was = record {
    before = was.front;
    item = item;
    later = after;
    parts = was.parts ∙ ap (λ (left : List (NumberedItem T)). was.front ++ left) step;
    past = past;
    seated = was.seated;
  }

  -- ---- one queue after the other

  all_done_more : (owners : List (QueueOwner T)) (owner : QueueOwner T) → all_done owners ++ owner.worker_queue.done.items ≡ all_done (owners ++ owner ∷ [])
  all_done_more [] owner = sym (append-nil owner.worker_queue.done.items)
  all_done_more (first ∷ owners) owner =
      append_assoc first.worker_queue.done.items (all_done owners) owner.worker_queue.done.items
      ∙ ap (λ (items : List (NumberedItem T)). first.worker_queue.done.items ++ items) (all_done_more owners owner)

  -- those of these that aren't left are settled
  pub record SettledSoFar (owners left : List (QueueOwner T)) (old now : List (Option T)) : Type 0 where
    pub front : List (QueueOwner T)
    pub parts : owners ≡ front ++ left
    pub all : All IsAllBack front
    pub seated : AreSeated (all_done front) old now

  pub none_settled : (owners left : List (QueueOwner T)) (old : List (Option T)) → left ≡ owners → SettledSoFar owners left old old
  none_settled owners left old all = record { front = []; parts = sym all; all = All-nil IsAllBack; seated = none_seated old }

  pub one_settled : (owners before after : List (QueueOwner T)) (old now new : List (Option T)) (owner : QueueOwner T) → before ≡ owner ∷ after
      → IsAllBack owner → AreSeated owner.worker_queue.done.items now new → SettledSoFar owners before old now → SettledSoFar owners after old new
  one_settled owners before after old now new owner step back seated was = record {
    front = was.front ++ owner ∷ [];
    parts = was.parts ∙ ap (λ (left : List (QueueOwner T)). was.front ++ left) step ∙ sym (append_assoc was.front (owner ∷ []) after);
    all = All-push IsAllBack was.front owner was.all back;
    seated = subst (λ (items : List (NumberedItem T)). AreSeated items old new) (all_done_more was.front owner)
        (both_seated (all_done was.front) owner.worker_queue.done.items old now new was.seated seated);
  }

  pub front_is_all : (owners left : List (QueueOwner T)) (old now : List (Option T)) → left ≡ [] → (so_far : SettledSoFar owners left old now)
      → owners ≡ so_far.front
  front_is_all owners left old now none so_far =
      so_far.parts ∙ ap (λ (rest : List (QueueOwner T)). so_far.front ++ rest) none ∙ append-nil so_far.front

  pub all_settled : (owners left : List (QueueOwner T)) (old now : List (Option T)) → left ≡ [] → SettledSoFar owners left old now
      → AreSeated (all_done owners) old now
  all_settled owners left old now none so_far =
      subst (λ (front : List (QueueOwner T)). AreSeated (all_done front) old now) (sym (front_is_all owners left old now none so_far)) so_far.seated

  pub all_are_back : (owners left : List (QueueOwner T)) (old now : List (Option T)) → left ≡ [] → SettledSoFar owners left old now → All IsAllBack owners
  all_are_back owners left old now none so_far =
      All-same IsAllBack owners so_far.front (front_is_all owners left old now none so_far) so_far.all
