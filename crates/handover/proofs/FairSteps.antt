-- Each step of a share keeps the rule of the queue: a thing goes in, for the first time or again, or comes out; a share is cut in two, or takes another in.
use Rattle.std.proofs.Common.{◌≡◌, ◌+◌, ◌-◌, ◌<◌, ◌≤◌, ◌++◌, ℕ, zero, suc, List, [], ◌∷◌, length, refl, sym, ap, subst, ◌∙◌, ⊎_elim, arith}
use Rattle.std.specs.Prelude.{slice_set}
use Rattle.std.proofs.lemmas.List.{map-append, length-append}
use mathlib.Core.Option.{some, some-injective, some-ne-none}
use lib.ListN.{get_elem?}
use Rattle.crossbeam_queue.specs.Fifo.{Pushes, Pops, Forks, Merges}
use Rattle.crossbeam_queue.proofs.Lists.{at_set}
use Rattle.handover.specs.Hands.{Holds, IsFair, IsHand, all_parts, hand, numbers_of, times, total}
use Rattle.handover.specs.declared.hand.NumberedItem.{NumberedItem}
use Rattle.handover.specs.declared.hand.Hand.{Hand}
use Rattle.handover.proofs.Counts.{AreHands, hands_more, hands_set, times_append, times_none, times_one, total_more, total_set, total_whole}

-- ---- one view

first_hand : AreHands (hand all_parts [] [] [] ∷ [])
first_hand zero v at = subst IsHand (some-injective (hand all_parts [] [] []) v at) is
  where
    is : IsHand (hand all_parts [] [] [])
    is = record { held = λ n. omega arith; idle = λ no_parts. absurd (omega arith) }
first_hand (suc share) v at = absurd (some-ne-none v (sym at))

new_hand : IsHand (hand 1 [] [] [])
new_hand = record { held = λ n. omega arith; idle = λ no_parts. absurd (omega arith) }

spent_hand : IsHand (hand 0 [] [] [])
spent_hand = record { held = λ n. omega arith; idle = λ no_parts. refl }

module _ (v : Hand) (is : IsHand v) where
  left_hand : 1 < v.parts → IsHand (hand (v.parts - 1) v.begun v.put v.taken)
  left_hand more = record { held = is.held; idle = λ no_parts. absurd (omega arith) }

  begun_hand : (x : ℕ) → 0 < v.parts → IsHand (hand v.parts (v.begun ++ x ∷ []) (v.put ++ x ∷ []) v.taken)
  begun_hand x part = record {
    held = λ n. omega (arith, is.held n, times_append n v.begun (x ∷ []), times_append n v.put (x ∷ []));
    idle = λ no_parts. absurd (omega arith);
  }

  put_hand : (x : ℕ) → 0 < v.parts → Holds v x → IsHand (hand v.parts v.begun (v.put ++ x ∷ []) v.taken)
  put_hand x part holds = record { held = held; idle = λ no_parts. absurd (omega arith) }
    where
      held : (n : ℕ) → times n (v.put ++ x ∷ []) ≤ times n v.begun + times n v.taken
      held n = ⊎_elim
          (λ same. let holds_n : Holds v n = subst (Holds v) (sym same.0) holds in omega (arith, holds_n, same.1, times_append n v.put (x ∷ [])))
          (λ other. omega (arith, other, is.held n, times_append n v.put (x ∷ []))) (times_one n x)

  taken_hand : (x : ℕ) → 0 < v.parts → IsHand (hand v.parts v.begun v.put (v.taken ++ x ∷ []))
  taken_hand x part = record { held = λ n. omega (arith, is.held n, times_append n v.taken (x ∷ [])); idle = λ no_parts. absurd (omega arith) }

-- two shares in one
both_hands : (v w : Hand) → IsHand v → IsHand w → IsHand (hand (v.parts + w.parts) (v.begun ++ w.begun) (v.put ++ w.put) (v.taken ++ w.taken))
both_hands v w is and = record {
  held = λ n. omega (arith, is.held n, and.held n, times_append n v.begun w.begun, times_append n v.put w.put, times_append n v.taken w.taken);
  idle = λ no_parts.
      let one : v ≡ hand 0 [] [] [] = is.idle (omega arith) in
      let other : w ≡ hand 0 [] [] [] = and.idle (omega arith) in
      λ i. hand ((one i).parts + (other i).parts) ((one i).begun ++ (other i).begun) ((one i).put ++ (other i).put) ((one i).taken ++ (other i).taken);
}

-- ---- all views

pub opens : IsFair [] (hand all_parts [] [] [] ∷ [])
opens = record {
  parts = refl;
  balanced = λ n. omega (arith, times_none n);
  counted = refl;
  once = λ n. omega (arith, times_none n);
  each = first_hand;
}

-- the view of one share changes, and what stands in the queue
module _ (items : List ℕ) (views : List Hand) (share : ℕ) (v w : Hand) (fair : IsFair items views) (at : get_elem? views share ≡ some v) where
  changed : (later : List ℕ) → w.parts ≡ v.parts
      → ((n : ℕ) → times n w.put + (times n v.taken + times n items) ≡ times n v.put + (times n w.taken + times n later))
      → length w.put + (length v.taken + length items) ≡ length v.put + (length w.taken + length later)
      → ((n : ℕ) → total (λ u. times n u.begun) (slice_set views share w) ≤ 1) → IsHand w → IsFair later (slice_set views share w)
  changed later parts balanced counted once is = record {
    parts = omega (arith, fair.parts, total_set (λ u. u.parts) views share v w at);
    balanced = λ n.
        omega (arith, balanced n, fair.balanced n, total_set (λ u. times n u.put) views share v w at, total_set (λ u. times n u.taken) views share v w at);
    counted = omega (arith, counted, fair.counted, total_set (λ u. length u.put) views share v w at, total_set (λ u. length u.taken) views share v w at);
    once = once;
    each = hands_set views share w fair.each is;
  }

  -- where nothing is begun
  begun_stays : w.begun ≡ v.begun → (n : ℕ) → total (λ u. times n u.begun) (slice_set views share w) ≤ 1
  begun_stays same n = omega (arith, ap (times n) same, fair.once n, total_set (λ u. times n u.begun) views share v w at)

  -- a thing is put, for the first time or again
  put_in : (later : List ℕ) (x : ℕ) (begun : List ℕ) → w ≡ hand v.parts begun (v.put ++ x ∷ []) v.taken → later ≡ items ++ x ∷ []
      → ((n : ℕ) → total (λ u. times n u.begun) (slice_set views share w) ≤ 1) → IsHand w → IsFair later (slice_set views share w)
  put_in later x begun now stands = changed later (ap (λ (u : Hand). u.parts) now)
      (λ n. omega (
        arith,
        ap (λ (u : Hand). times n u.put) now,
        ap (λ (u : Hand). times n u.taken) now,
        ap (times n) stands,
        times_append n v.put (x ∷ []),
        times_append n items (x ∷ []),
      ))
      (omega (
        arith,
        ap (λ (u : Hand). length u.put) now,
        ap (λ (u : Hand). length u.taken) now,
        ap length stands,
        length-append v.put (x ∷ []),
        length-append items (x ∷ []),
      ))

-- ---- what each step owes

module _ {T : Type 0} where
  abbrev pub Rule : List (NumberedItem T) → List Hand → Type 0
  Rule items views = IsFair (numbers_of items) views

  one_more : (items : List (NumberedItem T)) (x : NumberedItem T) → numbers_of (items ++ x ∷ []) ≡ numbers_of items ++ x.number ∷ []
  one_more items x = map-append (λ (item : NumberedItem T). item.number) items (x ∷ [])

  pub begins : (room share : ℕ) (v : Hand) (x : NumberedItem T) → v.parts ≡ all_parts → times x.number v.begun ≡ 0
      → Pushes Rule room share v x (λ w. w ≡ hand v.parts (v.begun ++ x.number ∷ []) (v.put ++ x.number ∷ []) v.taken)
  begins room share v x whole new items views _ fair at = (
    w,
    put_in (numbers_of items) views share v w fair at (numbers_of (items ++ x ∷ [])) x.number (v.begun ++ x.number ∷ []) refl (one_more items x) once
        (begun_hand v (fair.each share v at) x.number (omega (arith, whole))),
    refl,
  )
    where
      w : Hand
      w = hand v.parts (v.begun ++ x.number ∷ []) (v.put ++ x.number ∷ []) v.taken

      once : (n : ℕ) → total (λ u. times n u.begun) (slice_set views share w) ≤ 1
      once n =
          let own : total (λ u. times n u.begun) views ≡ times n v.begun
          = total_whole (λ u. times n u.begun) (times_none n) views share v fair.each at (fair.parts ∙ sym whole) in
          let added : times n (v.begun ++ x.number ∷ []) ≡ times n v.begun + times n (x.number ∷ []) = times_append n v.begun (x.number ∷ []) in
          let after = total_set (λ u. times n u.begun) views share v w at in
          ⊎_elim (λ same. let none : times n v.begun ≡ 0 = ap (λ m. times m v.begun) same.0 ∙ new in omega (arith, own, added, after, none, same.1))
          (λ other. omega (arith, fair.once n, added, after, other)) (times_one n x.number)

  pub puts : (room share : ℕ) (v : Hand) (x : NumberedItem T) → 0 < v.parts → Holds v x.number
      → Pushes Rule room share v x (λ w. w ≡ hand v.parts v.begun (v.put ++ x.number ∷ []) v.taken)
  puts room share v x part holds items views _ fair at = (
    w,
    put_in (numbers_of items) views share v w fair at (numbers_of (items ++ x ∷ [])) x.number v.begun refl (one_more items x)
        (begun_stays (numbers_of items) views share v w fair at refl) (put_hand v (fair.each share v at) x.number part holds),
    refl,
  )
    where
      w : Hand
      w = hand v.parts v.begun (v.put ++ x.number ∷ []) v.taken

  pub takes : (share : ℕ) (v : Hand) → 0 < v.parts → Pops Rule share v (λ x w. w ≡ hand v.parts v.begun v.put (v.taken ++ x.number ∷ []))
  takes share v part x items views fair at = (
    w,
    changed (x.number ∷ numbers_of items) views share v w fair at (numbers_of items) refl
        (λ n. omega (arith, times_append n v.taken (x.number ∷ []), times_append n (x.number ∷ []) (numbers_of items)))
        (omega (arith, length-append v.taken (x.number ∷ [])))
        (begun_stays (x.number ∷ numbers_of items) views share v w fair at refl) (taken_hand v (fair.each share v at) x.number part),
    refl,
  )
    where
      w : Hand
      w = hand v.parts v.begun v.put (v.taken ++ x.number ∷ [])

  pub forks : (share : ℕ) (v : Hand) → 1 < v.parts → Forks Rule share v (hand (v.parts - 1) v.begun v.put v.taken) (hand 1 [] [] [])
  forks share v more items views fair at = record {
    parts = omega (arith, fair.parts, cut (λ u. u.parts) (omega arith));
    balanced = λ n. omega (arith, fair.balanced n, cut (λ u. times n u.put) (nothing_more n v.put), cut (λ u. times n u.taken) (nothing_more n v.taken));
    counted = omega (arith, fair.counted, cut (λ u. length u.put) (omega arith), cut (λ u. length u.taken) (omega arith));
    once = λ n. omega (arith, fair.once n, cut (λ u. times n u.begun) (nothing_more n v.begun));
    each = hands_more rest right (hands_set views share left fair.each (left_hand v (fair.each share v at) more)) new_hand;
  }
    where
      left : Hand
      left = hand (v.parts - 1) v.begun v.put v.taken

      right : Hand
      right = hand 1 [] [] []

      rest : List Hand
      rest = slice_set views share left

      nothing_more : (n : ℕ) (xs : List ℕ) → times n xs + times n [] ≡ times n xs
      nothing_more n xs = omega (arith, times_none n)

      cut : (f : Hand → ℕ) → f left + f right ≡ f v → total f (rest ++ right ∷ []) ≡ total f views
      cut f sum = omega (arith, sum, total_set f views share v left at, total_more f rest right)

  pub merges : (share : ℕ) (v : Hand) (other : ℕ) (w : Hand)
      → Merges Rule share v other w (hand (v.parts + w.parts) (v.begun ++ w.begun) (v.put ++ w.put) (v.taken ++ w.taken)) (hand 0 [] [] [])
  merges share v other w items views fair at apart at_other = record {
    parts = omega (arith, fair.parts, moved (λ u. u.parts) refl refl);
    balanced = λ n.
        let put = moved (λ u. times n u.put) (times_append n v.put w.put) (times_none n) in
        let taken = moved (λ u. times n u.taken) (times_append n v.taken w.taken) (times_none n) in
        omega (arith, fair.balanced n, put, taken);
    counted =
        let put = moved (λ u. length u.put) (length-append v.put w.put) refl in
        let taken = moved (λ u. length u.taken) (length-append v.taken w.taken) refl in
        omega (arith, fair.counted, put, taken);
    once = λ n. omega (arith, fair.once n, moved (λ u. times n u.begun) (times_append n v.begun w.begun) (times_none n));
    each = hands_set rest other spent (hands_set views share both fair.each (both_hands v w (fair.each share v at) (fair.each other w was))) spent_hand;
  }
    where
      both : Hand
      both = hand (v.parts + w.parts) (v.begun ++ w.begun) (v.put ++ w.put) (v.taken ++ w.taken)

      spent : Hand
      spent = hand 0 [] [] []

      rest : List Hand
      rest = slice_set views share both

      was : get_elem? views other ≡ some w
      was = ⊎_elim (λ same. absurd (apart same.0)) (λ else. else.1) (at_set views share other both w at_other)

      moved : (f : Hand → ℕ) → f both ≡ f v + f w → f spent ≡ 0 → total f (slice_set rest other spent) ≡ total f views
      moved f sum nothing = omega (arith, sum, nothing, total_set f views share v both at, total_set f rest other w spent at_other)
