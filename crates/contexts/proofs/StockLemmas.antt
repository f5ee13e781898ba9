-- Contexts under their numbers: what a board shows of them, and which numbers are used.
use Rattle.std.proofs.Common.{◌≡◌, ◌∙◌, ℕ, ◌<◌, ◌≤◌, ◌==◌, Bool, true, false, ◌||◌, ◌&&◌, IsTrue, is_some, refl, ap, sym, rules, arith, List, Option, Some, None, option_map, Vec, ◌⊎◌, inl, inr, ◌↔◌}
use Rattle.std.proofs.lemmas.Grind.{common_steps}
use Rattle.std.proofs.Math.ListN.{get_or-map}
use Rattle.mg_names.specs.declared.identifiers.TermId.{TermId}
use Rattle.mg_model.specs.declared.rows.Row.{Row}
use Rattle.mg_model.specs.Items.{given, is_context_number}
use Rattle.mg_model.specs.Numbers.{choose, last_context}
use Rattle.identifiers.specs.declared.class.Class.{Class}
use Rattle.identifiers.specs.Class.{is_number, is_of_class, key_of}
use Rattle.identifiers.specs.Stock.{Stock, slot_at, value_in, at, is_held, is_used, IsUsedUp, IsGiven}
use Rattle.contexts.specs.declared.cuts.Cut.{Cut}
use Rattle.contexts.specs.Groups.{items_in, items_of, members_at, has_member}
use Rattle.contexts.specs.TiedBoard.{IsTied, IsOneClass}
use Rattle.contexts.proofs.TermLemmas.{by_value}
use Rattle.contexts.proofs.TieLemmas.{StandsSome, exists_iff}

module _ {Z : Type 0} where
  slot_shown : (s : Stock (Vec TermId Z)) (key : ℕ) → slot_at (items_of s).slots key ≡ option_map (option_map (λ (v : Vec TermId Z). v.items)) (slot_at s.slots key)
  slot_shown s key = get_or-map (option_map (option_map (λ (v : Vec TermId Z). v.items))) s.slots key None

  slot_used : (o : Option (Option (Vec TermId Z))) → is_some (option_map (option_map (λ (v : Vec TermId Z). v.items)) o) ≡ is_some o
  slot_used None = refl
  slot_used (Some o) = refl

  slot_value : (o : Option (Option (Vec TermId Z))) → value_in (option_map (option_map (λ (v : Vec TermId Z). v.items)) o) ≡ items_in (value_in o)
  slot_value None = refl
  slot_value (Some None) = refl
  slot_value (Some (Some v)) = refl

  pub used_at : (s : Stock (Vec TermId Z)) (n : ℕ) → is_used (items_of s) n ≡ is_used s n
  used_at s n = by_value (is_number s.class n) (λ e. rw e (ap is_some (slot_shown s (key_of s.class n)) ∙ slot_used (slot_at s.slots (key_of s.class n)))) (λ e. rw e refl)

  pub used_shown : (s : Stock (Vec TermId Z)) → is_used (items_of s) ≡ is_used s
  used_shown s = λ i n. used_at s n i

  pub value_shown : (s : Stock (Vec TermId Z)) (n : ℕ) → at (items_of s) n ≡ members_at s n
  value_shown s n = by_value (is_number s.class n) (λ e. rw e (ap value_in (slot_shown s (key_of s.class n)) ∙ slot_value (slot_at s.slots (key_of s.class n)))) (λ e. rw e refl)

  -- the same numbers are used
  pub same_used : (s r : Stock (Vec TermId Z)) → ((n : ℕ) → is_used r n ≡ is_used s n) → is_used (items_of r) ≡ is_used (items_of s)
  same_used s r same = λ i n. (used_at r n ∙ same n ∙ sym (used_at s n)) i

  -- one more number is used
  pub one_used : (s r : Stock (Vec TermId Z)) (c : ℕ) → ((n : ℕ) → is_used r n ≡ given true c (is_used s) n) → is_used (items_of r) ≡ given true c (is_used (items_of s))
  one_used s r c more = λ i n. (used_at r n ∙ more n ∙ ap (λ (b : Bool). (true && n == c) || b) (sym (used_at s n))) i

  some_items : (o : Option (Vec TermId Z)) → is_some (items_in o) ≡ is_some o
  some_items None = refl
  some_items (Some v) = refl

  pub held_is : (s : Stock (Vec TermId Z)) (n : ℕ) → is_some (members_at s n) ≡ is_held s n
  held_is s n = some_items (at s n)

  none_back : (o : Option (Vec TermId Z)) → items_in o ≡ None → o ≡ None
  none_back None e = refl
  none_back (Some v) e = cc

  -- a number that the board shows as the next one is the next one
  pub given_shown : (s : Stock (Vec TermId Z)) (c : ℕ) → IsGiven (items_of s) c → IsGiven s c
  given_shown s c is = record {
    next = is.next;
    number = is.number;
    within = is.within;
    fresh = sym (used_at s c) ∙ is.fresh;
    absent = none_back (at s c) (sym (value_shown s c) ∙ is.absent);
  }

  pub given_to_show : (s : Stock (Vec TermId Z)) (c : ℕ) → IsGiven s c → IsGiven (items_of s) c
  given_to_show s c is = record {
    next = is.next;
    number = is.number;
    within = is.within;
    fresh = used_at s c ∙ is.fresh;
    absent = value_shown s c ∙ ap items_in is.absent;
  }

  module _ (rows : TermId → Option Row) (s : Stock (Vec TermId Z)) (k : ℕ → Option (List Cut)) (tied : IsTied rows (members_at s) k) where
    -- a context exists exactly where there is one under its number
    pub held_iff : (c : ℕ) → IsTrue (is_held s c) ↔ StandsSome rows c
    held_iff c =
        let there = exists_iff rows (members_at s) k tied c in
        let same = held_is s c in
        (λ h. there.0 (rw same h), λ h. rw (← same) (there.1 h))

    pub can_enter : (c : ℕ) → StandsSome rows c ⊎ IsGiven (items_of s) c → IsTrue (is_held s c) ⊎ IsGiven s c
    can_enter c (inl there) = inl ((held_iff c).1 there)
    can_enter c (inr next) = inr (given_shown s c next)

    -- what can't be missing is there
    pub not_missing : (c : ℕ) → ((StandsSome rows c → ⊥) → ⊥) → StandsSome rows c
    not_missing c h = by_value (is_held s c)
        (λ e. (held_iff c).0 (rw e (search rules)))
        (λ e. absurd (h (λ there. let held : IsTrue (is_held s c) = (held_iff c).1 there in let bad : IsTrue false = rw e at held in absurd (search rules))))

  held_used : (s : Stock (Vec TermId Z)) (c : ℕ) → IsTrue (is_held s c) → is_used s c ≡ true
  held_used s c h = by_value (is_number s.class c)
      (λ e. let held : IsTrue (is_some (value_in (slot_at s.slots (key_of s.class c)))) = rw e at h in rw e (slot (slot_at s.slots (key_of s.class c)) held))
      (λ e. let bad : IsTrue false = rw e at h in absurd (search rules))
    where
      slot : (o : Option (Option (Vec TermId Z))) → IsTrue (is_some (value_in o)) → is_some o ≡ true
      slot None h = absurd (search rules)
      slot (Some o) h = refl

  -- the number of a context that is there is used already
  pub used_already : (s : Stock (Vec TermId Z)) (c : ℕ) → IsTrue (is_held s c) → given true c (is_used (items_of s)) ≡ is_used (items_of s)
  used_already s c h = λ i n. by_value (n == c) (λ e. same n e) (λ e. rw e refl) i
    where
      same : (n : ℕ) → (n == c) ≡ true → given true c (is_used (items_of s)) n ≡ is_used (items_of s) n
      same n e = let is : n ≡ c = grind (arith, common_steps) in rw e (sym (ap (is_used (items_of s)) is ∙ used_at s c ∙ held_used s c h))

-- ---- the class

pub one_class_still : (a b c d : Class) → c ≡ a → d ≡ b → IsOneClass a b → IsOneClass c d
one_class_still a b c d same equal one = rw (same, equal) one

-- numbers of the same class are given
pub class_still : {a b : Class} → b ≡ a → is_of_class b.first b.stride ≡ is_of_class a.first a.stride
class_still same = λ i. is_of_class (same i).first (same i).stride

below_choose : (n : ℕ) → n ≤ last_context → n < choose
below_choose n h = omega (arith, h)

pub below_last : (n : ℕ) → n < choose → n ≤ last_context
below_last n h = omega (arith, h)

above_zero : (class : Class) (n : ℕ) → IsTrue (is_number class n) → (0 < n) × IsTrue (is_of_class class.first class.stride n)
above_zero class n h = (grind (arith, common_steps), grind (arith, common_steps))

number_from : (class : Class) (n : ℕ) → 0 < n → IsTrue (is_of_class class.first class.stride n) → IsTrue (is_number class n)
number_from class n above of_class = grind (arith, common_steps)

class_same : (a b : Class) → IsOneClass a b → (n : ℕ) → is_of_class b.first b.stride n ≡ is_of_class a.first a.stride n
class_same a b one n = rw (one.first, one.stride) refl

-- a number that is next is one that a context may have
pub is_new : {T : Type 0} (a : Class) (s : Stock T) (c : ℕ) → IsOneClass a s.class → IsGiven s c → is_context_number c × (is_used s c ≡ false) × IsTrue (is_of_class a.first a.stride c)
is_new a s c one is =
    let parts = above_zero s.class c is.number in
    ((parts.0, below_choose c (rw one.last at is.within)), is.fresh, rw (class_same a s.class one c) at parts.1)

-- no context has a number left exactly where each number of the class is used
pub none_left_iff : {T : Type 0} (a : Class) (s : Stock T) → IsOneClass a s.class →
    IsUsedUp s ↔ ((n : ℕ) → is_context_number n → IsTrue (is_of_class a.first a.stride n) → IsTrue (is_used s n))
none_left_iff a s one = (
  λ all n fits of_class. all n (number_from s.class n fits.0 (rw (class_same a s.class one n) of_class)) (rw one.last (below_last n fits.1)),
  λ all n number within. let parts = above_zero s.class n number in all n (parts.0, below_choose n (rw one.last at within)) (rw (class_same a s.class one n) at parts.1),
)

-- ---- what is tied stays so where the rows and the members are the same

pub tied_same : (rows after : TermId → Option Row) (m n : ℕ → Option (List TermId)) (k : ℕ → Option (List Cut)) → after ≡ rows → ((c : ℕ) → n c ≡ m c) → IsTied rows m k → IsTied after n k
tied_same rows after m n k same members tied = rw same record {
  stands = λ c t. ap (λ (g : Option (List TermId)). has_member g t) (members c) ∙ tied.stands c t;
  not_empty = λ c e. tied.not_empty c (sym (members c) ∙ e);
  once = λ c. rw (members c) (tied.once c);
  inside = tied.inside;
}
