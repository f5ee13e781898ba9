-- Each number is used where as many keys are used as there are numbers.
use Rattle.std.proofs.Common.{◌↔◌, ℕ, ◌≤◌, ◌<◌, List, count_by, None, is_some, refl}
use Rattle.identifiers.specs.Class.{key_of, number_at, size}
use Rattle.identifiers.specs.Stock.{Stock, IsSound, IsUsedUp}
use Rattle.identifiers.proofs.ClassLemmas.{within_iff, number_at-key_of, is_number-number_at, key_of-number_at}
use Rattle.identifiers.proofs.CountLemmas.{all_counted, each_passes}

module _ {T : Type 0} where
  pub full_iff : (s : Stock T) (freed : List ℕ) (room : ℕ) → IsSound s.slots freed room s.class → (size s.class ≤ count_by is_some s.slots) ↔ IsUsedUp s
  full_iff s freed room sound = (
    λ full n is within.
        let key = key_of s.class n in
        let below : key < size s.class = (within_iff s.class key sound.is_class).1 (rw (number_at-key_of s.class n is) within) in
        rw is (each_passes is_some s.slots None (size s.class) key sound.within full below),
    λ used. all_counted is_some s.slots None (size s.class) refl (λ k below.
        let h = used (number_at s.class k) (is_number-number_at s.class k sound.is_class) ((within_iff s.class k sound.is_class).0 below) in
        rw (is_number-number_at s.class k sound.is_class, key_of-number_at s.class k sound.is_class) at h),
  )
