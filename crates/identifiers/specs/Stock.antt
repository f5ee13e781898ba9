-- What identifiers show: by key the value, or that it was freed and this isn't settled; and the key that is given next. From them what
-- each number identifies, and which numbers are used. A reader should check that a number that was freed is used and identifies nothing.
use Rattle.std.specs.Prelude.{◌≡◌, ℕ, ◌<◌, ◌≤◌, Bool, true, false, IsTrue, if◌then◌else◌, List, length, count_by, Contains, Option, Some, None, is_some, slice_index_or, IsSomeAnd, MatchOption, refl}
use Rattle.std.specs.Coded.{Coded, code_by, coded×, coded_ℕ, coded_list, coded_option}
use Rattle.identifiers.specs.declared.class.Class.{Class}
use Rattle.identifiers.specs.Class.{is_number, key_of, number_at, size}

pub record Stock (T : Type 0) : Type 0 where
  -- by key: nothing; `Some None` where it was freed and isn't settled; or a value
  pub slots : List (Option (Option T))
  -- the key that is given next
  pub vacant : ℕ
  pub class : Class

abbrev pub stock_code : {T : Type 0} → Coded T → Coded (Stock T)
stock_code {T} code =
    code_by
    (List (Option (Option T)) × (ℕ × (ℕ × (ℕ × ℕ))))
    (coded× (coded_list (coded_option (coded_option code))) (coded× coded_ℕ (coded× coded_ℕ (coded× coded_ℕ coded_ℕ))))
    (λ s. (s.slots, (s.vacant, (s.class.first, (s.class.stride, s.class.last)))))
    (λ p. record { slots = p.0; vacant = p.1.0; class = record { first = p.1.1.0; stride = p.1.1.1.0; last = p.1.1.1.1 } })
    (λ _. refl)

module _ {T : Type 0} where
  abbrev pub slot_at : List (Option (Option T)) → ℕ → Option (Option T)
  slot_at slots key = slice_index_or slots key None

  -- a place without a value has none
  abbrev pub value_in : Option (Option T) → Option T
  value_in None = None
  value_in (Some value) = value

  -- what a number identifies
  abbrev pub at : Stock T → ℕ → Option T
  at s n = if is_number s.class n then value_in (slot_at s.slots (key_of s.class n)) else None

  abbrev pub is_held : Stock T → ℕ → Bool
  is_held s n = is_some (at s n)

  -- it identifies something, or it was freed and isn't settled
  abbrev pub is_used : Stock T → ℕ → Bool
  is_used s n = if is_number s.class n then is_some (slot_at s.slots (key_of s.class n)) else false

  -- each number of the class is used
  abbrev pub IsUsedUp : Stock T → Type 0
  IsUsedUp s = (n : ℕ) → IsTrue (is_number s.class n) → n ≤ s.class.last → IsTrue (is_used s n)

  -- the number that is given next
  abbrev pub next_of : Stock T → ℕ
  next_of s = number_at s.class s.vacant

  -- a number that is given: the next one, of the class, and not used
  pub record IsGiven (s : Stock T) (n : ℕ) : Type 0 where
    pub next : n ≡ next_of s
    pub number : IsTrue (is_number s.class n)
    pub within : n ≤ s.class.last
    pub fresh : is_used s n ≡ false
    pub absent : at s n ≡ None

  -- a value that is there is replaced
  abbrev pub replaced : T → Option T → Option T
  replaced value None = None
  replaced value (Some old) = Some value

  pub record IsCopy (is_clone : T → T → Type 0) (s copy : Stock T) : Type 0 where
    pub values : (n : ℕ) → MatchOption (at s n) (at copy n ≡ None) (λ value. IsSomeAnd (at copy n) (is_clone value))
    pub used : (n : ℕ) → is_used copy n ≡ is_used s n
    pub class : copy.class ≡ s.class

  -- ---- what is so of all identifiers

  abbrev pub is_freed : Option (Option T) → Bool
  is_freed None = false
  is_freed (Some None) = true
  is_freed (Some (Some value)) = false

  -- the freed keys are listed, with room for each key that is used; and each of these has a number
  pub record IsSound (slots : List (Option (Option T))) (freed : List ℕ) (room : ℕ) (class : Class) : Type 0 where
    pub is_class : class.first < class.stride
    pub within : (key : ℕ) → IsTrue (is_some (slot_at slots key)) → key < size class
    pub listed : (key : ℕ) → slot_at slots key ≡ Some None → Contains freed key
    pub counted : length freed ≡ count_by is_freed slots
    pub has_room : count_by is_some slots ≤ room
