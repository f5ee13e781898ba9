-- A class of numbers: those from 1 to a last one that leave the same rest where they are divided by a stride (this profile's own). A
-- reader should check that 0, which is no number, has no key.
use Rattle.std.specs.Prelude.{ℕ, ◌+◌, ◌-◌, ◌*◌, ◌/◌, ◌%◌, ◌==◌, nat_lt, Bool, ◌&&◌, if◌then◌else◌, Option, Some, None}
use Rattle.identifiers.specs.declared.class.Class.{Class}

-- the numbers that a gateway of this class gives at all
abbrev pub is_of_class : ℕ → ℕ → ℕ → Bool
is_of_class first stride n = n % stride == first

abbrev pub is_number : Class → ℕ → Bool
is_number class n = nat_lt 0 n && is_of_class class.first class.stride n

-- 1 where 0 would have the first key
abbrev pub skipped : ℕ → ℕ
skipped first = if first == 0 then 1 else 0

abbrev pub key_of : Class → ℕ → ℕ
key_of class n = n / class.stride - skipped class.first

abbrev pub key_in : Class → ℕ → Option ℕ
key_in class n = if is_number class n then Some (key_of class n) else None

abbrev pub number_at : Class → ℕ → ℕ
number_at class key = (key + skipped class.first) * class.stride + class.first

-- how many numbers there are
abbrev pub size : Class → ℕ
size class = (class.last + class.stride - class.first) / class.stride - skipped class.first
