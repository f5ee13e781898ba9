-- What the keys and values of a document have to be, whatever its format. Here every fault is a bad key, so the order of
-- reading can't matter: a shape is a function from a part of a document's tree to what it says, or nothing. A reader
-- should check that an answer is what the shape gives, and a bad key only where the shape gives nothing.
use Rattle.std.specs.Prelude.{◌≡◌, List, [], ◌∷◌, Bool, if◌then◌else◌, Option, Some, None, option_and_then, Result, Ok, Err}
use Rattle.typed_values.specs.declared.missing.Missing.{Missing}
use Rattle.typed_values.specs.declared.missing.Missing.TheVariants.{Nothing, Memory}

infixl 10 ◌>>=◌
abbrev pub ◌>>=◌ : {A B : Type 0} → Option A → (A → Option B) → Option B
o >>= f = option_and_then f o

-- nothing but where the test holds
abbrev pub only_if : {A : Type 0} → Bool → Option A → Option A
only_if b o = if b then o else None

-- what is meant by each element, or nothing where one means nothing
abbrev pub each : {A B : Type 0} → (A → Option B) → List A → Option (List B)
each f [] = Some []
each f (x ∷ xs) = f x >>= λ y. each f xs >>= λ ys. Some (y ∷ ys)

-- What a function returned, seen by view, is what a shape gives: a bad key where it gives nothing, unless memory ran out.
abbrev pub Misses : {Y : Type 0} → Missing → Option Y → Type 0
Misses Memory shape = Unit {0}
Misses Nothing shape = shape ≡ None

abbrev pub Gives : {X Y : Type 0} → (X → Y) → Result X Missing → Option Y → Type 0
Gives view (Ok x) shape = shape ≡ Some (view x)
Gives view (Err e) shape = Misses e shape

-- ---- what stands at a key, if anything does

-- a value that has to be there
abbrev pub needed_at : {D A : Type 0} → (D → Option A) → Option D → Option A
needed_at shape None = None
needed_at shape (Some d) = shape d

-- a value that may be left out
abbrev pub optional_at : {D A : Type 0} → (D → Option A) → Option D → Option (Option A)
optional_at shape None = Some None
optional_at shape (Some d) = shape d >>= λ x. Some (Some x)

-- a value of many parts, none of them where it is left out
abbrev pub listed_at : {D A : Type 0} → (D → Option (List A)) → Option D → Option (List A)
listed_at shape None = Some []
listed_at shape (Some d) = shape d
