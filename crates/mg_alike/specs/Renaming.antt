-- A renaming of identifiers between two worlds: which context of the one stands for which context of the other, and which ephemeral for which. A reader
-- should check that a renaming is one to one, that it says nothing of lines, and that the words null, CHOOSE and ALL stand for themselves alone.
use Rattle.std.specs.Prelude.{◌≡◌, ℕ, Bool, IsTrue, List, [], ◌∷◌, Contains, Option, Some, None, ◌⊎◌}
use Rattle.mg_model.specs.Items.{is_context_number}
use Rattle.mg_model.specs.Numbers.{null, choose, all, no_ephemeral}

pub record Renaming : Type 0 where
  -- whether the first context, of the one world, stands for the second, of the other
  pub contexts : ℕ → ℕ → Bool
  -- the same of ephemerals
  pub ephemerals : ℕ → ℕ → Bool

-- nothing stands for two, and for nothing stand two
pub record IsOneToOne (pairs : ℕ → ℕ → Bool) : Type 0 where
  pub onward : (x y z : ℕ) → IsTrue (pairs x y) → IsTrue (pairs x z) → y ≡ z
  pub back : (x y z : ℕ) → IsTrue (pairs x z) → IsTrue (pairs y z) → x ≡ y

-- a renaming is one to one, and of contexts that have numbers of contexts
pub record IsRenaming (r : Renaming) : Type 0 where
  pub contexts : IsOneToOne r.contexts
  pub ephemerals : IsOneToOne r.ephemerals
  pub numbers : (x y : ℕ) → IsTrue (r.contexts x y) → is_context_number x × is_context_number y

-- what is there in both worlds, renamed, or in neither
abbrev pub OptionsAlike : (ℕ → ℕ → Bool) → Option ℕ → Option ℕ → Type 0
OptionsAlike pairs None None = Unit {0}
OptionsAlike pairs (Some x) (Some y) = IsTrue (pairs x y)
OptionsAlike pairs None (Some y) = ⊥
OptionsAlike pairs (Some x) None = ⊥

-- the same numbers but for the renaming, in any order
pub record SetsAlike (pairs : ℕ → ℕ → Bool) (one other : List ℕ) : Type 0 where
  pub onward : (x : ℕ) → Contains one x → (y : ℕ) × IsTrue (pairs x y) × Contains other y
  pub back : (y : ℕ) → Contains other y → (x : ℕ) × IsTrue (pairs x y) × Contains one x

-- the null context, CHOOSE and ALL
abbrev pub IsWord : ℕ → Type 0
IsWord n = (n ≡ null) ⊎ ((n ≡ choose) ⊎ (n ≡ all))

-- a context as a request names it: by a word, or by a number that is renamed
abbrev pub ContextsAlike : Renaming → ℕ → ℕ → Type 0
ContextsAlike r c d = (IsWord c × (c ≡ d)) ⊎ IsTrue (r.contexts c d)

-- an ephemeral as a request names it: by the number that none has, or by one that is renamed
abbrev pub EphemeralsAlike : Renaming → ℕ → ℕ → Type 0
EphemeralsAlike r x y = ((x ≡ no_ephemeral) × (y ≡ no_ephemeral)) ⊎ IsTrue (r.ephemerals x y)

-- two lists of one length, the elements in their order alike
abbrev pub Pairwise : {A : Type 0} → (A → A → Type 0) → List A → List A → Type 0
Pairwise alike [] [] = Unit {0}
Pairwise alike (x ∷ xs) (y ∷ ys) = alike x y × Pairwise alike xs ys
Pairwise alike [] (y ∷ ys) = ⊥
Pairwise alike (x ∷ xs) [] = ⊥
