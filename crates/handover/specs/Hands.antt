-- What is handed on through a queue, counted by its number. A reader should check the rule: for each number, what was put into the queue is what was taken
-- out of it and what stands in it, where nothing stands twice; and who puts a thing in holds it before. This profile's own.
use Rattle.std.specs.Prelude.{◌≡◌, ℕ, ◌+◌, ◌<◌, ◌≤◌, ◌==◌, if◌then◌else◌, List, [], ◌∷◌, length, map}
use mathlib.Core.Option.{some}
use lib.ListN.{get_elem?}
use Rattle.handover.specs.declared.hand.NumberedItem.{NumberedItem}
use Rattle.handover.specs.declared.hand.Hand.{Hand}

-- ---- counting

-- how often a number stands in a list
unfoldable pub times : ℕ → List ℕ → ℕ
times n [] = 0
times n (x ∷ xs) = (if n == x then 1 else 0) + times n xs

abbrev pub numbers_of : {T : Type 0} → List (NumberedItem T) → List ℕ
numbers_of items = map (λ item. item.number) items

-- the sum of a number of each
abbrev pub total : (Hand → ℕ) → List Hand → ℕ
total f [] = 0
total f (v ∷ views) = f v + total f views

-- ---- what each share knows

-- the parts of the right to know the whole; the numbers of the things that it put into the queue for the first time, of all that it put into it, and of
-- all that it took out
abbrev pub hand : (parts : ℕ) (begun put taken : List ℕ) → Hand
hand parts begun put taken = record { parts = parts; begun = begun; put = put; taken = taken }

-- a new queue has one share, which has all of them
abbrev pub all_parts : ℕ
all_parts = 1024

-- it began the thing with this number or took it out, and didn't put it in since
abbrev pub Holds : Hand → ℕ → Type 0
Holds v n = times n v.put < times n v.begun + times n v.taken

pub record IsHand (v : Hand) : Type 0 where
  -- it put in nothing that it didn't hold
  pub held : (n : ℕ) → times n v.put ≤ times n v.begun + times n v.taken
  -- one with no part did nothing
  pub idle : v.parts ≡ 0 → v ≡ hand 0 [] [] []

-- ---- the rule

pub record IsFair (items : List ℕ) (views : List Hand) : Type 0 where
  pub parts : total (λ v. v.parts) views ≡ all_parts
  -- for each number, what was put in is what was taken out and what stands in the queue
  pub balanced : (n : ℕ) → total (λ v. times n v.put) views ≡ total (λ v. times n v.taken) views + times n items
  pub counted : total (λ v. length v.put) views ≡ total (λ v. length v.taken) views + length items
  -- no number is begun twice
  pub once : (n : ℕ) → total (λ v. times n v.begun) views ≤ 1
  pub each : (share : ℕ) (v : Hand) → get_elem? views share ≡ some v → IsHand v

-- ---- what a share with all parts learns

-- for each number, it put in as many as it took out, and one more exactly where one stands in the queue
pub record Stand (v : Hand) (items : List ℕ) : Type 0 where
  pub balanced : (n : ℕ) → times n v.put ≡ times n v.taken + times n items
  pub counted : length v.put ≡ length v.taken + length items
  pub once : (n : ℕ) → times n items ≤ 1

abbrev pub LearnsAll : Hand → List ℕ → Type 0
LearnsAll v items = v.parts ≡ all_parts → Stand v items
