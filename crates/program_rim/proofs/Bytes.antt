-- What two writes in a row, or two reads in a row, do together.
use Rattle.std.proofs.Common.{◌+◌, ◌-◌, ℕ, List, Option, length, take, drop, subst, sym}
use Rattle.std.proofs.Math.Seq.{take-add}
use Rattle.std.proofs.lemmas.List.{take_rest}
use Rattle.std.proofs.KnownBytes.{Appends-trans}
use Rattle.std.specs.Io.KnownBytes.{Appends}

-- the first n bytes of a text and then the next m are its first n + m
pub Appends-next : (a b c : Option (List ℕ)) (text : List ℕ) (n m : ℕ) → Appends a b (take n text)
    → Appends b c (take m (take (length text - n) (drop n text))) → Appends a c (take (n + m) text)
Appends-next a b c text n m first second =
    let next = subst (λ rest. Appends b c (take m rest)) (take_rest text n) second in
    subst (Appends a c) (sym (take-add n m text)) (Appends-trans a b c _ _ first next)
