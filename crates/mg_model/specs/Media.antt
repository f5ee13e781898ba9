-- Paths of media on the gateway, and joined lines. Within a context media goes by modes and topology (H.248.1 sections
-- 7.1.7 and 7.1.18); from one context to another it crosses only between two ephemerals that name each other (this
-- profile's own). The definition is about lists of crossings. A reader should check the direction: a hop needs that the
-- first termination receives media for the context, and the second sends it out.
use Rattle.std.specs.Prelude.{◌≡◌, ℕ, ◌==◌, Bool, true, false, not, ◌&&◌, IsTrue, List, [], ◌∷◌, Option, Some, None, ◌⊎◌}
use Rattle.mg_names.specs.declared.identifiers.TermId.{TermId}
use Rattle.mg_names.specs.declared.identifiers.TermId.TheVariants.{Line, Eph}
use Rattle.mg_names.specs.declared.modes.Mode.{Mode}
use Rattle.mg_names.specs.declared.modes.Mode.TheVariants.{Inactive, SendOnly, ReceiveOnly, SendReceive}
use Rattle.mg_model.specs.Board.{Board, same_term, exists, place_of, mode_of, remote_of}
use Rattle.mg_model.specs.Numbers.{null, the_line}

-- what each mode lets through, seen from outside the context (H.248.1 section 7.1.7): a termination receives from outside, for its
-- context, in ReceiveOnly and SendReceive, and sends what its context has to the outside in SendOnly and SendReceive
abbrev pub receives : Mode → Bool
receives ReceiveOnly = true
receives SendReceive = true
receives SendOnly = false
receives Inactive = false

abbrev pub sends : Mode → Bool
sends SendOnly = true
sends SendReceive = true
sends ReceiveOnly = false
sends Inactive = false

-- both stand in one context that is not the null context
abbrev pub share_context : Board → TermId → TermId → Bool
share_context b t u = not (place_of b t == null) && place_of b t == place_of b u

-- media goes from t to u, two different terminations of one context
abbrev pub hops : Board → TermId → TermId → Bool
hops b t u =
    not (same_term t u) && share_context b t u && receives (mode_of b t) && sends (mode_of b u) && not (b.cut t u)

abbrev pub is_number : Option ℕ → ℕ → Bool
is_number None k = false
is_number (Some i) k = i == k

-- media crosses between two different ephemerals that exist and name each other
abbrev pub crosses : Board → ℕ → ℕ → Bool
crosses b k i =
    not (k == i) && exists b (Eph k) && exists b (Eph i) && is_number (remote_of b (Eph k)) i && is_number (remote_of b (Eph i)) k

-- media goes from one termination to another over these crossings, in order, with a hop before, between and after them
abbrev pub goes_over : Board → TermId → List (ℕ × ℕ) → TermId → Bool
goes_over b from [] to = hops b from to
goes_over b from (crossing ∷ more) to =
    hops b from (Eph crossing.0) && crosses b crossing.0 crossing.1 && goes_over b (Eph crossing.1) more to

-- there is a path from the one line to another line
pub record HasPath (b : Board) (i j : ℕ) : Type 0 where
  pub another : i ≡ j → ⊥
  pub crossings : List (ℕ × ℕ)
  pub goes : IsTrue (goes_over b (Line (the_line i)) crossings (Line (the_line j)))

-- two lines are joined if there is a path either way
abbrev pub AreJoined : Board → ℕ → ℕ → Type 0
AreJoined b i j = HasPath b i j ⊎ HasPath b j i
