-- Pieces of a certificate, and what is found of each. A reader should check that no entry is left out and none is in two pieces.
use Rattle.std.specs.Prelude.{◌≡◌, ℕ, ◌≤◌, ◌^◌, List, [], ◌∷◌}
use Rattle.mg_model.specs.Script.{Script}
use Rattle.mg_model.specs.Entries.{Entry}
use Rattle.closure.specs.declared.first_fault.Finding.{Finding}
use Rattle.closure.specs.Runs.{IsOfRun}
use Rattle.parcheck.specs.declared.pieces.Piece.{Piece}
use Rattle.parcheck.specs.declared.walked.Walked.{Walked}

-- each piece begins where the one before it ends, the first at a place, and the last ends at another
abbrev pub AreRuns : ℕ → List Piece → ℕ → Type 0
AreRuns first [] last = first ≡ last
AreRuns first (piece ∷ pieces) last = (piece.first ≡ first) × (first ≤ piece.last) × AreRuns piece.last pieces last

-- what a job has walked over of its piece: a run from its first entry on, up to its end or less
pub record IsOfPiece (script : Script) (entries : List Entry) (piece : Piece) (walked : Walked) : Type 0 where
  pub from : walked.first ≡ piece.first
  pub rises : walked.first ≤ walked.last
  pub within : piece.first ≤ piece.last → walked.last ≤ piece.last
  pub found : IsOfRun script entries walked.first walked.last walked.found

-- runs that jobs have walked over, and what is found of each: in file order, from a place on and up to another. Between two there may be
-- entries that no job has walked over
abbrev pub AreWalked : Script → List Entry → ℕ → List Walked → ℕ → Type 0
AreWalked script entries first [] last = first ≤ last
AreWalked script entries first (walked ∷ more) last =
    (first ≤ walked.first) × (walked.first ≤ walked.last) × IsOfRun script entries walked.first walked.last walked.found
    × AreWalked script entries walked.last more last

-- what is found of two runs, of which the second begins where the first ends
abbrev pub IsOfBoth : Finding → Finding → Finding → Type 0
IsOfBoth first second both =
    (script : Script) (entries : List Entry) (a b c : ℕ) → a ≤ b → b ≤ c → c ≤ 2 ^ 64
    → IsOfRun script entries a b first → IsOfRun script entries b c second → IsOfRun script entries a c both

-- what is found of a run that goes on to a place
abbrev pub IsFurther : Script → List Entry → ℕ → ℕ → Finding → Finding → Type 0
IsFurther script entries reached last found further =
    (first : ℕ) → first ≤ reached → reached ≤ last → last ≤ 2 ^ 64 → IsOfRun script entries first reached found → IsOfRun script entries first last further
