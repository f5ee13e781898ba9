-- What is told of an input with the line of its check, with the status of that line; or, where warnings count, with the status of a no for a yes of whose
-- script or certificate something is warned of, or whose calls can't all be brought to their ends, or leave a telephone forgotten where they rest. A reader
-- should check that a status of 0 says then that nothing is, that each call can be moved wherever it rests, that no telephone is forgotten in any state, and that
-- some number of moves brings each call to its end, from wherever it has come to, as `NoCallIsStuck` of `call_ends` asks. This profile's own.
use Rattle.std.specs.Prelude.{◌≡◌, ◌⊎◌, ℕ, Bool, true, false, ◌&&◌, List, [], ◌∷◌, ◌++◌, Option, Some, codes, string_bytes}
use Rattle.std.specs.List.{list_all}
use Rattle.std.specs.Fmt.{decimal}
use Rattle.mg_model.specs.Script.{Script}
use Rattle.mg_model.specs.Configuration.{Configuration}
use Rattle.mg_model.specs.Entries.{Entry}
use Rattle.composition.specs.Verdict.{AreRead}
use Rattle.call_ends.specs.Endings.{AreStateEndings, IsLeast, IsStuck}
use Rattle.call_ends.specs.declared.ending.StateEnding.{StateEnding}
use Rattle.call_ways.specs.Ways.{ComeToMany}
use Rattle.call_ways.specs.declared.way.Move.{Move}
use Rattle.call_ways.specs.Candidates.{candidates_of}
use Rattle.call_ways.specs.Warnings.{ArePicked}
use Rattle.call_ways.specs.declared.warning.Warning.{Warning}
use Rattle.check_lines.specs.Output.{Text, Line, text_of, line_status, yes}
use Rattle.check_lines.specs.VerdictLines.{IsLineOfSections}
use Rattle.program_rim.specs.Statuses.{code_of}
use Rattle.check_facts.specs.Forgotten.{ComeToManyOfALine, SomeIsForgotten}
use Rattle.check_facts.specs.declared.form.Form.{Form}
use Rattle.check_facts.specs.declared.form.Form.TheVariants as form
use Rattle.check_facts.specs.declared.said.Said.{Said}

-- the text begins with the line
abbrev pub IsHead : Line → Text → Type 0
IsHead l text = (rest : Text) × (text ≡ text_of l ++ (10 ∷ rest))

-- a JSON value with a line, a status and members; a reader should check that none of them has a quotation mark before its end
abbrev pub value_text : Line → (code : ℕ) → (members : Text) → Text
value_text l code members =
    codes "{\"format\":2,\"line\":\"" ++ (text_of l ++ (codes "\",\"status\":" ++ (decimal code ++ (members ++ codes "}\n"))))

-- the text is such a value with the line and the status
abbrev pub IsInValue : Line → (code : ℕ) → Text → Type 0
IsInValue l code text = (members : Text) × (text ≡ value_text l code members)

-- the line is told in each form, and in a value the status
abbrev pub Begins : Form → Line → (code : ℕ) → Text → Type 0
Begins form.Text l code text = IsHead l text
Begins form.Json l code text = IsInValue l code text

-- under a line, with its status
abbrev pub IsUnder : Form → Line → Said → Type 0
IsUnder form l said = Begins form l (code_of said.status) (string_bytes said.text) × (code_of said.status ≡ line_status l)

-- under a line of this kind
abbrev pub IsSaid : (Line → Type 0) → Form → Said → Type 0
IsSaid Is form said = (l : Line) × Is l × IsUnder form l said

-- calls that are in a state can be moved where they rest, and brought to their ends
abbrev pub ends_well : StateEnding → Bool
ends_well one = one.can_end && one.can_be_moved

-- whether so it is in each state
abbrev pub EndWell : Script → List Entry → Bool → Type 0
EndWell table entries well = (list : List StateEnding) × (AreStateEndings table entries list × (list_all ends_well list ≡ well))

-- so many moves bring each call to its end, from wherever it has come to
abbrev pub EachEnds : Script → List Entry → Type 0
EachEnds table entries = (moves : ℕ) × IsLeast table entries moves

-- from where a way leads no call can be brought to its end
abbrev pub OneIsStuck : Script → List Entry → Type 0
OneIsStuck table entries = (way : List (Move × Configuration)) × ((c : Configuration) × IsStuck table entries way c)

-- of the script and the certificate nothing is warned of, each call can be moved and be brought to its end, and no telephone is forgotten where calls rest
pub record IsWithoutWarning (table : Script) (entries : List Entry) : Type 0 where
  pub warnings : ArePicked table entries (candidates_of table entries) []
  pub well : EndWell table entries true
  pub ends : EachEnds table entries
  pub remembered : SomeIsForgotten table entries → ⊥

-- calls come to too many configurations to tell, or do so with the telephone of a line
abbrev pub ComeToTooMany : Script → List Entry → Type 0
ComeToTooMany table entries = ComeToMany table entries ⊎ ComeToManyOfALine table entries

-- something is warned of, or a call can't be moved or brought to its end, or a telephone is forgotten, or calls come to too many configurations to tell
abbrev pub IsInDoubt : Script → List Entry → Type 0
IsInDoubt table entries =
    ((first : Warning) × ((more : List Warning) × ArePicked table entries (candidates_of table entries) (first ∷ more)))
    ⊎ (EndWell table entries false ⊎ (OneIsStuck table entries ⊎ (SomeIsForgotten table entries ⊎ ComeToTooMany table entries)))

-- the status of a yes where warnings count
abbrev pub IsStrictStatus : Text → Text → ℕ → Type 0
IsStrictStatus script certificate code =
    (table : Script) × ((entries : List Entry) × (AreRead script certificate table entries
    × (((code ≡ 0) × IsWithoutWarning table entries) ⊎ ((code ≡ 1) × IsInDoubt table entries))))

-- the status that goes with a line, where warnings count or don't
abbrev pub IsStatus : Bool → Option (Text × Text) → Line → ℕ → Type 0
IsStatus true (Some (script, certificate)) (yes states count points) code = IsStrictStatus script certificate code
IsStatus strict sections l code = code ≡ line_status l

-- what is said of an input without a plan, by its two sections, where warnings count or don't
pub record IsTold (strict : Bool) (sections : Option (Text × Text)) (form : Form) (said : Said) : Type 0 where
  pub line : Line
  pub is : IsLineOfSections sections line
  pub begins : Begins form line (code_of said.status) (string_bytes said.text)
  pub status : IsStatus strict sections line (code_of said.status)
