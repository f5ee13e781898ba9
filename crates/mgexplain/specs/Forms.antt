-- What words ask for: a form, the number of one call of a plan, or both in either order; that warnings count, with or without a form, in either order; or
-- one of two words alone.
use Rattle.std.specs.Prelude.{ℕ, List, [], ◌∷◌, Option, Some, None, codes, if◌then◌else◌, ◌||◌}
use Rattle.std.specs.Str.{bytes_eq}
use Rattle.plans.specs.Texts.{number_in}
use Rattle.check_facts.specs.declared.form.Form.{Form}
use Rattle.check_facts.specs.declared.form.Form.TheVariants.{Text, Json}
use Rattle.mgexplain.specs.declared.words.Asked.{Asked}
use Rattle.mgexplain.specs.declared.words.Asked.TheVariants.{Saying, Strictly, Help, Version}

-- a form other than that of a text
abbrev pub form_of : List ℕ → Option Form
form_of word =
    if bytes_eq word (codes "--json") then Some Json else None

-- the number of a call, in decimal digits without leading zeros
abbrev pub call_number : List ℕ → Option ℕ
call_number word = number_in 0 4294967295 word

-- what is said of one call, where its number is one
abbrev pub of_call : Form → Option ℕ → Option Asked
of_call form None = None
of_call form (Some number) = Some (Saying form (Some number))

abbrev pub of_form : Option Form → Option ℕ → Option Asked
of_form None number = None
of_form (Some form) number = of_call form number

abbrev pub in_form : Option Form → Option Asked
in_form None = None
in_form (Some form) = Some (Saying form None)

abbrev pub asked_by : List ℕ → Option Asked
asked_by word =
    if bytes_eq word (codes "--help") || bytes_eq word (codes "-h") then Some Help
    else if bytes_eq word (codes "--version") then Some Version
    else if bytes_eq word (codes "--strict") then Some (Strictly Text)
    else in_form (form_of word)

-- with warnings counted
abbrev pub strictly : Option Form → Option Asked
strictly None = None
strictly (Some form) = Some (Strictly form)

abbrev pub asked_by_two : List ℕ → List ℕ → Option Asked
asked_by_two first second =
    if bytes_eq first (codes "--call") then of_call Text (call_number second)
    else if bytes_eq first (codes "--strict") then strictly (form_of second)
    else if bytes_eq second (codes "--strict") then strictly (form_of first)
    else None

abbrev pub asked_by_three : List ℕ → List ℕ → List ℕ → Option Asked
asked_by_three first second third =
    if bytes_eq first (codes "--call") then of_form (form_of third) (call_number second)
    else if bytes_eq second (codes "--call") then of_form (form_of first) (call_number third)
    else None

-- the words behind those that name files
abbrev pub asked_behind : List (List ℕ) → Option Asked
asked_behind [] = Some (Saying Text None)
asked_behind (word ∷ []) = asked_by word
asked_behind (first ∷ second ∷ []) = asked_by_two first second
asked_behind (first ∷ second ∷ third ∷ []) = asked_by_three first second third
asked_behind words = None
