-- The keys of a certificate and the kinds of their values. A reader should compare this with the table of the page on
-- formats.
use Rattle.std.specs.Prelude.{ℕ, List, [], ◌∷◌, ◌==◌, ◌||◌, Option, Some, codes}
use Rattle.serde_json.specs.Data.{Data}
use Rattle.serde_json.specs.Find.{as_str, as_number, as_u64}
use Rattle.typed_values.specs.Shape.{◌>>=◌, only_if}
use Rattle.certificate.specs.Keys.{list_of, needed, optional, tabled, has_only}
use Rattle.certificate.specs.Written.{Text, Line, Ephemeral, Entry, Document}

-- a list of words
abbrev pub words_meant : Data → Option (List Text)
words_meant = list_of as_str

abbrev pub line_keys : List Text
line_keys = codes "at" ∷ codes "mode" ∷ codes "events" ∷ codes "plays" ∷ []

abbrev pub line_meant : Data → Option Line
line_meant d =
    only_if (has_only line_keys d) (optional words_meant (codes "at") d >>= λ at.
    optional words_meant (codes "mode") d >>= λ mode.
    optional words_meant (codes "events") d >>= λ events.
    optional words_meant (codes "plays") d >>= λ plays.
    Some (record { at = at; mode = mode; events = events; plays = plays }))

abbrev pub ephemeral_keys : List Text
ephemeral_keys = codes "at" ∷ codes "mode" ∷ codes "remote" ∷ []

abbrev pub ephemeral_meant : Data → Option Ephemeral
ephemeral_meant d =
    only_if (has_only ephemeral_keys d) (optional words_meant (codes "at") d >>= λ at.
    optional words_meant (codes "mode") d >>= λ mode.
    optional words_meant (codes "remote") d >>= λ remote.
    Some (record { at = at; mode = mode; remote = remote }))

abbrev pub entry_keys : List Text
entry_keys = codes "state" ∷ codes "link" ∷ codes "lines" ∷ codes "contexts" ∷ codes "ephemerals" ∷ codes "cuts" ∷ []

abbrev pub entry_meant : Data → Option Entry
entry_meant d =
    only_if (has_only entry_keys d) (needed as_str (codes "state") d >>= λ state.
    needed words_meant (codes "link") d >>= λ link.
    tabled line_meant (codes "lines") d >>= λ lines.
    tabled words_meant (codes "contexts") d >>= λ contexts.
    tabled ephemeral_meant (codes "ephemerals") d >>= λ ephemerals.
    tabled words_meant (codes "cuts") d >>= λ cuts.
    Some (record { state = state; link = link; lines = lines; contexts = contexts; ephemerals = ephemerals; cuts = cuts }))

abbrev pub document_keys : List Text
document_keys = codes "version" ∷ codes "entries" ∷ []

-- the whole number of a value
abbrev pub whole_meant : Data → Option ℕ
whole_meant d = as_number d >>= as_u64

-- the version is 2, or 1, which was the one before: another one is a bad key
abbrev pub document_meant : Data → Option Document
document_meant d =
    only_if (has_only document_keys d) (needed whole_meant (codes "version") d >>= λ version.
    only_if (version == 1 || version == 2) (needed (list_of entry_meant) (codes "entries") d >>= λ entries.
    Some (record { is_old = version == 1; entries = entries })))
