-- What the limits look at of an entry, and which limit some entries pass. No public clause speaks of it: what the limits
-- are stands in the file on certificates.
use Rattle.std.specs.Prelude.{ℕ, ◌==◌, Bool, false, List, [], ◌∷◌, length, count_by, nat_lt, if◌then◌else◌, Option, Some, None, option_map}
use Rattle.std.specs.List.{list_any}
use Rattle.mg_model.specs.Script.{Script}
use Rattle.mg_model.specs.declared.commands.Termination.{Termination}
use Rattle.mg_model.specs.declared.commands.Termination.TheVariants.{Line, Ephemeral}
use Rattle.mg_model.specs.Entries.{Component, cuts}
use Rattle.entry_table.specs.Listed.{Listed, choices_of}
use Rattle.certificate.specs.Certificate.{listed_meant, has_empty, is_large, some_below}
use Rattle.certificate.specs.Components.{set_or}
use Rattle.certificate.specs.Naming.{cut_named}
use Rattle.certificate.specs.Ranks.{switch_rank}
use Rattle.certificate.specs.Written as written
use Rattle.certificate.specs.Written.{Text}
use Rattle.certificate.specs.declared.fault.CertFault.{CertFault}
use Rattle.certificate.specs.declared.fault.CertFault.TheVariants.{EmptySet, TooManyEntries, TooManyPoints}
use Rattle.certificate.specs.declared.key.Key.{Key}
use Rattle.certificate.specs.declared.key.Key.TheVariants as key
use Rattle.certificate.specs.declared.outline.Outline.{Outline}

abbrev pub outline_of : Listed → Outline
outline_of entry = record { state = entry.state; is_empty = has_empty entry; is_large = is_large entry }

abbrev pub outline_meant : Script → written.Entry → Option Outline
outline_meant script entry = option_map outline_of (listed_meant script entry)

-- nothing, where a component has one value, and else the component itself
abbrev pub varied : Component → List Component
varied component = if length (choices_of component) == 1 then [] else component ∷ []

-- an entry writes nothing for terminations of the kind of this one
abbrev pub has_none_like : written.Entry → Termination → Bool
has_none_like entry (Line i) = length entry.lines == 0
has_none_like entry (Ephemeral k) = length entry.ephemerals == 0

-- an entry writes nothing of the kind of a key
abbrev pub is_left_out : written.Entry → Key → Bool
is_left_out entry key.Link = false
is_left_out entry (key.Spot t) = has_none_like entry t
is_left_out entry (key.Mode t) = has_none_like entry t
is_left_out entry (key.Events i) = length entry.lines == 0
is_left_out entry (key.Plays i) = length entry.lines == 0
is_left_out entry (key.Context j) = length entry.contexts == 0
is_left_out entry (key.Remote k) = length entry.ephemerals == 0
is_left_out entry (key.Cut source sink) = length entry.cuts == 0

-- the cuts of a pair of terminations, by what is written for it
abbrev pub cuts_meant : Termination → Termination → Option (List Text) → Option Component
cuts_meant source sink words = option_map (cuts source sink) (set_or switch_rank cut_named false words)

abbrev pub outlined_for : List Outline → ℕ → ℕ
outlined_for outlines state = count_by (λ outline. outline.state == state) outlines

abbrev pub has_crowd_in : Script → List Outline → Bool
has_crowd_in script outlines = some_below (length script.states) (λ state. nat_lt 256 (outlined_for outlines state))

abbrev pub limit_passed : Script → List Outline → Option CertFault
limit_passed script outlines =
    if list_any (λ outline. outline.is_empty) outlines then Some EmptySet
    else if has_crowd_in script outlines then Some TooManyEntries
    else if list_any (λ outline. outline.is_large) outlines then Some TooManyPoints
    else None
