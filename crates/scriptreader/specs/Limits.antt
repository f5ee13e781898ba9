-- How much a document may have. A reader should check each number.
use Rattle.std.specs.Prelude.{length, Bool, ◌||◌, nat_lt}
use Rattle.std.specs.List.{list_any}
use Rattle.scriptreader.specs.Written.{Document}

-- this profile's limits
abbrev pub is_too_large : Document → Bool
is_too_large d =
    nat_lt 4 (length d.lines) || (nat_lt 4 (length d.contexts) || (nat_lt 4 (length d.ephemerals) || (nat_lt 64 (length d.states)
    || (nat_lt 16 (length d.events) || (nat_lt 16 (length d.signals) || (nat_lt 16 (length d.maps)
    || list_any (λ s. nat_lt 16 (length s.commands)) d.states))))))
