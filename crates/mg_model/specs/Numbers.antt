-- The numbers that mean something by themselves: the ContextIDs that are the number of no context (H.248.1 section 8.1.2 and Annex A), and where
-- the numbers of associations, of transactions and notes, and of ephemerals begin and end (this profile's own).
use Rattle.std.specs.Prelude.{ℕ}
use Rattle.mg_names.specs.declared.identifiers.Assoc.{Assoc}
use Rattle.mg_names.specs.declared.identifiers.CallNo.{CallNo}
use Rattle.mg_names.specs.declared.identifiers.ContextId.{ContextId}
use Rattle.mg_names.specs.declared.identifiers.LineNo.{LineNo}

-- the line, the call, the context and the association with a number
abbrev pub the_line : ℕ → LineNo
the_line n = record { 0 = n }

abbrev pub the_call : ℕ → CallNo
the_call n = record { 0 = n }

abbrev pub the_context : ℕ → ContextId
the_context n = record { 0 = n }

abbrev pub the_association : ℕ → Assoc
the_association n = record { 0 = n }

-- the null context, CHOOSE and ALL
abbrev pub null : ℕ
null = 0

abbrev pub choose : ℕ
choose = 4294967294

abbrev pub all : ℕ
all = 4294967295

-- the greatest number of a context
abbrev pub last_context : ℕ
last_context = 4294967293

-- the number that no ephemeral has
abbrev pub no_ephemeral : ℕ
no_ephemeral = 0

-- the greatest number of an ephemeral
abbrev pub last_ephemeral : ℕ
last_ephemeral = 4294967295

-- the first association, and the last
abbrev pub first_association : ℕ
first_association = 1

abbrev pub last_association : ℕ
last_association = 18446744073709551615

-- the first number of a transaction, the RequestID of the descriptor that a line opens with, and the greatest number of a transaction
-- and of a note
abbrev pub first_number : ℕ
first_number = 1

abbrev pub opening_request : ℕ
opening_request = 0

abbrev pub last_number : ℕ
last_number = 4294967295

-- the greatest count of a plan's calls
abbrev pub plan_calls : ℕ
plan_calls = 10000
