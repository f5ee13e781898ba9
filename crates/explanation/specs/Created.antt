-- The names that a command creates, asked one by one.
use Rattle.std.specs.Prelude.{ℕ, ◌==◌, Bool, false, Option, Some, None}
use Rattle.mg_model.specs.Request.{created_context, created_ephemeral}
use Rattle.mg_model.specs.declared.commands.Command.{Command}

abbrev pub is_some_of : ℕ → Option ℕ → Bool
is_some_of n None = false
is_some_of n (Some m) = m == n

-- the command creates the context, or the ephemeral
abbrev pub creates_context : ℕ → Command → Bool
creates_context j command = is_some_of j (created_context command)

abbrev pub creates_ephemeral : ℕ → Command → Bool
creates_ephemeral k command = is_some_of k (created_ephemeral command)
