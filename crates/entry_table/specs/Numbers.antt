-- Which component of a configuration a set of values is for, as a number, in the order of the format's table: the link, the lines
-- with place, mode, events list and signals, the contexts, the ephemerals with place, mode and Remote, then what is cut.
use Rattle.std.specs.Prelude.{ℕ, ◌+◌, ◌*◌}
use Rattle.mg_model.specs.declared.commands.Termination.{Termination}
use Rattle.mg_model.specs.declared.commands.Termination.TheVariants.{Line, Ephemeral}
use Rattle.mg_model.specs.Entries.{Component, links, spots, modes, events, plays, contexts, remotes, cuts}

abbrev pub termination_number : Termination → ℕ
termination_number (Line i) = i
termination_number (Ephemeral k) = 4 + k

abbrev pub number_of : Component → ℕ
number_of (links values) = 0
number_of (spots (Line i) values) = 1 + 4 * i
number_of (modes (Line i) values) = 2 + 4 * i
number_of (events i values) = 3 + 4 * i
number_of (plays i values) = 4 + 4 * i
number_of (contexts j values) = 17 + j
number_of (spots (Ephemeral k) values) = 21 + 3 * k
number_of (modes (Ephemeral k) values) = 22 + 3 * k
number_of (remotes k values) = 23 + 3 * k
number_of (cuts t u values) = 33 + 8 * termination_number t + termination_number u
