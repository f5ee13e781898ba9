-- What holds of every shard. A reader should check that it is said of whatever world the shard shows, and so after every step that was ever taken in it.
use Rattle.std.specs.Prelude.{◌≤◌}
use Rattle.mg_merge.specs.Identifiers.{executes_in, most_executes}
use Rattle.mg_model.specs.Shards.{HasIdentifiersLeft, RunsWithin}
use Rattle.mg_model.specs.World.{World, IsGood}
use Rattle.shards.specs.Shards.{IsWorldOf, ShardValue}

-- an audio path joins two lines only inside one call whose current state marks that pair as talking, and a call that has ended is released
abbrev pub WorldsAreGood : ShardValue → Type 0
WorldsAreGood v = (w : World) → IsWorldOf v w → IsGood v.script w

-- after no more executes than a plan may have, identifiers were left before each event of the history, so that none was refused for want of one
abbrev pub IdentifiersLasted : ShardValue → Type 0
IdentifiersLasted v = (w : World) (is : IsWorldOf v w) → executes_in v.history ≤ most_executes → RunsWithin v.script v.history is.start w

-- and are left now
abbrev pub IdentifiersAreLeft : ShardValue → Type 0
IdentifiersAreLeft v = (w : World) → IsWorldOf v w → executes_in v.history ≤ most_executes → HasIdentifiersLeft w
