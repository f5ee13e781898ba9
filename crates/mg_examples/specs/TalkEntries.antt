-- The entries of the scripts `calling`: those of `idle`, with armed lines and with empty events lists; those of `talk`, while its request is sent or was
-- refused at once, after a refusal of its second command, and after both commands; and those of `stopped` after either refusal.
use Rattle.std.specs.Prelude.{List, [], ◌∷◌, Some}
use Rattle.mg_names.specs.declared.context_values.ContextValue.TheVariants.{Free, Live}
use Rattle.mg_names.specs.declared.phases.LinkPhase.TheVariants.{Sent, Answered, Failed, Resting}
use Rattle.mg_model.specs.declared.commands.EventsName.TheVariants.{Empty, Armed}
use Rattle.mg_model.specs.Entries.{Entry}
use Rattle.mg_examples.specs.EntriesOfTwo.{null, talking, entry_of}

-- in `idle` with empty events lists: what a call is in after a restart, where `idle` is the restart state
abbrev pub idle_unarmed : Entry
idle_unarmed = entry_of 0 (Answered ∷ Resting ∷ []) Empty null null (Some Free)

-- at rest in `idle`, armed: what a call opens in
abbrev pub idle_armed : Entry
idle_armed = entry_of 0 (Resting ∷ []) Armed null null (Some Free)

-- the request is sent, or its first command was refused
abbrev pub sent : Entry
sent = entry_of 1 (Sent ∷ Failed ∷ []) Armed null null (Some Free)

-- its second command was refused
abbrev pub half : Entry
half = entry_of 1 (Failed ∷ []) Armed talking null (Some Live)

abbrev pub both : Entry
both = entry_of 1 (Answered ∷ Resting ∷ []) Armed talking talking (Some Live)

abbrev pub stopped_at_once : Entry
stopped_at_once = entry_of 2 (Answered ∷ Resting ∷ []) Armed null null (Some Free)

abbrev pub stopped_half : Entry
stopped_half = entry_of 2 (Answered ∷ Resting ∷ []) Armed talking null (Some Live)

-- all that such a call can be in
abbrev pub reachable : List Entry
reachable = idle_unarmed ∷ idle_armed ∷ sent ∷ half ∷ both ∷ stopped_at_once ∷ stopped_half ∷ []

-- ---- entries that leave something out

-- what a call opens in is left out
abbrev pub after_a_restart : List Entry
after_a_restart = idle_unarmed ∷ []

-- what a call is in after a restart is left out, where `idle` isn't the restart state
abbrev pub at_rest : List Entry
at_rest = idle_armed ∷ []

-- what the step into `talk` leads to is left out
abbrev pub in_idle : List Entry
in_idle = idle_unarmed ∷ idle_armed ∷ []
