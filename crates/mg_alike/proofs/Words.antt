-- The words of the laws of calls that two worlds treat alike, and of the laws below them, brought in from one place.
pub use Rattle.mg_model.specs.Accepted.{HasFewCommands, most_commands}
pub use Rattle.mg_alike.specs.Agents.{AgentsAlike, PhasesAlike, StepsAlike}
pub use Rattle.mg_alike.specs.Alone.{CallsAloneNeverRunOut, CallsAreIsolated, CallsAreIsolatedThroughout, CallsOpenAlone, CallsWithHeirsAreIsolated}
pub use Rattle.mg_alike.specs.Alone.{ClassesGiveEnough, HappensAlone, HasEnoughNumbers, NeverRunsOut, begins_on, events_alone, events_with_heirs, heir_of}
pub use Rattle.mg_alike.specs.Alone.{most_in_use}
unfoldable pub use Rattle.mg_alike.specs.Alone.{RunsBeside}
pub use Rattle.mg_alike.specs.Boards.{BoardsAlike, OptionalRowsAlike, PlacesAlike, RemotesAlike, RowsAlike, TermsAlike}
pub use Rattle.mg_alike.specs.Laws.{AgentsStepAlike, AreReached, BeginningsAlike, BeginningsHappenAlike, EventsAlike, EventsHappenAlike, ExecutesAlike}
pub use Rattle.mg_alike.specs.Laws.{IsBeginning, OpeningsTreatAlike, OthersLeaveAlike, RestartsAlike, StepAlike, TreatmentIsMutual}
pub use Rattle.mg_alike.specs.Messages.{CommandsAlike, ContextRefsAlike, DescriptorsAlike, DoneAlike, EphemeralRefsAlike, RemoteRefsAlike, RepliesAlike}
pub use Rattle.mg_alike.specs.Messages.{RequestsAlike, TerminationRefsAlike}
pub use Rattle.mg_alike.specs.Renaming.{ContextsAlike, EphemeralsAlike, IsOneToOne, IsRenaming, IsWord, OptionsAlike, Pairwise, Renaming, SetsAlike}
pub use Rattle.mg_alike.specs.Worlds.{AreSentInBoth, CallAlike, KeptAlike, OwnAlike, SameReply, TreatAlike, anything, is_awaited}
pub use Rattle.mg_merge.specs.Identifiers.{most_shards}
pub use Rattle.mg_safety.specs.Laws.{IsRetiredBy, IsSameFor}
pub use Rattle.mg_safety.specs.MessageNumbers.{AreNamedByNumber, AreOnce}
pub use Rattle.mg_safety.specs.Others.{IsLeftAlone, IsOwnedBy}
