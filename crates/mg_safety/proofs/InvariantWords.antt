-- The words of the invariant that its proofs cite, brought in from one place. Declares nothing.
pub use Rattle.mg_safety.proofs.Invariant.CarriedOver.{IsCarried, IsCarriedOver, IsReady}
pub use Rattle.mg_safety.proofs.Invariant.Shown.{AreBuilt, ChangesOwned, IsAccounted, LinesShown, Naming, Owner, RemoteReads, RemoteSeen, Seen, Shown}
pub use Rattle.mg_safety.proofs.Invariant.Shown.{built_after, context_for, context_made, cut_on, eph_of, ephemeral_for, ephemeral_made, ephemeral_settings}
pub use Rattle.mg_safety.proofs.Invariant.Shown.{item_for, known_by, line_settings, list_raises, named_after, naming, naming_at, number_at, owned_at, place_for}
pub use Rattle.mg_safety.proofs.Invariant.Shown.{raises_kind, remote_for, row_on, target_for, term_for, term_of}
pub use Rattle.mg_safety.proofs.Invariant.Sound.{CallIsSound, GatewayIsSound, IsAboveFloor, IsAnswered, IsAt, IsCurrent, IsCurrentAt, IsKnown, IsLost}
pub use Rattle.mg_safety.proofs.Invariant.Sound.{IsNoteSound}
pub use Rattle.mg_safety.proofs.Invariant.Sound.{IsNoteStanding, IsOfScript, IsOpen, IsOutstanding, IsPassing, IsReached, IsReplySound, IsResting, IsSentBy}
pub use Rattle.mg_safety.proofs.Invariant.Sound.{IsSound, Stands, is_call, link_of, owned_in, owner_of}
pub use Rattle.mg_safety.proofs.Invariant.Statements.{IsClosed, IsOwnChange, IsRunOf, KeepsSound, LineGoes, NoneBrokenIsClosed, OpeningsAreSound}
pub use Rattle.mg_safety.proofs.Invariant.Statements.{OthersStayShown, OwnersAgree, RequestsRun, SoundIsGood}
