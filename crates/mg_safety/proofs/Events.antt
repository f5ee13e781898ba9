-- The events of the gateway and what they leave to other calls: executes, events of lines, restarts, calls that begin; and openings.
pub mod Others
pub mod StillSound
pub mod StayApart
pub mod RowAfterEvent
pub mod LineEventsSound
pub mod Executing
pub mod ExecutedCalls
pub mod ExecutedGateway
pub mod ExecuteSound
pub mod Restarts
pub mod Openings
pub mod Handover
pub mod BegunCalls
pub mod BeginSound
