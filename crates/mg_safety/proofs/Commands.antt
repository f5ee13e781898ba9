-- One command: where it is executed on the board, it is legal in the configuration and leads to its effect; and where it is legal there, no
-- code refuses it on the board, but where no number is left.
pub mod OneRow
pub mod Placing
pub mod InForce
pub mod Binding
pub mod Carrying
pub mod Setting
pub mod EnteredContexts
pub mod InPlace
pub mod InContext
pub mod EphemeralNames
pub mod Modify
pub mod Move
pub mod AddLine
pub mod Creating
pub mod CreatedShown
pub mod AddEphemeral
pub mod Leaving
pub mod LeavingChanges
pub mod SubtractCarried
pub mod TopologyCarried
pub mod LegalNames
pub mod Allowed
