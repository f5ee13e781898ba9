-- The steps of agents: replies, passes, notes, timers, and hearing of an association.
pub mod EffectiveAgent
pub mod Entering
pub mod AgentSteps
pub mod AgentParts
pub mod AgentSound
pub mod ReplySound
pub mod Observing
pub mod NoteSound
pub mod HearSound
