-- The world of a shard beside that of the merge, event by event.
pub mod AgentNames
pub mod Worlds
pub mod AgentSteps
pub mod LineEvents
pub mod Beginnings
pub mod Settled
pub mod Requests
pub mod CallEvents
pub mod Restarts
