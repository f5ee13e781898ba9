-- Messages are named by their numbers.
pub mod AgentNumbers
pub mod Numbered
pub mod NumberedWorlds
pub mod NumberedExecutes
pub mod NamedMessages
