pub mod Words
pub mod Shared
pub mod Agents
pub mod Commands
pub mod Requests
pub mod Events
pub mod Alone
