pub mod Words
pub mod Scopes
pub mod Commands
pub mod Events
pub mod Shards
pub mod Identifiers
