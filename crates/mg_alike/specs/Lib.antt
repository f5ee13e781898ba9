pub mod Renaming
pub mod Messages
pub mod Agents
pub mod Boards
pub mod Worlds
pub mod Alone
pub mod Laws
