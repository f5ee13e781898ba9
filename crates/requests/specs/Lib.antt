pub mod Views
pub mod Connected
pub mod Idle
pub mod Commands
