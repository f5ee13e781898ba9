-- A request in two worlds that are alike: its commands by names that are bound alike, one of them, and all.
pub mod Names
pub mod OneCommand
pub mod Exist
pub mod Runs
pub mod Starting
