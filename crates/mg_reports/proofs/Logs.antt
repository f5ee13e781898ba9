-- The log of a gateway's steps, and each call of it.
pub mod Standing
pub mod Counts
pub mod Turns
pub mod Others
pub mod Entries
pub mod Told
