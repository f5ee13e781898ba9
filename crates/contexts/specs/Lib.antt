pub mod Paths
pub mod Found
pub mod Groups
pub mod TiedBoard
pub mod BoardValue
pub mod Rows
pub mod Steps
pub mod Faults
