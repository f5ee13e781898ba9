-- A call among others beside a run of it alone.
pub mod Within
pub mod Placed
pub mod Unmoved
pub mod Turns
pub mod Reported
