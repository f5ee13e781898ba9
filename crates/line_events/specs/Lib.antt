pub mod Faults
pub mod Collecting
pub mod Answers
pub mod Rows
pub mod Raising
