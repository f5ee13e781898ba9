pub mod Forgotten
pub mod Saying
pub mod Worth
