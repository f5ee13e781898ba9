mod Forgotten
pub mod Saying
pub mod YesStatus
