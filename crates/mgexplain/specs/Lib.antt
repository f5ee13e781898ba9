pub mod Files
pub mod Forms
pub mod Saying
