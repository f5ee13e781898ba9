pub mod Output
pub mod Replies
pub mod VerdictLines
pub mod Writing
