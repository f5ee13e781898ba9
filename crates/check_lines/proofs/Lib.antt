pub mod Told
pub mod VerdictLines
