pub mod Counts
pub mod FairSteps
pub mod FairLessons
