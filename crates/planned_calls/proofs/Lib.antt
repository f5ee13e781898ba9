pub mod CountedSteps
pub mod Faults
pub mod NumberedLines
pub mod PartCalls
pub mod RunShardsLemmas
pub mod SettledSteps
pub mod WrittenSteps
