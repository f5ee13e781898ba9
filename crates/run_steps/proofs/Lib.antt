pub mod GoneSteps
pub mod ManySteps
pub mod Openings
pub mod Restarting
pub mod SameTranscripts
pub mod ToldLists
