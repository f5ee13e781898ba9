-- One command on two boards that are alike.
pub mod Twins
pub mod Reading
pub mod Renamed
pub mod Effects
pub mod Changes
pub mod Results
