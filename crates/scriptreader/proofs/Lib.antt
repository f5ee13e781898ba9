pub mod Slots
pub mod Declared
pub mod Lengths
pub mod FaultlessDocuments
pub mod RepeatedNames
pub mod FoundPlaces
pub mod BooleanTests
mod Signs
pub mod SmallDocuments
pub mod Scopes
pub mod FoundNames
pub mod Meanings
pub mod Readings
pub mod Created
pub mod Accepted
pub mod FewCommands
