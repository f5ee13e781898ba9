-- A command of a shard, and its requests, on the board of the merge.
pub mod SameCodes
pub mod Changes
pub mod ExecutedAlike
pub mod NamedItems
pub mod IdentifiersLeft
pub mod RequestRuns
