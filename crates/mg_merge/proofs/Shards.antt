-- All shards: where they open, their histories cut at the restarts, and the law.
pub mod Choosing
pub mod Opening
pub mod MergedOpening
pub mod Histories
pub mod Lanes
pub mod Merging
