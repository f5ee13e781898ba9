-- What is read is of the grammar, and what is of the grammar is read: from the runs within a range up to whole maps.
pub mod Given
pub mod Rows
pub mod Bytes
pub mod Runs
pub mod Positions
pub mod Alternatives
pub mod Maps
