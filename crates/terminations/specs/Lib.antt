pub mod Table
pub mod Rows
pub mod LineFaults
pub mod Kept
