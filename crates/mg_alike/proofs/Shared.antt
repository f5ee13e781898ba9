-- Options, sets and lists that are alike, and renamings of which one holds more.
pub mod Options
pub mod Pairs
pub mod Below
pub mod Shapes
pub mod Images
pub mod Turned
