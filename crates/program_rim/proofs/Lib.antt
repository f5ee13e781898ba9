pub mod Bytes
pub mod Command
pub mod Lines
pub mod Gathering
