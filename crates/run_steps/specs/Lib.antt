pub mod CallsTold
pub mod Telling
