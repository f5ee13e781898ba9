pub mod Passing
pub mod Seating
pub mod Standing
