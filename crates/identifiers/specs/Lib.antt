pub mod Class
pub mod Count
pub mod Faults
pub mod Stock
