pub mod Requests
pub mod Notes
pub mod RisingNumbers
