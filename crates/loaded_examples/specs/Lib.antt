pub mod Lines
pub mod Scripts
pub mod Certificates
pub mod Told
