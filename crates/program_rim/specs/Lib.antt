pub mod Devices
pub mod Fused
pub mod Input
pub mod Sections
pub mod Statuses
pub mod Words
