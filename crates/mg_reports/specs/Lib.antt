pub mod OneReport
pub mod Among
pub mod Logs
pub mod Laws
pub mod Sums
