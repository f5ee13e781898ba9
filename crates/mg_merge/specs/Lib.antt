pub mod Laws
pub mod Identifiers
