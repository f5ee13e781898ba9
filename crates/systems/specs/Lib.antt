pub mod Laws
pub mod Openings
pub mod Systems
