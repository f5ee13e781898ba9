pub mod Accepted
pub mod FaultNames
pub mod PlanValue
pub mod Reading
pub mod Tables
pub mod Texts
