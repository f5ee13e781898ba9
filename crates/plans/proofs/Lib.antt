pub mod AcceptedPlans
pub mod LineLemmas
pub mod NumberLemmas
pub mod OneWord
pub mod Readings
