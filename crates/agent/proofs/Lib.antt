pub mod Fours
pub mod AgentLemmas
pub mod StepLemmas
pub mod AdvancingLemmas
