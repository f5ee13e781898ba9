-- The small laws of boards, agents, calls and openings.
pub mod BoardLaws
pub mod AgentLaws
pub mod CallLaws
pub mod OpeningLaws
pub mod DistinctLines
