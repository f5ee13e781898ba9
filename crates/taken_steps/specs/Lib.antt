pub mod Findings
pub mod Positions
pub mod Reasons
pub mod Taking
pub use Rattle.planned_calls.specs.Opening
pub use Rattle.planned_calls.specs.Shards
pub use Rattle.planned_calls.specs.OpenedCall
