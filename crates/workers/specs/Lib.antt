pub use Rattle.run_shards.specs.Counting
pub use Rattle.run_shards.specs.PlannedCall
pub use Rattle.run_shards.specs.RunShards
pub mod PlanSteps
pub mod Working
