pub mod OnlyReport
pub use Rattle.run_account.specs.FinalState
pub use Rattle.run_account.specs.Runs
pub use Rattle.run_account.specs.Parts
pub use Rattle.run_account.specs.ReportLines
pub use Rattle.run_account.specs.Line
pub use Rattle.run_account.specs.FaultNames
pub use Rattle.run_account.specs.RunFault
