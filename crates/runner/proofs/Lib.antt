pub mod OnlyReport
pub use Rattle.run_account.proofs.SameEvents
