pub mod RunAnswers
pub use Rattle.runner.specs.Line
