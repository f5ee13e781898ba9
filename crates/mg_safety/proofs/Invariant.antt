-- The invariant of runs: what it is that the world shows a configuration, what a command and a request have to keep of it, and the
-- statements that the parts are proved against.
pub mod Shown
pub mod CarriedOver
pub mod Sound
pub mod Statements
pub mod OpeningShown
