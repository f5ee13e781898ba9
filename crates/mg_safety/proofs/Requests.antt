-- A request while it runs, command by command, up to any place.
pub mod RunNames
pub mod RunKnown
pub mod RunLines
pub mod RunCarried
pub mod RunNotes
pub mod RunSteps
pub mod Starting
pub mod Ending
pub mod Run
pub mod FewNotes
