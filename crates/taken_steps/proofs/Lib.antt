mod AcceptedNotes
mod EndedNumbers
mod FoundReasons
mod HeldLines
mod LineEnds
pub mod Refusing
mod SentMessages
