pub mod Below
mod OneWay
mod Executed
mod FateSets
pub mod Members
mod Telling
pub mod OneMore
mod Over
mod Passing
mod Picked
mod Reaching
mod Seeing
mod Warned
pub mod Fields
pub mod SameFlags
pub mod SameKeys
pub mod Coming
pub mod Exploring
pub mod Growth
pub mod Keeping
pub mod Keys
pub mod Lists
pub mod Moving
pub mod Seeking
pub mod Shown
pub mod Steps
pub mod Tracing
pub mod Followed
pub mod GoneOver
pub mod SameCommands
pub mod Sending
