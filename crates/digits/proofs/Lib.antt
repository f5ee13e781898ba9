pub mod Values
pub mod Steps
pub mod Parts
pub mod Remaining
pub mod Equality
pub mod Grammar
pub mod NeverTooLong
pub mod Refusals
