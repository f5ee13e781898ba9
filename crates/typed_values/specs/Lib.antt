pub mod Keys
pub mod Text
pub mod Names
pub mod Shape
pub mod Texts
pub mod Unread
