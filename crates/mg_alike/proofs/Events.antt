-- The events of a call in two worlds that treat it alike.
pub mod Offers
pub mod Executed
pub mod Created
pub mod Requests
pub mod Steps
pub mod LineEvents
pub mod Every
pub mod Kept
pub mod Settled
pub mod Settling
pub mod Happening
pub mod Others
pub mod Alone
pub mod Plain
pub mod Begun
