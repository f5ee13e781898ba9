pub mod Offers
pub mod Inboxes
pub mod Laws
pub mod Rising
