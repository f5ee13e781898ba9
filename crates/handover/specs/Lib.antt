pub mod Hands
pub mod Queues
