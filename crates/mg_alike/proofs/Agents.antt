-- Agents that are alike step alike.
pub mod Requests
pub mod Steps
