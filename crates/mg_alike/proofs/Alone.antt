-- A call that is alone on a gateway: it is the one that is open, and it never runs out of identifiers.
pub mod OneCall
pub mod Enough
pub mod Heirs
pub mod Opening
pub mod Throughout
