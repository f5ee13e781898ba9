pub mod ClassLemmas
pub mod CopyLemmas
pub mod CountLemmas
pub mod FullLemmas
pub mod HeldLemmas
pub mod SettleLemmas
pub mod SlotLemmas
pub mod SoundLemmas
