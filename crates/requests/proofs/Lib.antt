pub mod CommandLemmas
pub mod RefusalLemmas
pub mod RunLemmas
pub mod SameLemmas
pub mod IdleLemmas
pub mod FollowLemmas
