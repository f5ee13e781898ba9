pub mod GivenValues
pub mod OverLemmas
