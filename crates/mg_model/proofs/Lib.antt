-- lemmas that the crates above use too: case splits, lists, what links offer, the lines of an opening, terminations, what is
-- built, agents, claims, settled boards, histories and sets of numbers
pub mod Cases
pub mod Single
pub mod Offered
pub mod OpenedLines
pub mod Terminations
pub mod Built
pub mod Agents
pub mod Claims
pub mod Settled
pub mod Histories
pub mod Members
-- lemmas on the definitions
pub mod ConfigurationLemmas
pub mod OfferLemmas
