pub mod AccountLemmas
pub mod BeginLemmas
pub mod FillLemmas
pub mod PassLemmas
pub mod SeatLemmas
pub mod ServedLemmas
pub mod WorkerQueueLemmas
