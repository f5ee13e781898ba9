-- That identifiers last: the numbers of a class, what commands use of them, how long requests are, and the law.
pub mod Candidates
pub mod UsedNumbers
pub mod FewCommands
pub mod Lasting
