pub mod Deeds
pub mod LineLists
pub mod OpenedCalls
pub mod OpenedLines
