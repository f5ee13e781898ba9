-- A sound world is good, every world of every run is sound, and so on the lines of an ended call another may begin.
pub mod GoodPaths
pub mod Good
pub mod EveryRun
pub mod Beginning
pub mod LeftAlone
pub mod Following
