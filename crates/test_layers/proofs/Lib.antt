pub mod EqualStarts
