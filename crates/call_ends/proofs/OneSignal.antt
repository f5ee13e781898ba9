-- What is left of a run where one signal alone is told: the script's lists of signals, the descriptors of requests and what lines play are cut down to it. A
-- configuration says of a line only whether it may play at all; there it says whether the line was given that one signal last. So what is known of every run,
-- that a line is silent where its configuration says so, tells of one signal after the other whether it was given.
pub mod Sets
pub mod Messages
pub mod Agents
pub mod Lines
pub mod Requests
pub mod Worlds
pub mod Openings
pub mod Effects
pub mod Steps
pub mod Closed
