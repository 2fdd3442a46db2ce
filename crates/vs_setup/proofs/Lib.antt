pub mod Loads
pub mod Taken
pub mod Files
pub mod Opening
pub mod Lanes
pub mod Readied
pub mod Watching
pub mod Signals
