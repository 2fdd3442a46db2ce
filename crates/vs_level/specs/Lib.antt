pub mod Feeders
pub mod Graph
pub mod Kept
pub mod Level
pub mod Search
pub mod SortError
