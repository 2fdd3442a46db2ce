pub mod Arena
pub mod Arguments
pub mod Counts
pub mod Kept
pub mod OneBits
pub mod Runs
pub mod Weights
