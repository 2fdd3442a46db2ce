pub mod Flags
pub mod Parts
pub mod Walked
pub mod Refused
pub mod Mixed
pub mod Blocks
pub mod Functions
