pub mod Reading
pub mod Levels
pub mod Parts
pub mod Tails
