pub mod Names
pub mod Refusals
pub mod Endings
pub mod Misses
pub mod Behind
