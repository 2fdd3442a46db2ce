pub mod Names
pub mod Drawn
