pub mod Positions
pub mod Escapes
pub mod Excerpts
