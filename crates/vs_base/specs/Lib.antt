pub mod Operators
pub mod Applied
pub mod Events
