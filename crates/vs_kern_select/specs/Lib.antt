pub mod Operators
pub mod Costs
pub mod Matches
pub mod Moves
pub mod Words
