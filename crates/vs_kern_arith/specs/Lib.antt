pub mod Digits
pub mod Operators
pub mod Costs
pub mod Rows
