pub mod Found
pub mod Added
pub mod Around
mod Placed
mod Ordered
