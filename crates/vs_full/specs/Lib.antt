pub mod Searched
pub mod Roots
pub mod Selectors
pub mod Found
