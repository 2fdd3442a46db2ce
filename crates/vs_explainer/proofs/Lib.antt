pub mod Sights
pub mod Founds
pub mod Weighed
pub mod Joins
