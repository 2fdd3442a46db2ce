pub mod Again
pub mod Drawings
